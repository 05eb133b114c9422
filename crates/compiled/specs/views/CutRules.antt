-- The cuts with a rule more: it turns at what it wants by each of its place tests, in the part of the test.
use Rattle.std.specs.Prelude.{ℕ, suc, ◌+◌, ◌*◌, ◌^◌, ◌≤◌, List, [], ◌∷◌, length, get_or}
use Rattle.records.specs.Writing.{splice}
use Rattle.terms.specs.RuleTests.{Want, PlaceTest}
use Rattle.patterns.specs.views.Note.{Note}
use Rattle.sheet.specs.views.NoteRanges.{lows_of, highs_of}
use Rattle.codes.specs.views.Codes.{want_low, want_high}
use Rattle.cuts.specs.views.Cuts.{part_at, count_at, cuts_in, part_words, toggle}
use Rattle.rows.specs.views.Wants.{notes_tests}

-- What a rule with these notes wants, by its place tests.
abbrev pub wants_of : List Note → List PlaceTest
wants_of notes = notes_tests (lows_of notes) (highs_of notes) notes

-- Some rules turn at a code more in the part that begins there.
abbrev pub turn_in : List ℕ → ℕ → ℕ → ℕ → List ℕ
turn_in c from code bit = splice c from (part_words (toggle code bit (cuts_in c from)))

-- Rule i turns where what it wants begins, and after its end.
abbrev pub turn_want : ℕ → ℕ → Want → List ℕ → List ℕ
turn_want i from w c = turn_in (turn_in c from (want_low w) (2 ^ i)) from (suc (want_high w)) (2 ^ i)

module _ (numbers : List ℕ) (rules i : ℕ) where
  -- Where the part of a place test begins.
  abbrev pub part_of : PlaceTest → ℕ
  part_of x = part_at rules (get_or numbers x.place 0)

  abbrev pub turn_all : List PlaceTest → List ℕ → List ℕ
  turn_all [] c = c
  turn_all (x ∷ xs) c = turn_all xs (turn_want i (part_of x) x.want c)

  -- There is room for two cuts more each time.
  abbrev pub TurnsFit : List PlaceTest → List ℕ → Type 0
  TurnsFit [] c = Unit
  TurnsFit (x ∷ xs) c =
      (part_of x + 5 + 2 * count_at c (part_of x) ≤ length c) × TurnsFit xs (turn_want i (part_of x) x.want c)
