-- The tests of a rule as a set (document 01, "The walk": "a set of tests, test t being bit t of 64"), off its notes.
use Rattle.std.specs.Prelude.{ℕ, ◌+◌, ◌||◌, List, [], ◌∷◌, map, eqb, get_or}
use Rattle.masks.specs.Mask.{has, mask_of}
use Rattle.terms.specs.RuleTests.{PlaceTest}
use Rattle.patterns.specs.views.Note.{Note}
use Rattle.sheet.specs.views.NoteRanges.{lows_of, highs_of}
use Rattle.pairs.specs.views.Slot.{slot}
use Rattle.pairs.specs.views.NoteVariables.{notes_codes}
use Rattle.rows.specs.views.Wants.{notes_tests}

-- A set of numbers below 64 with one number more, and with those of a list. A number from 64 on is in no set.
unfoldable pub with_test : ℕ → ℕ → ℕ
with_test row t = mask_of 64 (λ j. has row j || eqb t j)

abbrev pub with_tests : List ℕ → ℕ → ℕ
with_tests [] row = row
with_tests (t ∷ ts) row = with_tests ts (with_test row t)

-- Behind so many places the pairs of an ascending list are numbered; c is a pair as one number.
abbrev pub pair_number : ℕ → List ℕ → ℕ → ℕ
pair_number count codes c = count + slot c codes

-- The numbers of place tests, and of pairs.
abbrev pub place_numbers : List ℕ → List PlaceTest → List ℕ
place_numbers numbers tests = map (λ (x : PlaceTest). get_or numbers x.place 0) tests

abbrev pub pair_numbers : ℕ → List ℕ → List ℕ → List ℕ
pair_numbers count codes cs = map (pair_number count codes) cs

-- The numbers of a rule's place tests and of its pairs.
unfoldable pub row_of : List ℕ → ℕ → List ℕ → List ℕ → List ℕ → List Note → ℕ
row_of numbers count codes low high notes =
    with_tests (pair_numbers count codes (notes_codes notes)) (with_tests (place_numbers numbers (notes_tests low high notes)) 0)

-- The row of a rule, with the ranges that its own notes give.
abbrev pub notes_row : List ℕ → ℕ → List ℕ → List Note → ℕ
notes_row numbers count codes notes = row_of numbers count codes (lows_of notes) (highs_of notes) notes
