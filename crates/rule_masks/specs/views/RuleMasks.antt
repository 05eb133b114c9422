-- The tests of a rule made in a piece, off the rule's notes and the piece's cells, as two sets of their numbers: those that are not
-- known and those that are contradicted.
use Rattle.std.specs.Prelude.{ℕ, ◌/◌, ◌%◌, List, [], ◌∷◌, map}
use Rattle.terms.specs.RuleTests.{PlaceTest}
use Rattle.terms.specs.Outcome.{Outcome}
use Rattle.patterns.specs.views.Note.{Note}
use Rattle.sheet.specs.views.NoteRanges.{lows_of, highs_of}
use Rattle.sheet_tests.specs.SheetTests.{Test}
use Rattle.pairs.specs.views.NoteVariables.{notes_codes}
use Rattle.codes.specs.views.Codes.{want_low, want_high}
use Rattle.outcomes.specs.views.CellOutcome.{place_cells, pair_cells}
use Rattle.decision.specs.Walk.{is_not_known, is_contradicted}
use Rattle.test_list.specs.views.Tests.{spot_code}
use Rattle.rows.specs.views.Wants.{notes_tests}
use Rattle.rule_masks.specs.declared.Masks.{Masks}
use Rattle.rule_masks.specs.views.TestNumbers.{test_number, code_test, with_if}

-- A test that was made: its code and its outcome.
pub record Made : Type 0 where
  pub code : ℕ
  pub outcome : Outcome

abbrev pub made : ℕ → Outcome → Made
made code outcome = record { code = code; outcome = outcome }

abbrev pub no_masks : Masks
no_masks = record { unknown = 0; contradicted = 0 }

module _ (tests : List Test) where
  -- The masks with one test more, and with those of a list.
  abbrev pub with_made : Masks → Made → Masks
  with_made m x = record {
    unknown = with_if (is_not_known x.outcome) m.unknown (test_number tests (code_test x.code));
    contradicted = with_if (is_contradicted x.outcome) m.contradicted (test_number tests (code_test x.code));
  }

  abbrev pub after_all : List Made → Masks → Masks
  after_all [] m = m
  after_all (x ∷ xs) m = after_all xs (with_made m x)

-- A place test and an equality test, made on the cells of a piece.
module _ (cells : List ℕ) where
  abbrev pub place_made : PlaceTest → Made
  place_made x = made (spot_code x.place) (place_cells cells x.place (want_low x.want) (want_high x.want))

  abbrev pub pair_made : ℕ → Made
  pair_made c = made c (pair_cells cells (c / 0x1_0000) (c % 0x1_0000))

module _ (tests : List Test) (cells : List ℕ) where
  abbrev pub after_places : List ℕ → List ℕ → List Note → Masks → Masks
  after_places low high notes m = after_all tests (map (place_made cells) (notes_tests low high notes)) m

  abbrev pub after_pairs : List ℕ → Masks → Masks
  after_pairs codes m = after_all tests (map (pair_made cells) codes) m

  -- All tests of a rule with these notes.
  unfoldable pub notes_masks : List Note → Masks
  notes_masks notes = after_pairs (notes_codes notes) (after_places (lows_of notes) (highs_of notes) notes no_masks)
