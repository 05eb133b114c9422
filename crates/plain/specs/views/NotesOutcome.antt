-- The outcome of a rule's tests in a piece that is laid out by place, off the rule's notes.
use Rattle.std.specs.Prelude.{ℕ, Bool, true, false, List, leb, get_or}
use Rattle.terms.specs.Term.{on_gauge}
use Rattle.terms.specs.Pattern.{Patterns}
use Rattle.terms.specs.RuleTests.{PairTest, pairs_of}
use Rattle.terms.specs.Outcome.{Outcome, holds, ◌and◌, together}
use Rattle.patterns.specs.declared.PatternRecord.{PatternRecord}
use Rattle.patterns.specs.declared.PatternRecord.TheVariants.{Anything, Symbol, Range, Compound, Variable, Ranged, Series, Gauged}
use Rattle.patterns.specs.views.Note.{Note}
use Rattle.sheet.specs.views.Noted.{rule_notes}
use Rattle.sheet.specs.views.NoteRanges.{lows_of, highs_of}
use Rattle.pairs.specs.views.NoteVariables.{notes_variables}
use Rattle.codes.specs.views.Codes.{symbol_code, compound_code, number_code}
use Rattle.outcomes.specs.views.CellOutcome.{place_cells, pair_cells}

-- A test where there is one, else nothing to contradict.
abbrev pub tested_if : Bool → Outcome → Outcome
tested_if true o = o
tested_if false o = holds

-- The bytes of a record that is no compound.
abbrev pub flat_bytes : PatternRecord → ℕ
flat_bytes Anything = 1
flat_bytes (Symbol a) = 3
flat_bytes (Range l h) = 5
flat_bytes (Compound a n) = 0
flat_bytes (Variable v) = 2
flat_bytes (Ranged v l h) = 6
flat_bytes (Series l h) = 5
flat_bytes (Gauged g l h) = 6

module _ (cells : List ℕ) where
  -- The test of a symbol, a series, a range or a compound at place p; a variable has its range's.
  abbrev pub fixed_outcome : ℕ → PatternRecord → Outcome
  fixed_outcome p Anything = holds
  fixed_outcome p (Symbol a) = place_cells cells p (symbol_code a) (symbol_code a)
  fixed_outcome p (Range l h) = place_cells cells p (number_code l) (number_code h)
  fixed_outcome p (Compound a n) = place_cells cells p (compound_code a n) (compound_code a n)
  fixed_outcome p (Variable v) = holds
  fixed_outcome p (Ranged v l h) = holds
  fixed_outcome p (Series l h) = place_cells cells p (symbol_code l) (symbol_code h)
  fixed_outcome p (Gauged g l h) = place_cells cells p (number_code (on_gauge g l)) (number_code (on_gauge g h))

  -- The test of a variable's common range at place p. A high end over 65,535 says that it has none.
  abbrev pub range_outcome : ℕ → ℕ → ℕ → Outcome
  range_outcome p low high = tested_if (leb high 65535) (place_cells cells p (number_code low) (number_code high))

  -- The place test of a record at place p, where these are the ends of the variables' ranges.
  abbrev pub record_outcome : List ℕ → List ℕ → ℕ → PatternRecord → Outcome
  record_outcome low high p Anything = holds
  record_outcome low high p (Symbol a) = place_cells cells p (symbol_code a) (symbol_code a)
  record_outcome low high p (Range l h) = place_cells cells p (number_code l) (number_code h)
  record_outcome low high p (Compound a n) = place_cells cells p (compound_code a n) (compound_code a n)
  record_outcome low high p (Variable v) = range_outcome p (get_or low v 0) (get_or high v 0)
  record_outcome low high p (Ranged v l h) = range_outcome p (get_or low v 0) (get_or high v 0)
  record_outcome low high p (Series l h) = place_cells cells p (symbol_code l) (symbol_code h)
  record_outcome low high p (Gauged g l h) = place_cells cells p (number_code (on_gauge g l)) (number_code (on_gauge g h))

  abbrev pub note_outcome : List ℕ → List ℕ → Note → Outcome
  note_outcome low high n = record_outcome low high n.place n.what

  abbrev pub pair_test_cells : PairTest → Outcome
  pair_test_cells x = pair_cells cells x.first x.second

  -- All place tests, all equality tests, and all tests of a rule.
  abbrev pub places_outcome : List ℕ → List ℕ → List Note → Outcome
  places_outcome low high notes = together (note_outcome low high) notes

  abbrev pub pairs_outcome : List Note → Outcome
  pairs_outcome notes = together pair_test_cells (pairs_of (notes_variables notes))

  unfoldable pub notes_outcome : List Note → Outcome
  notes_outcome notes = ◌and◌ (places_outcome (lows_of notes) (highs_of notes) notes) (pairs_outcome notes)

  abbrev pub cells_outcome : Patterns → Outcome
  cells_outcome rule = notes_outcome (rule_notes rule)
