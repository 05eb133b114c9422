-- The common range of each variable of a rule, off its notes (document 01, "Places and tests"; question 9).
use Rattle.std.specs.Prelude.{ℕ, Bool, cond, List, [], ◌∷◌, map, eqb, leb, get_or}
use Rattle.std.proofs.Math.Option.{Option, some, none}
use Rattle.basics.specs.Lists.{count_from, all_below}
use Rattle.terms.specs.RuleTests.{Range, common_part}
use Rattle.patterns.specs.declared.PatternRecord.{PatternRecord}
use Rattle.patterns.specs.declared.PatternRecord.TheVariants.{Anything, Symbol, Series, Range as RangeOf, Compound}
use Rattle.patterns.specs.declared.PatternRecord.TheVariants.{Variable, Ranged, Gauged}
use Rattle.sheet.specs.declared.Ranges.{Ranges}
use Rattle.patterns.specs.views.Note.{Note}

-- The range that a record gives to variable v.
abbrev pub record_range : PatternRecord → ℕ → Option Range
record_range Anything v = none
record_range (Symbol a) v = none
record_range (RangeOf l h) v = none
record_range (Compound a n) v = none
record_range (Variable u) v = none
record_range (Ranged u l h) v = cond (eqb u v) (some (record { low = l; high = h })) none
record_range (Series l h) v = none
record_range (Gauged g l h) v = none

-- "The common part of those ranges", of variable v.
abbrev pub range_in : List Note → ℕ → Option Range
range_in [] v = none
range_in (n ∷ notes) v = common_part (record_range n.what v) (range_in notes v)

-- As two numbers: where there is no range, 0 and a number that no wide field holds.
abbrev pub low_end : Option Range → ℕ
low_end none = 0
low_end (some x) = x.low

abbrev pub high_end : Option Range → ℕ
high_end none = 65536
high_end (some x) = x.high

-- For each of the 16 variables.
unfoldable pub for_variables : (ℕ → ℕ) → List ℕ
for_variables f = map f (count_from 0 16)

abbrev pub lows_of : List Note → List ℕ
lows_of notes = for_variables (λ (v : ℕ). low_end (range_in notes v))

abbrev pub highs_of : List Note → List ℕ
highs_of notes = for_variables (λ (v : ℕ). high_end (range_in notes v))

abbrev pub note_ranges : List Note → Ranges
note_ranges notes = record { low = lows_of notes; high = highs_of notes }

-- "9 Has each variable's set of ranges a number in common?"
unfoldable pub ends_meet : List ℕ → List ℕ → Bool
ends_meet low high = all_below 16 (λ (v : ℕ). leb (get_or low v 0) (get_or high v 0))

abbrev pub notes_meet : List Note → Bool
notes_meet notes = ends_meet (lows_of notes) (highs_of notes)
