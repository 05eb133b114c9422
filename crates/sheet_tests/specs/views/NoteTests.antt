-- The place tests of a rule, read off its notes.
use Rattle.std.specs.Prelude.{ℕ, Bool, true, false, cond, ◌&&◌, List, [], ◌∷◌, ltb, get_or}
use Rattle.patterns.specs.declared.PatternRecord.{PatternRecord}
use Rattle.patterns.specs.declared.PatternRecord.TheVariants.{Anything, Symbol, Range, Compound, Variable, Ranged, Series, Gauged}
use Rattle.patterns.specs.views.Note.{Note}

-- A record is a place test: a symbol, a series, a range, a compound, or a variable with a range.
abbrev pub is_tested : (ℕ → Bool) → PatternRecord → Bool
is_tested ranged Anything = false
is_tested ranged (Symbol a) = true
is_tested ranged (Range l h) = true
is_tested ranged (Compound a n) = true
is_tested ranged (Variable v) = ranged v
is_tested ranged (Ranged v l h) = ranged v
is_tested ranged (Series l h) = true
is_tested ranged (Gauged g l h) = true

-- The places of the place tests.
abbrev pub tested_places : (ℕ → Bool) → List Note → List ℕ
tested_places ranged [] = []
tested_places ranged (n ∷ ns) =
    cond (is_tested ranged n.what) (n.place ∷ tested_places ranged ns) (tested_places ranged ns)

-- The least high ends of the variables' ranges, in an array, say which variables have a range: 65,536 is no high end.
abbrev pub has_range : List ℕ → ℕ → Bool
has_range high v = ltb v 16 && ltb (get_or high v 0) 0x1_0000
