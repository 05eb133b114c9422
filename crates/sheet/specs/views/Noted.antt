-- A rule as the reader notes it: its records other than anything, each with its place, in preorder. All that is asked
-- of a rule later, its ranges, tests and pairs, is read off this list.
use Rattle.std.specs.Prelude.{ℕ, pred, suc, ◌+◌, List, [], ◌∷◌, ◌++◌}
use Rattle.places.specs.Numbering.{stride}
use Rattle.terms.specs.Pattern.{Pattern, Patterns, count_patterns, pnil, pcons}
use Rattle.terms.specs.Pattern.{anything, the_symbol, the_series, the_range, the_gauged, the_compound, variable, ranged_variable}
use Rattle.patterns.specs.declared.PatternRecord.TheVariants.{Symbol, Range, Compound, Variable, Ranged, Series, Gauged}
use Rattle.patterns.specs.views.Note.{note}
use Rattle.patterns.specs.views.Note.{Note}

-- The notes of a pattern at place b with so many levels below it, and of a row of patterns of which the first stands
-- there.
abbrev mutual
  pub pattern_notes : Pattern → ℕ → ℕ → List Note
  pattern_notes anything below b = []
  pattern_notes (the_symbol a) below b = note b (Symbol a) ∷ []
  pattern_notes (the_range l h) below b = note b (Range l h) ∷ []
  pattern_notes (the_compound a ps) below b =
      note b (Compound a (count_patterns ps)) ∷ patterns_notes ps (pred below) (suc b)
  pattern_notes (variable v) below b = note b (Variable v) ∷ []
  pattern_notes (ranged_variable v l h) below b = note b (Ranged v l h) ∷ []
  pattern_notes (the_series l h) below b = note b (Series l h) ∷ []
  pattern_notes (the_gauged g l h) below b = note b (Gauged g l h) ∷ []

  pub patterns_notes : Patterns → ℕ → ℕ → List Note
  patterns_notes pnil below b = []
  patterns_notes (pcons p ps) below b = pattern_notes p below b ++ patterns_notes ps below (b + stride (suc below))

abbrev pub rule_notes : Patterns → List Note
rule_notes rule = patterns_notes rule 3 0
