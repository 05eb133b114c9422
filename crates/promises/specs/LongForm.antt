-- A rule in which each symbol is written as a series, and each range as one on gauge 0 (document 02, requests 5 and 7): "Pattern 21
-- is then the series of one symbol", and "pattern 22 accepts gauge 0".
use Rattle.std.specs.Prelude.{map}
use Rattle.terms.specs.Pattern.{Pattern, Patterns, pnil, pcons}
use Rattle.terms.specs.Pattern.{anything, the_symbol, the_series, the_range, the_gauged, the_compound, variable, ranged_variable}
use Rattle.sheet.specs.Sheet.{Sheet}

abbrev mutual
  pub long_form : Pattern → Pattern
  long_form anything = anything
  long_form (the_symbol a) = the_series a a
  long_form (the_series l h) = the_series l h
  long_form (the_range l h) = the_gauged 0 l h
  long_form (the_gauged g l h) = the_gauged g l h
  long_form (the_compound a ps) = the_compound a (long_forms ps)
  long_form (variable v) = variable v
  long_form (ranged_variable v l h) = ranged_variable v l h

  pub long_forms : Patterns → Patterns
  long_forms pnil = pnil
  long_forms (pcons p ps) = pcons (long_form p) (long_forms ps)

-- A sheet so written.
abbrev pub long_sheet : Sheet → Sheet
long_sheet sheet = record { arity = sheet.arity; rules = map long_forms sheet.rules }
