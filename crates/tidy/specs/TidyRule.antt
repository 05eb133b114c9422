-- The tidy form of a rule (document 02, request 2): "variables numbered from 0 by first appearance in each rule, one that stands
-- once written as anything or its range, a repeated one with its common range, if any, at each of its places."
use Rattle.std.specs.Prelude.{ℕ, suc, Bool, ◌&&◌, not, cond, List, [], ◌∷◌, eqb, ltb}
use Rattle.std.proofs.Math.Option.{Option, some, none}
use Rattle.basics.specs.Lists.{filter, any_of}
use Rattle.terms.specs.Pattern.{Pattern, Patterns, pnil, pcons}
use Rattle.terms.specs.Pattern.{anything, the_symbol, the_series, the_range, the_gauged, the_compound, variable, ranged_variable}
use Rattle.terms.specs.RuleTests.{Occurrence, Range, patterns_range, rule_variables}

-- Variable v stands there.
abbrev pub is_named : ℕ → Occurrence → Bool
is_named v x = eqb x.name v

-- The variable of o stands at x too, which is a later place, or an earlier one.
abbrev pub is_later : Occurrence → Occurrence → Bool
is_later o x = is_named o.name x && ltb o.place x.place

abbrev pub is_earlier : Occurrence → Occurrence → Bool
is_earlier o x = is_named o.name x && ltb x.place o.place

-- How many things come before the first of which f is true.
abbrev pub position_of : {A : Type 0} → (A → Bool) → List A → ℕ
position_of f [] = 0
position_of f (x ∷ xs) = cond (f x) 0 (suc (position_of f xs))

-- Of the variables of a rule, where they stand in preorder:
module _ (variables : List Occurrence) where
  -- The variable of o stands at a later place again, or stood at an earlier one before.
  abbrev pub stands_again : Occurrence → Bool
  stands_again o = any_of (is_later o) variables

  abbrev pub stood_before : Occurrence → Bool
  stood_before o = any_of (is_earlier o) variables

  -- Variable v is "a repeated one": it stands at a place, and again at a later one.
  abbrev pub is_again : ℕ → Occurrence → Bool
  is_again v o = is_named v o && stands_again o

  abbrev pub is_repeated : ℕ → Bool
  is_repeated v = any_of (is_again v) variables

  -- A "first appearance": a repeated variable stands there that stood nowhere before. Only repeated variables are numbered.
  abbrev pub appears_first : Occurrence → Bool
  appears_first o = stands_again o && not (stood_before o)

  abbrev pub first_appearances : List Occurrence
  first_appearances = filter appears_first variables

  -- The number of a repeated variable, "numbered from 0 by first appearance in each rule".
  abbrev pub new_number : ℕ → ℕ
  new_number v = position_of (is_named v) first_appearances

-- A variable becomes, as "one that stands once written as anything or its range",
abbrev pub single : Option Range → Pattern
single none = anything
single (some x) = the_range x.low x.high

-- or as "a repeated one with its common range, if any, at each of its places".
abbrev pub repeated : ℕ → Option Range → Pattern
repeated n none = variable n
repeated n (some x) = ranged_variable n x.low x.high

-- A series: "Pattern 21 is then the series of one symbol; both give the same graph, and tidying writes 21" (request 5).
abbrev pub tidy_series : ℕ → ℕ → Pattern
tidy_series l h = cond (eqb l h) (the_symbol l) (the_series l h)

-- A range on a gauge: "Gauge 0 is tidied to 22" (request 7).
abbrev pub tidy_gauged : ℕ → ℕ → ℕ → Pattern
tidy_gauged g l h = cond (eqb g 0) (the_range l h) (the_gauged g l h)

-- The tidy form of what stands in a rule with these variables, where range_of v is the common part of the ranges of variable v.
-- All that is no variable, no series and no range on a gauge stays as it is.
module _ (variables : List Occurrence) (range_of : ℕ → Option Range) where
  abbrev pub tidy_variable : ℕ → Pattern
  tidy_variable v = cond (is_repeated variables v) (repeated (new_number variables v) (range_of v)) (single (range_of v))

  abbrev mutual
    pub tidy_pattern : Pattern → Pattern
    tidy_pattern anything = anything
    tidy_pattern (the_symbol a) = the_symbol a
    tidy_pattern (the_series l h) = tidy_series l h
    tidy_pattern (the_range l h) = the_range l h
    tidy_pattern (the_gauged g l h) = tidy_gauged g l h
    tidy_pattern (the_compound a ps) = the_compound a (tidy_patterns ps)
    tidy_pattern (variable v) = tidy_variable v
    tidy_pattern (ranged_variable v l h) = tidy_variable v

    pub tidy_patterns : Patterns → Patterns
    tidy_patterns pnil = pnil
    tidy_patterns (pcons p ps) = pcons (tidy_pattern p) (tidy_patterns ps)

abbrev pub tidy_rule : Patterns → Patterns
tidy_rule rule = tidy_patterns (rule_variables rule) (patterns_range rule) rule
