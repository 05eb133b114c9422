-- A rule's patterns stand at the places that document 01's numbering gives them, as the terms of a piece do, and the
-- rule's place tests and variables are exactly those of the patterns that stand there. For patterns of any depth.
use Prim.Native.Nat.{ℕ, zero, suc, pred, ◌+◌, ◌*◌, ◌-◌}
use mathlib.Core.Path.{◌≡◌, refl, ap, ap₂, sym, subst}
use mathlib.Core.Logic.{◌↔◌}
use mathlib.Core.List.{List, [], ◌∷◌, ◌++◌}
use mathlib.Core.Option.{Option, some, none}
use native.Mathlib.Nat.{mul_comm}
use native.Mathlib.Omega.{arith}
use Rattle.places.specs.Numbering.{stride, argument_place, child_place}
use Rattle.basics.specs.Lists.{Mem, All}
use Rattle.basics.proofs.Clash.{clash}
use Rattle.basics.proofs.ListLaws.{all_join, all_at, all_from}
use Rattle.basics.proofs.Filters.{mem_left, mem_right}
use Rattle.terms.proofs.Numbered.{row_next, row_first}
use Rattle.terms.specs.Term.{on_gauge}
use Rattle.terms.specs.Pattern.{Pattern, Patterns, count_patterns, anything, the_symbol, the_series, the_range, the_gauged, the_compound, variable, ranged_variable, pnil, pcons}
use Rattle.terms.specs.RuleTests.{a_symbol, a_number, a_compound, PlaceTest, at, Occurrence, Range, range_test, patterns_range}
use Rattle.terms.specs.RuleTests.{pattern_variables, patterns_variables, pattern_tests, patterns_tests, place_tests, rule_variables}

-- Argument pattern a, counted from 1, or none.
abbrev pub argument_pattern : Patterns → ℕ → Option Pattern
argument_pattern pnil a = none
argument_pattern (pcons p ps) zero = none
argument_pattern (pcons p ps) (suc zero) = some p
argument_pattern (pcons p ps) (suc (suc a)) = argument_pattern ps (suc a)

-- A pattern stands at a place of the rule, which has so many levels: as its argument a, or as argument j of a compound
-- that stands at a place.
pub data PatternStands (rule : Patterns) : ℕ → ℕ → Pattern → Type 0 where
  argument : (a : ℕ) {p : Pattern} → argument_pattern rule a ≡ some p → PatternStands rule 4 (argument_place a) p
  child
      : {r n c : ℕ} {ps : Patterns} {p : Pattern} → PatternStands rule r n (the_compound c ps)
      → (j : ℕ) → argument_pattern ps j ≡ some p → PatternStands rule (pred r) (child_place r n j) p

-- Things that a pattern gives at its place, collected from a pattern that stands at place b with r levels and from all
-- that stand below it; and so for a row of patterns.
module _ {X : Type 0} (own : Pattern → ℕ → List X) where
  abbrev mutual
    collect : Pattern → ℕ → ℕ → List X
    collect anything r b = own anything b
    collect (the_symbol a) r b = own (the_symbol a) b
    collect (the_series l h) r b = own (the_series l h) b
    collect (the_range l h) r b = own (the_range l h) b
    collect (the_gauged g l h) r b = own (the_gauged g l h) b
    collect (the_compound a ps) r b = own (the_compound a ps) b ++ collects ps (pred r) (suc b)
    collect (variable v) r b = own (variable v) b
    collect (ranged_variable v l h) r b = own (ranged_variable v l h) b

    collects : Patterns → ℕ → ℕ → List X
    collects pnil r b = []
    collects (pcons p ps) r b = collect p r b ++ collects ps r (b + stride r)

  -- A pattern's own things are collected.
  own_collected : (p : Pattern) (r b : ℕ) {x : X} → Mem x (own p b) → Mem x (collect p r b)
  own_collected anything r b m = m
  own_collected (the_symbol a) r b m = m
  own_collected (the_series l h) r b m = m
  own_collected (the_range l h) r b m = m
  own_collected (the_gauged g l h) r b m = m
  own_collected (the_compound a ps) r b m = mem_left (collects ps (pred r) (suc b)) m
  own_collected (variable v) r b m = m
  own_collected (ranged_variable v l h) r b m = m

  -- What argument a of a row collects, a − 1 strides after the row's begin, the row collects.
  argument_collected
      : (ps : Patterns) (r b a : ℕ) {p : Pattern} {x : X} → argument_pattern ps a ≡ some p
      → Mem x (collect p r (b + (a - 1) * stride r)) → Mem x (collects ps r b)
  argument_collected pnil r b a e m = clash (cc)
  argument_collected (pcons q ps) r b zero e m = clash (cc)
  argument_collected (pcons q ps) r b (suc zero) {p} {x} e m =
      let same : q ≡ p = cc in
      let first : b + (1 - 1) * stride r ≡ b = omega arith in
      mem_left (collects ps r (b + stride r)) (rw (← same, first) at m)
  argument_collected (pcons q ps) r b (suc (suc a)) {p} {x} e m =
      mem_right (collect q r b)
      (argument_collected ps r (b + stride r) (suc a) e
      (subst (λ (n : ℕ). Mem x (collect p r n)) (sym (row_next b a (stride r))) m))

  module _ (rule : Patterns) where
    -- What a pattern that stands at a place collects, the rule collects.
    stands_collected
        : {r b : ℕ} {p : Pattern} → PatternStands rule r b p → {x : X} → Mem x (collect p r b) → Mem x (collects rule 4 0)
    stands_collected (argument a {p} e) {x} m =
        let place : argument_place a ≡ 0 + (a - 1) * stride 4 = omega (arith, mul_comm (stride 4) (a - 1)) in
        argument_collected rule 4 0 a e (subst (λ (n : ℕ). Mem x (collect p 4 n)) place m)
    stands_collected (child {r} {n} {c} {ps} {p} s j e) {x} m =
        let place : child_place r n j ≡ suc n + (j - 1) * stride (pred r) = omega arith in
        stands_collected s
        (mem_right (own (the_compound c ps) n)
        (argument_collected ps (pred r) (suc n) j e (subst (λ (k : ℕ). Mem x (collect p (pred r) k)) place m)))

    -- x is of a pattern that stands in the rule.
    abbrev OfPattern : X → Type 0
    OfPattern x = (r n : ℕ) × (p : Pattern) × PatternStands rule r n p × Mem x (own p n)

    -- The argument patterns of a row stand in a row, and so do those after its first one.
    abbrev RowStands : Patterns → ℕ → ℕ → Type 0
    RowStands ps r b = (j : ℕ) (p : Pattern) → argument_pattern ps j ≡ some p → PatternStands rule r (b + (j - 1) * stride r) p

    row_rest : (p : Pattern) (ps : Patterns) (r b : ℕ) → RowStands (pcons p ps) r b → RowStands ps r (b + stride r)
    row_rest p pnil r b row zero q e = clash (cc)
    row_rest p (pcons q ps) r b row zero u e = clash (cc)
    row_rest p ps r b row (suc a) q e =
        subst (λ (n : ℕ). PatternStands rule r n q) (sym (row_next b a (stride r))) (row (suc (suc a)) q e)

    -- A pattern's own things are of it.
    own_stands : (p : Pattern) (r b : ℕ) → PatternStands rule r b p → All OfPattern (own p b)
    own_stands p r b s = all_from OfPattern (own p b) (λ x m. (r, b, p, s, m))

    mutual
      -- What is collected from a pattern that stands at a place is of a pattern that stands in the rule,
      collected_stands : (p : Pattern) (r b : ℕ) → PatternStands rule r b p → All OfPattern (collect p r b)
      collected_stands anything r b s = own_stands anything r b s
      collected_stands (the_symbol a) r b s = own_stands (the_symbol a) r b s
      collected_stands (the_series l h) r b s = own_stands (the_series l h) r b s
      collected_stands (the_range l h) r b s = own_stands (the_range l h) r b s
      collected_stands (the_gauged g l h) r b s = own_stands (the_gauged g l h) r b s
      collected_stands (the_compound a ps) r b s =
          all_join OfPattern (own (the_compound a ps) b) (collects ps (pred r) (suc b)) (own_stands (the_compound a ps) r b s)
          (row_collected ps (pred r) (suc b) (λ j p e. moved j p (child s j e)))
        where
          moved
              : (j : ℕ) (p : Pattern) → PatternStands rule (pred r) (child_place r b j) p
              → PatternStands rule (pred r) (suc b + (j - 1) * stride (pred r)) p
          moved j p c =
              let place : child_place r b j ≡ suc b + (j - 1) * stride (pred r) = omega arith in
              subst (λ (n : ℕ). PatternStands rule (pred r) n p) place c
      collected_stands (variable v) r b s = own_stands (variable v) r b s
      collected_stands (ranged_variable v l h) r b s = own_stands (ranged_variable v l h) r b s

      -- and so for a row.
      row_collected : (ps : Patterns) (r b : ℕ) → RowStands ps r b → All OfPattern (collects ps r b)
      row_collected pnil r b row = tt
      row_collected (pcons p ps) r b row =
          let head = subst (λ (n : ℕ). PatternStands rule r n p) (row_first b (stride r)) (row 1 p refl) in
          all_join OfPattern (collect p r b) (collects ps r (b + stride r)) (collected_stands p r b head)
          (row_collected ps r (b + stride r) (row_rest p ps r b row))

    -- A rule collects exactly what the patterns that stand in it give.
    collected : (x : X) → Mem x (collects rule 4 0) ↔ OfPattern x
    collected x =
        let row : RowStands rule 4 0 = λ j p e.
        subst (λ (n : ℕ). PatternStands rule 4 n p) (omega (arith, mul_comm (stride 4) (j - 1))) (argument j e) in (
          λ m. all_at OfPattern m (row_collected rule 4 0 row),
          λ o. stands_collected o.3 (own_collected o.2 o.0 o.1 o.4),
        )

-- A pattern's own place test, at its place: "one place test for each symbol, range or compound (id and arity)", for a series too,
-- and "if any of its records is ranged, the common part of those ranges is a place test at all k places" of a variable.
abbrev pub own_tests : (ℕ → Option Range) → Pattern → ℕ → List PlaceTest
own_tests range_of anything n = []
own_tests range_of (the_symbol a) n = at n (a_symbol a a) ∷ []
own_tests range_of (the_series l h) n = at n (a_symbol l h) ∷ []
own_tests range_of (the_range l h) n = at n (a_number l h) ∷ []
own_tests range_of (the_gauged g l h) n = at n (a_number (on_gauge g l) (on_gauge g h)) ∷ []
own_tests range_of (the_compound a ps) n = at n (a_compound a (count_patterns ps)) ∷ []
own_tests range_of (variable v) n = range_test n (range_of v)
own_tests range_of (ranged_variable v l h) n = range_test n (range_of v)

-- A variable at its place.
abbrev pub own_variable : Pattern → ℕ → List Occurrence
own_variable anything n = []
own_variable (the_symbol a) n = []
own_variable (the_series l h) n = []
own_variable (the_range l h) n = []
own_variable (the_gauged g l h) n = []
own_variable (the_compound a ps) n = []
own_variable (variable v) n = record { place = n; name = v } ∷ []
own_variable (ranged_variable v l h) n = record { place = n; name = v } ∷ []

module _ (range_of : ℕ → Option Range) where
  mutual
    -- The place tests are collected so,
    tests_are_lem : (p : Pattern) (r b : ℕ) → pattern_tests range_of p r b ≡ collect (own_tests range_of) p r b
    tests_are_lem anything r b = refl
    tests_are_lem (the_symbol a) r b = refl
    tests_are_lem (the_series l h) r b = refl
    tests_are_lem (the_range l h) r b = refl
    tests_are_lem (the_gauged g l h) r b = refl
    tests_are_lem (the_compound a ps) r b =
        ap (λ (l : List PlaceTest). at b (a_compound a (count_patterns ps)) ∷ l) (all_tests_are ps (pred r) (suc b))
    tests_are_lem (variable v) r b = refl
    tests_are_lem (ranged_variable v l h) r b = refl

    all_tests_are : (ps : Patterns) (r b : ℕ) → patterns_tests range_of ps r b ≡ collects (own_tests range_of) ps r b
    all_tests_are pnil r b = refl
    all_tests_are (pcons p ps) r b = ap₂ ◌++◌ (tests_are_lem p r b) (all_tests_are ps r (b + stride r))

mutual
  -- and so are the variables.
  variables_are : (p : Pattern) (r b : ℕ) → pattern_variables p r b ≡ collect own_variable p r b
  variables_are anything r b = refl
  variables_are (the_symbol a) r b = refl
  variables_are (the_series l h) r b = refl
  variables_are (the_range l h) r b = refl
  variables_are (the_gauged g l h) r b = refl
  variables_are (the_compound a ps) r b = all_variables_are ps (pred r) (suc b)
  variables_are (variable v) r b = refl
  variables_are (ranged_variable v l h) r b = refl

  all_variables_are : (ps : Patterns) (r b : ℕ) → patterns_variables ps r b ≡ collects own_variable ps r b
  all_variables_are pnil r b = refl
  all_variables_are (pcons p ps) r b = ap₂ ◌++◌ (variables_are p r b) (all_variables_are ps r (b + stride r))

-- The place tests of a rule are exactly those of the patterns that stand in it, each at its pattern's place.
pub tests_numbered
    : (rule : Patterns) (x : PlaceTest)
    → Mem x (place_tests rule)
    ↔ ((r n : ℕ) × (p : Pattern) × PatternStands rule r n p × Mem x (own_tests (patterns_range rule) p n))
tests_numbered rule x =
    rw (all_tests_are (patterns_range rule) rule 4 0) (collected (own_tests (patterns_range rule)) rule x)

-- The variables of a rule are exactly those that stand in it, each at its pattern's place.
pub variables_numbered
    : (rule : Patterns) (o : Occurrence)
    → Mem o (rule_variables rule) ↔ ((r n : ℕ) × (p : Pattern) × PatternStands rule r n p × Mem o (own_variable p n))
variables_numbered rule o = rw (all_variables_are rule 4 0) (collected own_variable rule o)
