-- The tidy form of a rule, made from its tests alone: at each place stands what is wanted there, and a variable where the place
-- is in a pair. So rules with the same tests have one tidy form.
use Prim.Native.Nat.{ℕ, zero, suc, pred, ◌+◌, ◌≤◌, ◌<◌}
use mathlib.Core.Path.{◌≡◌, refl, sym, ap, subst, ◌∙◌}
use mathlib.Core.Bool.{Bool, true, false, not, cond}
use mathlib.Core.List.{List, [], ◌∷◌, map}
use mathlib.Core.Option.{Option, some, none}
use native.Mathlib.Omega.{arith}
use lib.Dec.{T, eqb, eqb→eq}
use Rattle.places.specs.Numbering.{stride}
use Rattle.places.proofs.Levels.{stride_of}
use Rattle.basics.specs.Lists.{Mem, filter, any_of, count_from}
use Rattle.basics.proofs.Booleans.{both_true, cond_false}
use Rattle.basics.proofs.Numbers.{eq_true}
use Rattle.basics.proofs.Filters.{filter_mem, mem_any, any_mem}
use Rattle.terms.specs.Term.{on_gauge}
use Rattle.terms.specs.Pattern.{Pattern, Patterns, count_patterns, pnil, pcons}
use Rattle.terms.specs.Pattern.{anything, the_symbol, the_series, the_range, the_gauged, the_compound, variable, ranged_variable}
use Rattle.terms.specs.RuleTests.{Want, a_symbol, a_number, a_compound, PlaceTest, at, PairTest, Occurrence, Range}
use Rattle.terms.specs.RuleTests.{patterns_range, range_test, pattern_variables, patterns_variables}
use Rattle.terms.specs.RuleTests.{pattern_tests, patterns_tests, pairs_of, place_tests, pair_tests, rule_variables}
use Rattle.terms.specs.Accepted.{Sound, Sounds, InCommon, AcceptedRule}
use Rattle.terms.proofs.TermPlaces.{extent, extent_fits}
use Rattle.terms.proofs.Ascending.{Ascends}
use Rattle.terms.proofs.Ranges.{WideRange, ranges_wide}
use Rattle.terms.proofs.PairTests.{variable_place, variables_ascend, all_variables_ascend}
use Rattle.terms.proofs.VariableSentences.{standing, pairs_of_are}
use Rattle.terms.proofs.PreorderTests.{test_place, tests_ascend, all_tests_ascend}
use Rattle.tidy.specs.TidyRule.{is_named, position_of, is_repeated}
use Rattle.tidy.specs.TidyRule.{appears_first, first_appearances, new_number, single, repeated, tidy_series, tidy_pattern, tidy_patterns}
use Rattle.tidy.specs.TidyRule.{tidy_rule}
use Rattle.tidy.proofs.Series.{tidy_one}
use Rattle.tidy.proofs.Gauges.{range_on, range_on_0, range_on_lem}
use Rattle.tidy.proofs.Pairs.{is_first, is_second, paired, leads, alike, first_is, repeated_is, no_variable_there, alike_is}
use Rattle.tidy.proofs.ByPlace.{look_in, look_here, look_past, look_none, look_mem, Has, Has-left, Has-right, places_filtered}
use Rattle.tidy.proofs.ByPlace.{position_at_lem}

-- What is written at a place where w is wanted, n is the number of the variable there, if any, and f k are k arguments.
abbrev written : Option Want → Option ℕ → (ℕ → Patterns) → Pattern
written none none f = anything
written none (some n) f = variable n
written (some (a_symbol l h)) n f = tidy_series l h
written (some (a_number l h)) none f = range_on l h
written (some (a_number l h)) (some n) f = ranged_variable n l h
written (some (a_compound a k)) n f = the_compound a (f k)

-- A row of so many patterns, from place b on in steps of s.
abbrev row : (ℕ → Pattern) → ℕ → ℕ → ℕ → Patterns
row f s zero b = pnil
row f s (suc n) b = pcons (f b) (row f s n (b + s))

module _ (want : ℕ → Option Want) (number : ℕ → Option ℕ) where
  -- The pattern with r levels at place b.
  abbrev pattern_at : ℕ → ℕ → Pattern
  pattern_at zero b = anything
  pattern_at (suc r) b = written (want b) (number b) (λ k. row (pattern_at r) (stride r) k (suc b))

  -- A place with a level or more.
  pattern_at_lem
      : (r b : ℕ) → 1 ≤ r
      → pattern_at r b ≡ written (want b) (number b) (λ k. row (pattern_at (pred r)) (stride (pred r)) k (suc b))
  pattern_at_lem zero b deep = absurd (omega arith)
  pattern_at_lem (suc r) b deep = refl

-- What is wanted at a place,
abbrev wanted : PlaceTest → Option Want
wanted x = some x.want

abbrev wanted_at : List PlaceTest → ℕ → Option Want
wanted_at tests = look_in test_place wanted tests

-- and the number of the variable there: that of its first appearance among all first appearances.
abbrev number_at : ℕ → List PairTest → ℕ → Option ℕ
number_at size pairs n =
    cond (paired pairs n) (some (position_of (λ (p : ℕ). alike pairs p n) (filter (leads pairs) (count_from 0 size)))) none

-- The tidy rule from its tests.
abbrev pub rebuild : ℕ → List PlaceTest → List PairTest → Patterns
rebuild arity tests pairs = row (pattern_at (wanted_at tests) (number_at (extent arity 4) pairs) 4) (stride 4) arity 0

-- What is written for a variable, by its range and its number.
variable_written
    : (c : Bool) (n : ℕ) (x : Option Range) (b : ℕ) (f : ℕ → Patterns) → InCommon x → WideRange x
    → written (wanted_at (range_test b x) b) (cond c (some n) none) f ≡ cond c (repeated n x) (single x)
variable_written true n none b f common wide = refl
variable_written false n none b f common wide = refl
variable_written true n (some x) b f common wide =
    ap (λ (w : Option Want). written w (some n) f) (look_here test_place wanted (at b (a_number x.low x.high)) [] b refl)
variable_written false n (some x) b f common wide =
    ap (λ (w : Option Want). written w none f) (look_here test_place wanted (at b (a_number x.low x.high)) [] b refl)
    ∙ range_on_0 x.low x.high common wide

-- The new number of a variable, if it is repeated.
abbrev numbered : List Occurrence → Occurrence → Option ℕ
numbered os o = cond (is_repeated os o.name) (some (new_number os o.name)) none

module _ (os : List Occurrence) (range_of : ℕ → Option Range) (want : ℕ → Option Want) (number : ℕ → Option ℕ)
    (common : (v : ℕ) → InCommon (range_of v)) (wide : (v : ℕ) → WideRange (range_of v)) where
  -- One test at a place, and no variable.
  only_test
      : (w : Want) (r b : ℕ) (f : ℕ → Patterns) → 1 ≤ r → Has test_place wanted want (at b w ∷ []) b (b + stride r)
      → Has variable_place (numbered os) number [] b (b + stride r) → written (want b) (number b) f ≡ written (some w) none f
  only_test w r b f deep tests variables =
      let w-is = tests b (omega arith) (omega (arith, stride_of r deep)) ∙ look_here test_place wanted (at b w) [] b refl in
      let n-is = variables b (omega arith) (omega (arith, stride_of r deep)) in
      λ i. written (w-is i) (n-is i) f

  variable_there
      : (v r b : ℕ) (f : ℕ → Patterns) → 1 ≤ r → Has test_place wanted want (range_test b (range_of v)) b (b + stride r)
      → Has variable_place (numbered os) number (record { place = b; name = v } ∷ []) b (b + stride r)
      → written (want b) (number b) f ≡ tidy_pattern os range_of (variable v)
  variable_there v r b f deep tests variables =
      let near : b < b + stride r = omega (arith, stride_of r deep) in
      let w-is = tests b (omega arith) near in
      let n-is =
      variables b (omega arith) near ∙ look_here variable_place (numbered os) (record { place = b; name = v }) [] b refl in
      (λ i. written (w-is i) (n-is i) f) ∙ variable_written (is_repeated os v) (new_number os v) (range_of v) b f (common v) (wide v)

  mutual
    -- What is wanted and numbered at a pattern's places gives its tidy form,
    pattern_rebuilt
        : (p : Pattern) (r b : ℕ) → Sound p r → Has test_place wanted want (pattern_tests range_of p r b) b (b + stride r)
        → Has variable_place (numbered os) number (pattern_variables p r b) b (b + stride r)
        → pattern_at want number r b ≡ tidy_pattern os range_of p
    pattern_rebuilt anything r b sound tests variables =
        let near : b < b + stride r = omega (arith, stride_of r sound) in
        let w-is = tests b (omega arith) near in
        let n-is = variables b (omega arith) near in
        pattern_at_lem want number r b sound
        ∙ (λ i. written (w-is i) (n-is i) (λ k. row (pattern_at want number (pred r)) (stride (pred r)) k (suc b)))
    pattern_rebuilt (the_symbol a) r b sound tests variables =
        pattern_at_lem want number r b sound.0 ∙ only_test (a_symbol a a) r b _ sound.0 tests variables ∙ tidy_one a
    pattern_rebuilt (the_series l h) r b sound tests variables =
        pattern_at_lem want number r b sound.0 ∙ only_test (a_symbol l h) r b _ sound.0 tests variables
    pattern_rebuilt (the_range l h) r b sound tests variables =
        pattern_at_lem want number r b sound.0 ∙ only_test (a_number l h) r b _ sound.0 tests variables
        ∙ range_on_0 l h sound.1 sound.2
    pattern_rebuilt (the_gauged g l h) r b sound tests variables =
        pattern_at_lem want number r b sound.0
        ∙ only_test (a_number (on_gauge g l) (on_gauge g h)) r b _ sound.0 tests variables
        ∙ range_on_lem g l h sound.1 sound.2
    pattern_rebuilt (the_compound a ps) r b sound tests variables =
        let n = count_patterns ps in
        let fit = extent_fits n r sound.0 sound.3 in
        let below = patterns_tests range_of ps (pred r) (suc b) in
        let w-is =
        tests b (omega arith) (omega (arith, stride_of r sound.0))
        ∙ look_here test_place wanted (at b (a_compound a n)) below b refl in
        let rest =
        patterns_rebuilt ps (pred r) (suc b) sound.4
        (λ m l k. tests m (omega arith) (omega arith)
        ∙ look_past test_place wanted (at b (a_compound a n)) below m (λ s. omega arith))
        (λ m l k. variables m (omega arith) (omega arith)) in
        pattern_at_lem want number r b sound.0
        ∙ (λ i. written (w-is i) (number b) (λ k. row (pattern_at want number (pred r)) (stride (pred r)) k (suc b)))
        ∙ ap (the_compound a) rest
    pattern_rebuilt (variable v) r b sound tests variables =
        pattern_at_lem want number r b sound.0 ∙ variable_there v r b _ sound.0 tests variables
    pattern_rebuilt (ranged_variable v l h) r b sound tests variables =
        pattern_at_lem want number r b sound.0 ∙ variable_there v r b _ sound.0 tests variables

    -- and so for a row of patterns.
    patterns_rebuilt
        : (ps : Patterns) (r b : ℕ) → Sounds ps r
        → Has test_place wanted want (patterns_tests range_of ps r b) b (b + extent (count_patterns ps) r)
        → Has variable_place (numbered os) number (patterns_variables ps r b) b (b + extent (count_patterns ps) r)
        → row (pattern_at want number r) (stride r) (count_patterns ps) b ≡ tidy_patterns os range_of ps
    patterns_rebuilt pnil r b sound tests variables = refl
    patterns_rebuilt (pcons p ps) r b sound tests variables =
        let next = b + stride r in
        let size = extent (count_patterns ps) r in
        let t = pattern_tests range_of p r b in
        let ts = patterns_tests range_of ps r next in
        let v = pattern_variables p r b in
        let vs = patterns_variables ps r next in
        let wide : next ≤ b + (stride r + size) = omega arith in
        let end : next + size ≡ b + (stride r + size) = omega arith in
        let first =
        pattern_rebuilt p r b sound.0
        (Has-left test_place wanted want t ts b next (next + size) (b + (stride r + size))
        (all_tests_ascend range_of ps r next sound.1) wide tests)
        (Has-left variable_place (numbered os) number v vs b next (next + size) (b + (stride r + size))
        (all_variables_ascend ps r next sound.1) wide variables) in
        let has-tests =
        Has-right test_place wanted want t ts b next (b + (stride r + size)) (tests_ascend range_of p r b sound.0) tests in
        let has-numbers =
        Has-right variable_place (numbered os) number v vs b next (b + (stride r + size)) (variables_ascend p r b sound.0)
        variables in
        let others =
        patterns_rebuilt ps r next sound.1 (λ m l k. has-tests m l (omega arith)) (λ m l k. has-numbers m l (omega arith)) in
        λ i. pcons (first i) (others i)

-- The number of the variable at a place, from the pairs.
module _ (size : ℕ) (os : List Occurrence) (up : Ascends variable_place 0 (0 + size) os) where
  -- The first appearances are the places that lead.
  firsts_lead : map variable_place (first_appearances os) ≡ filter (leads (pairs_of os)) (count_from 0 size)
  firsts_lead = places_filtered variable_place (appears_first os) (leads (pairs_of os)) size 0 os up (first_is 0 (0 + size) os up) only
    where
      only : (m : ℕ) → 0 ≤ m → T (leads (pairs_of os) m) → (x : Occurrence) × Mem x os × (x.place ≡ m)
      only m l h =
          let first = (both_true (any_of (is_first m) (pairs_of os)) (not (any_of (is_second m) (pairs_of os))) h).0 in
          let (x, k, t) = any_mem (is_first m) (pairs_of os) first in
          let (v, one, two, before) = (pairs_of_are 0 (0 + size) os up x.first x.second).0 k in
          (standing x.first v, one, eqb→eq x.first m t)

  number_of_lem
      : (o : Occurrence) → Mem o os
      → position_of (λ (p : ℕ). alike (pairs_of os) p o.place) (filter (leads (pairs_of os)) (count_from 0 size))
      ≡ new_number os o.name
  number_of_lem o m =
      let same = position_at_lem variable_place (is_named o.name) (λ (p : ℕ). alike (pairs_of os) p o.place) (first_appearances os)
      (λ f k. (let (j, t) = filter_mem (appears_first os) os k in alike_is 0 (0 + size) os up f o j m t)) in
      sym (same ∙ ap (position_of (λ (p : ℕ). alike (pairs_of os) p o.place)) firsts_lead)

  numbers_there : (n : ℕ) → number_at size (pairs_of os) n ≡ look_in variable_place (numbered os) os n
  numbers_there n =
      go (any_of here os) (any_mem here os) (λ o m s. mem_any here m (eq_true o.place n s))
    where
      here : Occurrence → Bool
      here o = eqb o.place n

      Same : ℕ → Type 0
      Same m = number_at size (pairs_of os) m ≡ look_in variable_place (numbered os) os m

      none_there : (T (paired (pairs_of os) n) → ⊥) → number_at size (pairs_of os) n ≡ none
      none_there h = cond_false (paired (pairs_of os) n) _ none h

      go
          : (c : Bool) → (T c → (o : Occurrence) × Mem o os × T (eqb o.place n))
          → ((o : Occurrence) → Mem o os → o.place ≡ n → T c) → Same n
      go true found stands =
          let (o, m, t) = found tt in
          let in_pair = sym (repeated_is 0 (0 + size) os up o m) in
          let there : Same o.place =
          (λ i. cond (in_pair i) (some (number_of_lem o m i)) none)
          ∙ sym (look_mem variable_place (numbered os) 0 (0 + size) os up o m) in
          subst Same (eqb→eq o.place n t) there
      go false found stands =
          none_there (no_variable_there 0 (0 + size) os up n stands)
          ∙ sym (look_none variable_place (numbered os) os n stands)

-- The tidy form of an accepted rule is made from its tests.
pub rebuild_tidy
    : (arity : ℕ) (rule : Patterns) → AcceptedRule arity rule → rebuild arity (place_tests rule) (pair_tests rule) ≡ tidy_rule rule
rebuild_tidy arity rule accepted =
    let os = rule_variables rule in
    let size = extent (count_patterns rule) 4 in
    let up = all_variables_ascend rule 4 0 accepted.sound in
    ap (λ (n : ℕ). rebuild n (place_tests rule) (pair_tests rule)) (sym accepted.arguments)
    ∙ patterns_rebuilt os (patterns_range rule) (wanted_at (place_tests rule)) (number_at size (pair_tests rule))
    accepted.common (ranges_wide rule 4 accepted.sound) rule 4 0 accepted.sound (λ m l k. refl) (λ m l k. numbers_there size os up m)
