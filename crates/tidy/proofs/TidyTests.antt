-- The tidy form of a rule has the rule's tests, as lists. For patterns of any depth.
use Prim.Native.Nat.{ℕ, suc, pred, ◌+◌, min, max}
use mathlib.Core.Path.{◌≡◌, refl, sym, ap, subst, ◌∙◌}
use mathlib.Core.Bool.{Bool, true, false, ◌&&◌, ◌||◌, cond}
use mathlib.Core.List.{List, [], ◌∷◌, ◌++◌}
use mathlib.Core.Option.{Option, some, none}
use native.Mathlib.Omega.{arith}
use lib.Dec.{T, eqb, eqb→eq}
use Rattle.places.specs.Numbering.{stride}
use Rattle.basics.specs.Lists.{any_of}
use Rattle.basics.proofs.Booleans.{both_true, true_both, cond_true}
use Rattle.basics.proofs.Numbers.{eq_true}
use Rattle.basics.proofs.Filters.{mem_any, any_mem, any_join}
use Rattle.terms.specs.Term.{on_gauge}
use Rattle.terms.specs.Pattern.{Pattern, Patterns, count_patterns, pnil, pcons}
use Rattle.terms.specs.Pattern.{anything, the_symbol, the_series, the_range, the_gauged, the_compound, variable, ranged_variable}
use Rattle.terms.specs.RuleTests.{a_symbol, a_number, a_compound, at, Occurrence, Range}
use Rattle.terms.specs.RuleTests.{common_part, pattern_range, patterns_range, range_test, pattern_variables, patterns_variables}
use Rattle.terms.specs.RuleTests.{pattern_tests, patterns_tests, pairs_of, place_tests, pair_tests, rule_variables}
use Rattle.terms.specs.Accepted.{AcceptedRule}
use Rattle.terms.proofs.TermPlaces.{extent}
use Rattle.terms.proofs.Ascending.{Ascends}
use Rattle.terms.proofs.PairTests.{variable_place, all_variables_ascend}
use Rattle.tidy.specs.TidyRule.{is_named, stands_again, is_again, is_repeated}
use Rattle.tidy.specs.TidyRule.{new_number, single, repeated, tidy_pattern, tidy_patterns, tidy_rule}
use Rattle.tidy.proofs.NewNumbers.{numbers_differ}
use Rattle.tidy.proofs.Series.{series_kept}
use Rattle.tidy.proofs.Gauges.{gauge_kept}
use Rattle.tidy.proofs.Renumbered.{pairs_kept_lem, all_variables_kept}

-- What is written for a variable tests the range,
variable_tests
    : (range_of : ℕ → Option Range) (c : Bool) (n : ℕ) (x : Option Range) → (T c → range_of n ≡ x) → (r b : ℕ)
    → pattern_tests range_of (cond c (repeated n x) (single x)) r b ≡ range_test b x
variable_tests range_of true n none same r b = ap (range_test b) (same tt)
variable_tests range_of true n (some x) same r b = ap (range_test b) (same tt)
variable_tests range_of false n none same r b = refl
variable_tests range_of false n (some x) same r b = refl

-- and brings the range to its own number alone.
variable_range
    : (c : Bool) (n : ℕ) (x y : Option Range) (k : ℕ) → (T c → n ≡ k → x ≡ y)
    → pattern_range (cond c (repeated n x) (single x)) k ≡ cond ((c && eqb n k) || false) y none
variable_range true n none y k same = go (eqb n k) (eqb→eq n k)
  where
    go : (d : Bool) → (T d → n ≡ k) → none ≡ cond (d || false) y none
    go true h = same tt (h tt)
    go false h = refl
variable_range true n (some x) y k same = go (eqb n k) (eqb→eq n k)
  where
    go : (d : Bool) → (T d → n ≡ k) → cond d (some x) none ≡ cond (d || false) y none
    go true h = same tt (h tt)
    go false h = refl
variable_range false n none y k same = refl
variable_range false n (some x) y k same = refl

-- The common part of a range with itself is that range.
common_same : (x : Option Range) (a c : Bool) → common_part (cond a x none) (cond c x none) ≡ cond (a || c) x none
common_same none true true = refl
common_same none true false = refl
common_same none false true = refl
common_same none false false = refl
common_same (some x) true true =
    let low : max x.low x.low ≡ x.low = omega arith in
    let high : min x.high x.high ≡ x.high = omega arith in
    λ i. some (record { low = low i; high = high i })
common_same (some x) true false = refl
common_same (some x) false true = refl
common_same (some x) false false = refl

-- A repeated variable stands there, with new number k.
abbrev pub is_numbered : List Occurrence → ℕ → Occurrence → Bool
is_numbered os k o = is_repeated os o.name && eqb (new_number os o.name) k

module _ (os : List Occurrence) (range_of : ℕ → Option Range) where
  -- The tidy form has as many patterns.
  pub tidy_count : (ps : Patterns) → count_patterns (tidy_patterns os range_of ps) ≡ count_patterns ps
  tidy_count pnil = refl
  tidy_count (pcons p ps) = ap suc (tidy_count ps)

  -- Its place tests are the old ones where a new number has the old range,
  module _ (newRange : ℕ → Option Range) (same : (v : ℕ) → T (is_repeated os v) → newRange (new_number os v) ≡ range_of v) where
    mutual
      tests_kept : (p : Pattern) (r b : ℕ) → pattern_tests newRange (tidy_pattern os range_of p) r b ≡ pattern_tests range_of p r b
      tests_kept anything r b = refl
      tests_kept (the_symbol a) r b = refl
      tests_kept (the_series l h) r b =
          series_kept (λ (p : Pattern). pattern_tests newRange p r b) l h (λ e i. at b (a_symbol l (e i)) ∷ [])
      tests_kept (the_range l h) r b = refl
      tests_kept (the_gauged g l h) r b =
          gauge_kept (λ (p : Pattern). pattern_tests newRange p r b) g l h (λ e.
          let low : l ≡ on_gauge g l = omega arith in
          let high : h ≡ on_gauge g h = omega arith in
          λ i. at b (a_number (low i) (high i)) ∷ [])
      tests_kept (the_compound a ps) r b =
          λ i. at b (a_compound a (tidy_count ps i)) ∷ all_tests_kept ps (pred r) (suc b) i
      tests_kept (variable v) r b = variable_tests newRange (is_repeated os v) (new_number os v) (range_of v) (same v) r b
      tests_kept (ranged_variable v l h) r b = variable_tests newRange (is_repeated os v) (new_number os v) (range_of v) (same v) r b

      all_tests_kept
          : (ps : Patterns) (r b : ℕ) → patterns_tests newRange (tidy_patterns os range_of ps) r b ≡ patterns_tests range_of ps r b
      all_tests_kept pnil r b = refl
      all_tests_kept (pcons p ps) r b = λ i. tests_kept p r b i ++ all_tests_kept ps r (b + stride r) i

  -- and the range of new number k is the range of the variables that have it, if any stands there.
  module _ (k : ℕ) (x : Option Range) (same : (v : ℕ) → T (is_repeated os v) → new_number os v ≡ k → range_of v ≡ x) where
    mutual
      range_kept
          : (p : Pattern) (r b : ℕ)
          → pattern_range (tidy_pattern os range_of p) k ≡ cond (any_of (is_numbered os k) (pattern_variables p r b)) x none
      range_kept anything r b = refl
      range_kept (the_symbol a) r b = refl
      range_kept (the_series l h) r b = series_kept (λ (p : Pattern). pattern_range p k) l h (λ e. refl)
      range_kept (the_range l h) r b = refl
      range_kept (the_gauged g l h) r b = gauge_kept (λ (p : Pattern). pattern_range p k) g l h (λ e. refl)
      range_kept (the_compound a ps) r b = ranges_kept ps (pred r) (suc b)
      range_kept (variable v) r b = variable_range (is_repeated os v) (new_number os v) (range_of v) x k (same v)
      range_kept (ranged_variable v l h) r b = variable_range (is_repeated os v) (new_number os v) (range_of v) x k (same v)

      pub ranges_kept
          : (ps : Patterns) (r b : ℕ)
          → patterns_range (tidy_patterns os range_of ps) k ≡ cond (any_of (is_numbered os k) (patterns_variables ps r b)) x none
      ranges_kept pnil r b = refl
      ranges_kept (pcons p ps) r b =
          let here = pattern_variables p r b in
          let later = patterns_variables ps r (b + stride r) in
          (λ i. common_part (range_kept p r b i) (ranges_kept ps r (b + stride r) i))
          ∙ common_same x (any_of (is_numbered os k) here) (any_of (is_numbered os k) later)
          ∙ ap (λ (c : Bool). cond c x none) (sym (any_join (is_numbered os k) here later))

-- A repeated variable stands somewhere, with its new number.
pub has_number : (os : List Occurrence) (v : ℕ) → T (is_repeated os v) → T (any_of (is_numbered os (new_number os v)) os)
has_number os v h =
    let (o, m, t) = any_mem (is_again os v) os h in
    let is : o.name ≡ v = eqb→eq o.name v (both_true (is_named v o) (stands_again os o) t).0 in
    let again = subst (λ (u : ℕ). T (is_repeated os u)) (sym is) h in
    let number = eq_true (new_number os o.name) (new_number os v) (ap (new_number os) is) in
    mem_any (is_numbered os (new_number os v)) m
    (true_both (is_repeated os o.name) (eqb (new_number os o.name) (new_number os v)) again number)

-- The rules of an accepted sheet.
module _ (arity : ℕ) (rule : Patterns) (accepted : AcceptedRule arity rule) where
  abbrev end : ℕ
  end = 0 + extent (count_patterns rule) 4

  up : Ascends variable_place 0 end (rule_variables rule)
  up = all_variables_ascend rule 4 0 accepted.sound

  -- A repeated variable has its old range under its new number.
  range_of_new
      : (v : ℕ) → T (is_repeated (rule_variables rule) v)
      → patterns_range (tidy_rule rule) (new_number (rule_variables rule) v) ≡ patterns_range rule v
  range_of_new v h =
      ranges_kept os (patterns_range rule) k (patterns_range rule v) same rule 4 0
      ∙ cond_true (any_of (is_numbered os k) os) (patterns_range rule v) none stands
    where
      os : List Occurrence
      os = rule_variables rule

      k : ℕ
      k = new_number os v

      same : (u : ℕ) → T (is_repeated os u) → new_number os u ≡ k → patterns_range rule u ≡ patterns_range rule v
      same u t e = ap (patterns_range rule) (numbers_differ 0 end os up u v t h e)

      stands : T (any_of (is_numbered os k) os)
      stands = has_number os v h

  -- The tidy rule has the rule's place tests and its equality tests.
  pub tidy_tests : (place_tests (tidy_rule rule) ≡ place_tests rule) × (pair_tests (tidy_rule rule) ≡ pair_tests rule)
  tidy_tests =
      let os = rule_variables rule in (
        all_tests_kept os (patterns_range rule) (patterns_range (tidy_rule rule)) range_of_new rule 4 0,
        ap pairs_of (all_variables_kept os (patterns_range rule) rule 4 0) ∙ pairs_kept_lem os 0 end up,
      )
