-- The tests that a rule has: a place that it wants something at, or a pair that it compares.
use Prim.Native.Nat.{ℕ, suc, ◌≤◌}
use mathlib.Core.Path.{◌≡◌, ap, sym, subst, ◌∙◌}
use mathlib.Core.Bool.{Bool, true, false, cond}
use mathlib.Core.Logic.{◌⊎◌, inl, inr}
use mathlib.Core.List.{List, [], ◌∷◌, map}
use mathlib.Core.Option.{some}
use native.Mathlib.Omega.{arith}
use lib.Dec.{eqb, T, eqb→eq, eqb_refl}
use Rattle.basics.specs.Lists.{Mem, here, there, any_of}
use Rattle.terms.specs.Pattern.{Patterns}
use Rattle.terms.specs.RuleTests.{Want, PlaceTest, PairTest, at, both, place_tests, pair_tests, patterns_range}
use Rattle.terms.specs.Accepted.{Sounds}
use Rattle.basics.proofs.Booleans.{both_true, true_both}
use Rattle.basics.proofs.ListLaws.{mem_cases, mem_none, all_at, mem_join}
use Rattle.terms.proofs.Ascending.{Ascends, ascends_from}
use Rattle.terms.proofs.PreorderTests.{test_place, all_tests_ascend}
use Rattle.sheet_tests.specs.SheetTests.{Test, place, pair, rule_tests}
use Rattle.decision.specs.Rules.{same_test, want_in}
use Rattle.basics.proofs.Filters.{mem_map, map_mem, any_mem, mem_any, mem_left, mem_right}

-- Tests that are the same are equal,
pub same_test_lem : (t u : Test) → T (same_test t u) → t ≡ u
same_test_lem (place m) (place n) h = ap place (eqb→eq m n h)
same_test_lem (place m) (pair p q) h = absurd h
same_test_lem (pair p q) (place n) h = absurd h
same_test_lem (pair p q) (pair x y) h =
    let s = both_true (eqb p x) (eqb q y) h in
    let d = eqb→eq p x s.0 in
    let e = eqb→eq q y s.1 in
    λ i. pair (d i) (e i)

-- and each is the same as itself.
pub test_same : (t : Test) → T (same_test t t)
test_same (place n) = eqb_refl n
test_same (pair p q) = true_both (eqb p p) (eqb q q) (eqb_refl p) (eqb_refl q)

-- What is wanted at a place is a place test of the list,
pub want_test : (xs : List PlaceTest) (n : ℕ) (w : Want) → want_in xs n ≡ some w → Mem (at n w) xs
want_test [] n w e = absurd (let z : ◌≡◌ {A = ℕ} 0 1 = cc in let y : ⊥ = omega arith in y)
want_test (x ∷ xs) n w e = go (eqb x.place n) (eqb→eq x.place n) (want_test xs n w) e
  where
    go
        : (b : Bool) → (T b → x.place ≡ n) → (want_in xs n ≡ some w → Mem (at n w) xs)
        → cond b (some x.want) (want_in xs n) ≡ some w → Mem (at n w) (x ∷ xs)
    go true same rest d =
        let p : x.place ≡ n = same tt in
        let q : x.want ≡ w = cc in
        subst (λ (y : PlaceTest). Mem y (x ∷ xs)) (λ i. at (p i) (q i)) here
    go false same rest d = there (rest d)

-- and of tests at ascending places each is what is wanted there.
pub test_want
    : (b e : ℕ) (xs : List PlaceTest) → Ascends test_place b e xs → (x : PlaceTest) → Mem x xs
    → want_in xs x.place ≡ some x.want
test_want b e [] up x m = absurd (mem_none m)
test_want b e (y ∷ ys) up x m =
    go (eqb y.place x.place) (eqb→eq y.place x.place) itself (mem_cases m)
    (λ k. test_want (suc y.place) e ys up.1 x k)
  where
    itself : y.place ≡ x.place → T (eqb y.place x.place)
    itself d = subst (λ (n : ℕ). T (eqb y.place n)) d (eqb_refl y.place)

    later : Mem x ys → suc y.place ≤ x.place
    later k =
        let after = ascends_from test_place (suc y.place) e ys up.1 in
        all_at (λ (z : PlaceTest). suc y.place ≤ z.place) k after

    go
        : (c : Bool) → (T c → y.place ≡ x.place) → (y.place ≡ x.place → T c) → (x ≡ y) ⊎ Mem x ys
        → (Mem x ys → want_in ys x.place ≡ some x.want)
        → cond c (some y.want) (want_in ys x.place) ≡ some x.want
    go true same is (inl d) rest = ap (λ (z : PlaceTest). some z.want) (sym d)
    go true same is (inr k) rest = absurd (let z : ⊥ = omega (arith, later k, same tt) in z)
    go false same is (inl d) rest = absurd (is (ap (λ (z : PlaceTest). z.place) (sym d)))
    go false same is (inr k) rest = rest k

module _ (rule : Patterns) where
  -- The rule has the test.
  abbrev pub HasTest : Test → Type 0
  HasTest t = T (any_of (same_test t) (rule_tests rule))

  -- The places and the pairs that it tests.
  abbrev places_of : List Test
  places_of = map (λ (x : PlaceTest). place x.place) (place_tests rule)

  abbrev pairs_of : List Test
  pairs_of = map (λ (x : PairTest). pair x.first x.second) (pair_tests rule)

  -- A rule has the tests that stand in its list,
  pub mem_has : {t : Test} → Mem t (rule_tests rule) → HasTest t
  mem_has {t} m = mem_any (same_test t) m (test_same t)

  -- and no others.
  pub has_mem : (t : Test) → HasTest t → Mem t (rule_tests rule)
  has_mem t h =
      let r = any_mem (same_test t) (rule_tests rule) h in
      subst (λ (u : Test). Mem u (rule_tests rule)) (sym (same_test_lem t r.0 r.2)) r.1

  -- Each place test of a rule is what the rule wants there.
  pub place_wanted
      : Sounds rule 4 → (x : PlaceTest) → Mem x (place_tests rule) → want_in (place_tests rule) x.place ≡ some x.want
  place_wanted sound x m =
      let up = all_tests_ascend (patterns_range rule) rule 4 0 sound in
      test_want 0 _ (place_tests rule) up x m

  -- A rule has a place where it wants something,
  pub want_has : (n : ℕ) (w : Want) → want_in (place_tests rule) n ≡ some w → HasTest (place n)
  want_has n w e =
      mem_has (mem_left pairs_of (mem_map (λ (x : PlaceTest). place x.place) (want_test (place_tests rule) n w e)))

  -- and it wants something at a place that it has.
  pub has_want : Sounds rule 4 → (n : ℕ) → HasTest (place n) → (w : Want) × (want_in (place_tests rule) n ≡ some w)
  has_want sound n h =
      elim (mem_join places_of pairs_of (has_mem (place n) h)) [
        | inl m ↦
            let r = map_mem (λ (x : PlaceTest). place x.place) (place_tests rule) m in
            let same : n ≡ r.0.place = cc r.2 in
            let wanted = place_wanted sound r.0 r.1 in
            (r.0.want, ap (want_in (place_tests rule)) same ∙ wanted)
        | inr m ↦
            let r = map_mem (λ (x : PairTest). pair x.first x.second) (pair_tests rule) m in
            absurd (let z : ◌≡◌ {A = ℕ} 0 1 = cc r.2 in let y : ⊥ = omega arith in y)
      ]

  -- A rule has the pairs that it compares,
  pub pair_has : (x : PairTest) → Mem x (pair_tests rule) → HasTest (pair x.first x.second)
  pair_has x m = mem_has (mem_right places_of (mem_map (λ (y : PairTest). pair y.first y.second) m))

  -- and no others.
  pub has_pair_lem : (p q : ℕ) → HasTest (pair p q) → Mem (both p q) (pair_tests rule)
  has_pair_lem p q h =
      elim (mem_join places_of pairs_of (has_mem (pair p q) h)) [
        | inl m ↦
            let r = map_mem (λ (x : PlaceTest). place x.place) (place_tests rule) m in
            absurd (let z : ◌≡◌ {A = ℕ} 0 1 = cc r.2 in let y : ⊥ = omega arith in y)
        | inr m ↦
            let r = map_mem (λ (x : PairTest). pair x.first x.second) (pair_tests rule) m in
            let d : p ≡ r.0.first = cc r.2 in
            let e : q ≡ r.0.second = cc r.2 in
            subst (λ (x : PairTest). Mem x (pair_tests rule)) (sym (λ i. both (d i) (e i))) r.1
      ]
