-- "The sheet's tests are its distinct tested places ascending, then its distinct pairs ascending by p, then q, numbered
-- from 0": one theorem on the list `sheet_tests`, in which test t stands at position t.
use Prim.Native.Nat.{ℕ, ◌<◌}
use mathlib.Core.Path.{◌≡◌, refl, sym, ap, subst, ◌∙◌}
use mathlib.Core.Logic.{◌↔◌, ◌⊎◌, inl, inr}
use mathlib.Core.List.{List, [], ◌∷◌, ◌++◌, map}
use lib.Dec.{T, ltb→lt}
use Rattle.basics.specs.Lists.{Mem, here, there, All}
use Rattle.basics.proofs.Clash.{clash}
use Rattle.basics.proofs.ListLaws.{mem_cases, mem_none, mem_join}
use Rattle.basics.proofs.Filters.{mem_left, mem_right, mem_map, map_mem}
use Rattle.basics.proofs.Sorted.{AscendingBy, Ascending, pair_before_lem}
use Rattle.terms.specs.Pattern.{Patterns}
use Rattle.terms.specs.RuleTests.{Want, PlaceTest, PairTest, at, both, place_tests, pair_tests}
use Rattle.sheet_tests.specs.SheetTests.{Test, place, pair, before, rule_tests, all_tests, sheet_tests}
use Rattle.sheet_tests.proofs.TestOrder.{ascending_ascends, ascending_has, ascending_mem}

-- The test of a pair, and a pair before another: by p, then q.
abbrev pub pair_test : PairTest → Test
pair_test x = pair x.first x.second

abbrev pub PairBefore : PairTest → PairTest → Type 0
PairBefore x y = (x.first < y.first) ⊎ ((x.first ≡ y.first) × (x.second < y.second))

-- The places, and the pairs, of a list of tests.
abbrev places_in : List Test → List ℕ
places_in [] = []
places_in (place n ∷ ts) = n ∷ places_in ts
places_in (pair p q ∷ ts) = places_in ts

abbrev pairs_in : List Test → List PairTest
pairs_in [] = []
pairs_in (place n ∷ ts) = pairs_in ts
pairs_in (pair p q ∷ ts) = both p q ∷ pairs_in ts

-- No place comes after a pair.
no_place : (p q : ℕ) (ts : List Test) → All (λ (t : Test). T (before (pair p q) t)) ts → places_in ts ≡ []
no_place p q [] h = refl
no_place p q (place n ∷ ts) h = absurd h.0
no_place p q (pair x y ∷ ts) h = no_place p q ts h.1

-- Ascending tests are their places, then their pairs;
split : (ts : List Test) → Ascending before ts → ts ≡ map place (places_in ts) ++ map pair_test (pairs_in ts)
split [] up = refl
split (place n ∷ ts) up = ap (λ (l : List Test). place n ∷ l) (split ts up.1)
split (pair p q ∷ ts) up =
    let none = no_place p q ts up.0 in
    let rest : ts ≡ map pair_test (pairs_in ts) =
    split ts up.1 ∙ ap (λ (l : List ℕ). map place l ++ map pair_test (pairs_in ts)) none in
    ap (λ (l : List Test). pair p q ∷ l) rest
    ∙ sym (ap (λ (l : List ℕ). map place l ++ (pair p q ∷ map pair_test (pairs_in ts))) none)

-- the places ascend,
places_after : (n : ℕ) (ts : List Test) → All (λ (t : Test). T (before (place n) t)) ts → All (λ (m : ℕ). n < m) (places_in ts)
places_after n [] h = tt
places_after n (place m ∷ ts) h = (ltb→lt n m h.0, places_after n ts h.1)
places_after n (pair p q ∷ ts) h = places_after n ts h.1

places_ascend_lem : (ts : List Test) → Ascending before ts → AscendingBy ◌<◌ (places_in ts)
places_ascend_lem [] up = tt
places_ascend_lem (place n ∷ ts) up = (places_after n ts up.0, places_ascend_lem ts up.1)
places_ascend_lem (pair p q ∷ ts) up = places_ascend_lem ts up.1

-- and the pairs ascend.
pairs_after
    : (p q : ℕ) (ts : List Test) → All (λ (t : Test). T (before (pair p q) t)) ts → All (PairBefore (both p q)) (pairs_in ts)
pairs_after p q [] h = tt
pairs_after p q (place m ∷ ts) h = pairs_after p q ts h.1
pairs_after p q (pair x y ∷ ts) h = (pair_before_lem p q x y h.0, pairs_after p q ts h.1)

pairs_ascend_lem : (ts : List Test) → Ascending before ts → AscendingBy PairBefore (pairs_in ts)
pairs_ascend_lem [] up = tt
pairs_ascend_lem (place n ∷ ts) up = pairs_ascend_lem ts up.1
pairs_ascend_lem (pair p q ∷ ts) up = (pairs_after p q ts up.0, pairs_ascend_lem ts up.1)

-- The places are those that stand in the list,
place_in : (ts : List Test) (n : ℕ) → Mem n (places_in ts) ↔ Mem (place n) ts
place_in [] n = (λ m. absurd (mem_none m), λ m. absurd (mem_none m))
place_in (place k ∷ ts) n = (
  λ m. elim (mem_cases m) [
    | inl e ↦ subst (λ (x : ℕ). Mem (place x) (place k ∷ ts)) (sym e) here
    | inr l ↦ there ((place_in ts n).0 l)
  ],
  λ m. elim (mem_cases m) [
    | inl e ↦ (let d : n ≡ k = cc in subst (λ (x : ℕ). Mem x (k ∷ places_in ts)) (sym d) here)
    | inr l ↦ there ((place_in ts n).1 l)
  ],
)
place_in (pair p q ∷ ts) n = (
  λ m. there ((place_in ts n).0 m),
  λ m. elim (mem_cases m) [ inl e ↦ clash (cc) | inr l ↦ (place_in ts n).1 l ],
)

-- and the pairs too.
pair_in : (ts : List Test) (x : PairTest) → Mem x (pairs_in ts) ↔ Mem (pair_test x) ts
pair_in [] x = (λ m. absurd (mem_none m), λ m. absurd (mem_none m))
pair_in (place k ∷ ts) x = (
  λ m. there ((pair_in ts x).0 m),
  λ m. elim (mem_cases m) [ inl e ↦ clash (cc) | inr l ↦ (pair_in ts x).1 l ],
)
pair_in (pair p q ∷ ts) x = (
  λ m. elim (mem_cases m) [
    | inl e ↦ subst (λ (y : PairTest). Mem (pair_test y) (pair p q ∷ ts)) (sym e) here
    | inr l ↦ there ((pair_in ts x).0 l)
  ],
  λ m. elim (mem_cases m) [
    | inl e ↦
        let d : x.first ≡ p = cc in
        let f : x.second ≡ q = cc in
        subst (λ (y : PairTest). Mem y (both p q ∷ pairs_in ts)) (sym (λ i. both (d i) (f i))) here
    | inr l ↦ there ((pair_in ts x).1 l)
  ],
)

-- The tests of all rules are those of each.
all_of_rules
    : (rules : List Patterns) (t : Test)
    → Mem t (all_tests rules) ↔ ((rule : Patterns) × Mem rule rules × Mem t (rule_tests rule))
all_of_rules [] t = (λ m. absurd (mem_none m), λ x. absurd (mem_none x.1))
all_of_rules (rule ∷ rules) t = (
  λ m. elim (mem_join (rule_tests rule) (all_tests rules) m) [
    | inl k ↦ (rule, here, k)
    | inr k ↦ (let x = (all_of_rules rules t).0 k in (x.0, there x.1, x.2))
  ],
  λ x. elim (mem_cases x.1) [
    | inl e ↦ mem_left (all_tests rules) (subst (λ (r : Patterns). Mem t (rule_tests r)) e x.2)
    | inr k ↦ mem_right (rule_tests rule) ((all_of_rules rules t).1 (x.0, k, x.2))
  ],
)

module _ (rule : Patterns) where
  -- The place tests and the pairs of a rule, as tests.
  abbrev places_of : List Test
  places_of = map (λ (x : PlaceTest). place x.place) (place_tests rule)

  abbrev pairs_of : List Test
  pairs_of = map pair_test (pair_tests rule)

  -- A rule tests a place where it has a place test,
  rule_place : (n : ℕ) → Mem (place n) (rule_tests rule) ↔ ((w : Want) × Mem (at n w) (place_tests rule))
  rule_place n = (
    λ m. elim (mem_join places_of pairs_of m) [
      | inl k ↦
          let r = map_mem (λ (x : PlaceTest). place x.place) (place_tests rule) k in
          let e : n ≡ r.0.place = cc r.2 in
          (r.0.want, subst (λ (x : ℕ). Mem (at x r.0.want) (place_tests rule)) (sym e) r.1)
      | inr k ↦ (let r = map_mem pair_test (pair_tests rule) k in clash (cc r.2))
    ],
    λ x. mem_left pairs_of (mem_map (λ (y : PlaceTest). place y.place) x.1),
  )

  -- and a pair where it has an equality test.
  rule_pair : (x : PairTest) → Mem (pair_test x) (rule_tests rule) ↔ Mem x (pair_tests rule)
  rule_pair x = (
    λ m. elim (mem_join places_of pairs_of m) [
      | inl k ↦ (let r = map_mem (λ (y : PlaceTest). place y.place) (place_tests rule) k in clash (cc r.2))
      | inr k ↦
          let r = map_mem pair_test (pair_tests rule) k in
          let d : x.first ≡ r.0.first = cc r.2 in
          let e : x.second ≡ r.0.second = cc r.2 in
          subst (λ (y : PairTest). Mem y (pair_tests rule)) (sym (λ i. both (d i) (e i))) r.1
    ],
    λ m. mem_right places_of (mem_map pair_test m),
  )

-- The sheet's tests are its tested places, then its pairs; both ascend strictly, so each is there once; and they are
-- exactly what the rules test.
pub record SheetTestsAre (rules : List Patterns) : Type 0 where
  pub places : List ℕ
  pub pairs : List PairTest
  pub tests : sheet_tests rules ≡ map place places ++ map pair_test pairs
  pub places_ascend : AscendingBy ◌<◌ places
  pub pairs_ascend : AscendingBy PairBefore pairs
  pub tested_places
      : (n : ℕ)
      → Mem n places ↔ ((rule : Patterns) × Mem rule rules × ((w : Want) × Mem (at n w) (place_tests rule)))
  pub tested_pairs : (x : PairTest) → Mem x pairs ↔ ((rule : Patterns) × Mem rule rules × Mem x (pair_tests rule))

pub sheet_tests_are : (rules : List Patterns) → SheetTestsAre rules
sheet_tests_are rules =
    let up = ascending_ascends (all_tests rules) in
    record {
      places = places_in (sheet_tests rules);
      pairs = pairs_in (sheet_tests rules);
      tests = split (sheet_tests rules) up;
      places_ascend = places_ascend_lem (sheet_tests rules) up;
      pairs_ascend = pairs_ascend_lem (sheet_tests rules) up;
      tested_places = λ n. (
        λ m. let x = (all_of_rules rules (place n)).0 (ascending_mem (all_tests rules) ((place_in (sheet_tests rules) n).0 m)) in
            (x.0, x.1, (rule_place x.0 n).0 x.2),
        λ x. (place_in (sheet_tests rules) n).1
            (ascending_has (all_tests rules) ((all_of_rules rules (place n)).1 (x.0, x.1, (rule_place x.0 n).1 x.2))),
      );
      tested_pairs = λ y. (
        λ m. let x = (all_of_rules rules (pair_test y)).0 (ascending_mem (all_tests rules) ((pair_in (sheet_tests rules) y).0 m)) in
            (x.0, x.1, (rule_pair x.0 y).0 x.2),
        λ x. (pair_in (sheet_tests rules) y).1
            (ascending_has (all_tests rules) ((all_of_rules rules (pair_test y)).1 (x.0, x.1, (rule_pair x.0 y).1 x.2))),
      );
    }
