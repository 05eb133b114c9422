-- Tests asked by a list of places: which tests are asked, and that each place asked before those below it makes an asking order.
use Prim.Native.Nat.{ℕ, zero, suc, ◌<◌}
use mathlib.Core.Path.{◌≡◌, refl, sym, ap, subst, ◌∙◌}
use mathlib.Core.Bool.{Bool}
use mathlib.Core.Logic.{◌⊎◌, inl, inr}
use mathlib.Core.List.{List, [], ◌∷◌}
use native.Mathlib.Omega.{arith}
use lib.Dec.{T}
use lib.ListN.{length}
use Rattle.basics.specs.Lists.{Mem, here, there, All, count_from}
use Rattle.basics.proofs.ListLaws.{mem_cases, mem_none, mem_join, all_at, all_from}
use Rattle.basics.proofs.Filters.{mem_left, mem_right, mem_filter, filter_mem}
use Rattle.basics.proofs.Counting.{count_mem, mem_count}
use Rattle.basics.proofs.Positions.{mem_at}
use Rattle.basics.proofs.Ascent.{ascending_join, ascending_filter}
use Rattle.basics.proofs.Sorted.{AscendingBy}
use Rattle.places.specs.Numbering.{at_or_below}
use Rattle.terms.specs.Pattern.{Patterns}
use Rattle.sheet.specs.Sheet.{Sheet}
use Rattle.sheet_tests.specs.SheetTests.{Test, place, pair, sheet_tests}
use Rattle.sheet_tests.specs.CheckSheet.{AcceptedSheet}
use Rattle.decision.specs.Rules.{same_test, test_at}
use Rattle.decision.specs.Graph.{lowest_first}
use Rattle.decision.specs.AskingOrder.{MustPrecede, Ordered, AskingOrder}
use Rattle.decision.specs.PlaceOrder.{is_pair, numbers_where, order_by}
use Rattle.decision.proofs.keys.AskedFirst.{lowest_first_lem}
use Rattle.decision.proofs.rules.NearTests.{Near, rules_near}
use Rattle.decision.proofs.rules.TestsOfRules.{same_test_lem, test_same}

-- The second place is above the first.
abbrev pub Above : ℕ → ℕ → Type 0
Above p r = (r < p) × T (at_or_below r p)

-- No place of the list stands before one above it.
abbrev pub AboveFirst : List ℕ → Type 0
AboveFirst places = AscendingBy (λ (p : ℕ) (r : ℕ). Above p r → ⊥) places

-- Each number of the list differs from all that follow it.
abbrev pub Differ : ℕ → ℕ → Type 0
Differ p q = p ≡ q → ⊥

abbrev pub Apart : List ℕ → Type 0
Apart places = AscendingBy Differ places

count_apart : (n k : ℕ) → Apart (count_from n k)
count_apart n zero = tt
count_apart n (suc k) =
    (all_from (Differ n) (count_from (suc n) k) (λ m l e. omega (arith, count_mem (suc n) k m l)), count_apart (suc n) k)

module _ (rules : List Patterns) where
  -- The numbers of the tests that pass are those of the sheet's tests that do.
  pub where_mem : (f : Test → Bool) {t : ℕ} → Mem t (numbers_where f rules) → (t < length (sheet_tests rules)) × T (f (test_at rules t))
  where_mem f {t} m =
      let r = filter_mem (λ (u : ℕ). f (test_at rules u)) (lowest_first rules) m in
      (omega (arith, count_mem 0 (length (sheet_tests rules)) t r.0), r.1)

  mem_where : (f : Test → Bool) (t : ℕ) → t < length (sheet_tests rules) → T (f (test_at rules t)) → Mem t (numbers_where f rules)
  mem_where f t h passes =
      mem_filter (λ (u : ℕ). f (test_at rules u)) (mem_count 0 (length (sheet_tests rules)) t (omega arith) (omega arith)) passes

  -- Test t is asked by these places: it is one of them, or a pair.
  abbrev pub AskedBy : List ℕ → ℕ → Type 0
  AskedBy places t =
      (t < length (sheet_tests rules)) × (((p : ℕ) × Mem p places × (test_at rules t ≡ place p)) ⊎ T (is_pair (test_at rules t)))

  pub place_at : (p t : ℕ) → T (same_test (place p) (test_at rules t)) → test_at rules t ≡ place p
  place_at p t h = sym (same_test_lem (place p) (test_at rules t) h)

  -- The order has no other tests,
  pub order_mem : (places : List ℕ) {t : ℕ} → Mem t (order_by places rules) → AskedBy places t
  order_mem [] m = let r = where_mem is_pair m in (r.0, inr r.1)
  order_mem (p ∷ places) {t} m =
      elim (mem_join (numbers_where (same_test (place p)) rules) (order_by places rules) m) [
        | inl k ↦ (let r = where_mem (same_test (place p)) k in (r.0, inl (p, here, place_at p t r.1)))
        | inr k ↦ (let r = order_mem places k in
            (r.0, elim r.1 [ inl a ↦ inl (a.0, there a.1, a.2) | inr b ↦ inr b ]))
      ]

  -- and it has all of these.
  order_place
      : (places : List ℕ) (p t : ℕ) → Mem p places → t < length (sheet_tests rules) → test_at rules t ≡ place p
      → Mem t (order_by places rules)
  order_place [] p t m h e = absurd (mem_none m)
  order_place (q ∷ places) p t m h e =
      elim (mem_cases m) [
        | inl same ↦
            let is : test_at rules t ≡ place q = e ∙ ap place same in
            mem_left (order_by places rules)
            (mem_where (same_test (place q)) t h (subst (λ (x : Test). T (same_test (place q) x)) (sym is) (test_same (place q))))
        | inr k ↦ mem_right (numbers_where (same_test (place q)) rules) (order_place places p t k h e)
      ]

  order_pair
      : (places : List ℕ) (t : ℕ) → t < length (sheet_tests rules) → T (is_pair (test_at rules t)) → Mem t (order_by places rules)
  order_pair [] t h is = mem_where is_pair t h is
  order_pair (q ∷ places) t h is = mem_right (numbers_where (same_test (place q)) rules) (order_pair places t h is)

  -- All places ask all tests.
  pub order_whole
      : (places : List ℕ) → ((p : ℕ) → p < 680 → Mem p places) → ((t : Test) → Mem t (sheet_tests rules) → Near t)
      → (t : ℕ) → t < length (sheet_tests rules) → Mem t (order_by places rules)
  order_whole places all near t h = go (test_at rules t) refl (near (test_at rules t) (mem_at (place 0) (sheet_tests rules) t h))
    where
      go : (x : Test) → test_at rules t ≡ x → Near x → Mem t (order_by places rules)
      go (place p) e inside = order_place places p t (all p inside) h e
      go (pair p q) e inside = order_pair places t h (subst (λ (x : Test). T (is_pair x)) (sym e) tt)

  -- The numbers that pass ascend by every relation by which ascending numbers do.
  pub where_ascends
      : (Before : ℕ → ℕ → Type 0) → AscendingBy Before (lowest_first rules) → (f : Test → Bool)
      → AscendingBy Before (numbers_where f rules)
  where_ascends Before lowest f = ascending_filter Before (λ (t : ℕ). f (test_at rules t)) (lowest_first rules) lowest

  -- Where the tests of one place and those of pairs ascend by some relation of tests, and so do the tests of places that ascend by a
  -- relation of places, and each place comes before each pair, the order ascends by it.
  module _ (Before : ℕ → ℕ → Type 0) (Places : ℕ → ℕ → Type 0)
      (one : (p : ℕ) → AscendingBy Before (numbers_where (same_test (place p)) rules))
      (late : AscendingBy Before (numbers_where is_pair rules))
      (two : (p r t u : ℕ) → Places p r → test_at rules t ≡ place p → test_at rules u ≡ place r
      → t < length (sheet_tests rules) → u < length (sheet_tests rules) → Before t u)
      (pairs : (p t u : ℕ) → test_at rules t ≡ place p → T (is_pair (test_at rules u))
      → t < length (sheet_tests rules) → u < length (sheet_tests rules) → Before t u) where
    pub order_ascends : (places : List ℕ) → AscendingBy Places places → AscendingBy Before (order_by places rules)
    order_ascends [] up = late
    order_ascends (p ∷ places) up =
        ascending_join Before (numbers_where (same_test (place p)) rules) (order_by places rules)
        (one p) (order_ascends places up.1)
        (all_from (λ (t : ℕ). All (Before t) (order_by places rules)) (numbers_where (same_test (place p)) rules)
        (λ t m.
        all_from (Before t) (order_by places rules)
        (λ u k. first t u (where_mem (same_test (place p)) m) (order_mem places k))))
      where
        first
            : (t u : ℕ) → (t < length (sheet_tests rules)) × T (same_test (place p) (test_at rules t)) → AskedBy places u
            → Before t u
        first t u h (below, inl a) =
            two p a.0 t u (all_at (Places p) a.1 up.0) (place_at p t h.1) a.2 h.0 below
        first t u h (below, inr b) = pairs p t u (place_at p t h.1) b h.0 below

  -- Places each of which stands once ask each test once.
  pub order_apart : (places : List ℕ) → Apart places → Apart (order_by places rules)
  order_apart places up =
      let each = where_ascends Differ (count_apart 0 (length (sheet_tests rules))) in
      order_ascends Differ Differ (λ p. each (same_test (place p))) (each is_pair)
      (λ p r t u differ e f h k same. let q : p ≡ r = cc (ap (test_at rules) same) in differ q)
      (λ p t u e is h k same. subst (λ (x : Test). T (is_pair x)) (ap (test_at rules) (sym same) ∙ e) is)
      places up

  -- The second test need not be asked before the first.
  abbrev Later : ℕ → ℕ → Type 0
  Later t u = MustPrecede (test_at rules u) (test_at rules t) → ⊥

  ordered_later : (ts : List ℕ) → Ordered rules ts → AscendingBy Later ts
  ordered_later [] a = tt
  ordered_later (t ∷ ts) a = (a.0, ordered_later ts a.1)

  later_ordered : (ts : List ℕ) → AscendingBy Later ts → Ordered rules ts
  later_ordered [] a = tt
  later_ordered (t ∷ ts) a = (a.0, later_ordered ts a.1)

  -- Places of which none stands before one above it ask no test before one that must be asked first.
  pub order_ordered : (places : List ℕ) → AboveFirst places → Ordered rules (order_by places rules)
  order_ordered places up =
      let each = where_ascends Later (ordered_later (lowest_first rules) (lowest_first_lem rules).ordered) in
      later_ordered (order_by places rules)
      (order_ascends Later (λ (p : ℕ) (r : ℕ). Above p r → ⊥) (λ p. each (same_test (place p))) (each is_pair)
      (λ p r t u apart e f h k must.
      apart (subst (λ (x : Test). MustPrecede x (place p)) f (subst (MustPrecede (test_at rules u)) e must)))
      (λ p t u e is h k must. pair_late (test_at rules u) (test_at rules t) is must) places up)
    where
      pair_late : (x y : Test) → T (is_pair x) → MustPrecede x y → ⊥
      pair_late (place n) y is must = absurd is
      pair_late (pair p q) y is must = must

-- The tests of an accepted sheet are at places below 680.
pub sheet_near : (sheet : Sheet) → AcceptedSheet sheet → (t : Test) → Mem t (sheet_tests sheet.rules) → Near t
sheet_near sheet accepted =
    rules_near sheet.arity sheet.rules accepted.sound.few_arguments accepted.sound.accepted_rules

-- A list of all places in which none stands before one above it asks the tests of an accepted sheet in an asking order.
pub places_ask
    : (places : List ℕ) → ((p : ℕ) → p < 680 → Mem p places) → AboveFirst places → (sheet : Sheet) → AcceptedSheet sheet
    → AskingOrder sheet.rules (order_by places sheet.rules)
places_ask places all up sheet accepted = record {
  whole = order_whole sheet.rules places all (sheet_near sheet accepted);
  ordered = order_ordered sheet.rules places up;
}
