-- Where all places have asked their tests, and the lower tests are asked before each pair, tests are asked in the order of the
-- places.
use Prim.Native.Nat.{ℕ, ◌≤◌, ◌<◌}
use mathlib.Core.Path.{◌≡◌, sym, ap, subst, ◌∙◌}
use mathlib.Core.Bool.{false}
use mathlib.Core.Logic.{inl, inr}
use mathlib.Core.List.{List, [], ◌∷◌}
use native.Mathlib.Omega.{arith}
use lib.Dec.{T, ltb}
use lib.ListN.{length}
use borrow.Author.Tests.{lt-ltb, le-ltb, ltb-true, ltb-false}
use Rattle.basics.specs.Lists.{Mem, here, there, All}
use Rattle.basics.proofs.Booleans.{true_is}
use Rattle.basics.proofs.Counting.{count_ascends}
use Rattle.basics.proofs.ListLaws.{all_from, all_at}
use Rattle.basics.proofs.Sorted.{AscendingBy}
use Rattle.masks.specs.Mask.{has}
use Rattle.terms.specs.Pattern.{Patterns}
use Rattle.terms.specs.Accepted.{AcceptedRule}
use Rattle.sheet_tests.specs.SheetTests.{Test, place, pair, sheet_tests}
use Rattle.decision.specs.Rules.{same_test, test_at}
use Rattle.decision.specs.PlaceOrder.{is_pair, numbers_where, order_by}
use Rattle.decision.proofs.keys.OrderByPlaces.{Apart, order_mem, where_mem, where_ascends, place_at, order_ascends}
use Rattle.tables.specs.views.Planes.{place_tests_in, before_in}
use Rattle.tables.specs.views.TablesOf.{is_place, Near}
use Rattle.tables.specs.views.Turns.{Asks, Turns}
use Rattle.rows.specs.views.TestsOf.{TestsOf}
use Rattle.rows.proofs.TestNumbers.{tests_number, one_test}
use Rattle.rows.proofs.TestsRight.{tests_near, tests_split}
use Rattle.turns.specs.views.Turned.{turned_by}
use Rattle.turns.proofs.LowestTurns.{Lower, lower_has}
use Rattle.turns.proofs.PlaceTurns.{InTurn, After, places_turned}

-- A list that ascends by a relation ascends by each that follows from it among its members.
ascends_among
    : {A : Type 0} (R Q : A → A → Type 0) (xs : List A) → ((x y : A) → Mem x xs → Mem y xs → R x y → Q x y) → AscendingBy R xs
    → AscendingBy Q xs
ascends_among R Q [] f up = tt
ascends_among R Q (x ∷ xs) f up = (
  all_from (Q x) xs (λ y m. f x y here (there m) (all_at (R x) m up.0)),
  ascends_among R Q xs (λ y z m n. f y z (there m) (there n)) up.1,
)

-- A pair is no place.
pair_place : (x : Test) (p : ℕ) → T (is_pair x) → x ≡ place p → ⊥
pair_place x p is e = subst (λ (y : Test). T (is_pair y)) e is

pair_other : (x : Test) → T (is_pair x) → is_place x ≡ false
pair_other (place p) is = absurd is
pair_other (pair p q) is = λ i. false

module _ (arity : ℕ) (rules : List Patterns) (few : arity ≤ 8) (accepted : All (AcceptedRule arity) rules) (numbers s : List ℕ)
    (l : TestsOf rules numbers s) (lower : Lower s (length (sheet_tests rules))) (places : List ℕ) (apart : Apart places)
    (all : (p : ℕ) → p < 680 → Mem p places) where
  abbrev count : ℕ
  count = length (sheet_tests rules)

  small : count ≤ 64
  small = omega (arith, tests_number rules l.places l.pairs l.tests, l.few)

  abbrev u : List ℕ
  u = turned_by numbers places 0 s

  after : After arity rules few accepted numbers s l places 0 s u
  after = places_turned arity rules few accepted numbers s l places apart

  -- A place test is asked by a place of the list.
  listed : (p t : ℕ) → t < count → test_at rules t ≡ place p → Mem p places
  listed p t h is = all p (subst Near is (tests_near arity rules few accepted numbers s l t h))

  -- Places come first.
  place_first : (p t : ℕ) → t < count → test_at rules t ≡ place p → t < place_tests_in s
  place_first p t h is =
      ltb-true t (place_tests_in s) (sym (tests_split arity rules few accepted numbers s l t h) ∙ ap is_place is)

  pair_last : (v : ℕ) → v < count → T (is_pair (test_at rules v)) → place_tests_in s ≤ v
  pair_last v h is =
      ltb-false v (place_tests_in s) (sym (tests_split arity rules few accepted numbers s l v h) ∙ pair_other (test_at rules v) is)

  -- Before a pair the lower tests are asked.
  pair_before_lem : (v : ℕ) → v < count → T (is_pair (test_at rules v)) → (t : ℕ) → t < count → has (before_in u v) t ≡ ltb t v
  pair_before_lem v h is t k =
      ap (λ (m : ℕ). has m t) (after.kept v (λ p m at. pair_place (test_at rules v) p is at.1) ∙ lower v h)
      ∙ lower_has v t (omega (arith, small))

  one_place : (p : ℕ) → AscendingBy (Asks u) (numbers_where (same_test (place p)) rules)
  one_place p =
      ascends_among (λ (t : ℕ) (v : ℕ). T (ltb t v)) (Asks u) (numbers_where (same_test (place p)) rules)
      (λ t v m n less.
      let a = where_mem rules (same_test (place p)) m in
      let b = where_mem rules (same_test (place p)) n in
      let same = one_test rules t v a.0 b.0 (place_at rules p t a.1 ∙ sym (place_at rules p v b.1)) in
      absurd (omega (arith, ltb-true t v (true_is (ltb t v) less), same)))
      (where_ascends rules (λ (t : ℕ) (v : ℕ). T (ltb t v)) (count_ascends 0 count) (same_test (place p)))

  all_pairs : AscendingBy (Asks u) (numbers_where is_pair rules)
  all_pairs =
      ascends_among (λ (t : ℕ) (v : ℕ). T (ltb t v)) (Asks u) (numbers_where is_pair rules)
      (λ t v m n less.
      let a = where_mem rules is_pair m in
      let b = where_mem rules is_pair n in
      let up = ltb-true t v (true_is (ltb t v) less) in (
        pair_before_lem v b.0 b.1 t a.0 ∙ lt-ltb t v up,
        pair_before_lem t a.0 a.1 v b.0 ∙ le-ltb v t (omega arith),
      ))
      (where_ascends rules (λ (t : ℕ) (v : ℕ). T (ltb t v)) (count_ascends 0 count) is_pair)

  pub order_turns : Turns u (order_by places rules)
  order_turns = record {
    apart = all_from (λ (t : ℕ). has (before_in u t) t ≡ false) (order_by places rules)
        (λ t m. elim (order_mem rules places m).1 [
          | inl a ↦ after.own a.0 t a.1 ((order_mem rules places m).0, a.2)
          | inr is ↦
              let h = (order_mem rules places m).0 in
              pair_before_lem t h is t h ∙ le-ltb t t (omega arith)
        ]);
    ascends = order_ascends rules (Asks u) (InTurn arity rules few accepted numbers s l u) one_place all_pairs
        (λ p r t v turn a b h k. turn t v (h, a) (k, b))
        (λ p t v a is h k. (
          pair_before_lem v k is t h ∙ lt-ltb t v (omega (arith, place_first p t h a, pair_last v k is)),
          after.only p t (listed p t h a) (h, a) v (pair_last v k is),
        ))
        places after.in_turn;
  }
