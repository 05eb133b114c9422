-- All places, ascending, ask the tests in document 01's order.
use Prim.Native.Nat.{ℕ, ◌<◌}
use mathlib.Core.Path.{◌≡◌, sym, subst}
use mathlib.Core.Logic.{inl, inr}
use mathlib.Core.List.{List}
use native.Mathlib.Decide.{ℕ_discrete}
use native.Mathlib.Omega.{arith}
use lib.Dec.{T, ltb, lt→ltb}
use lib.ListN.{length}
use Rattle.basics.specs.Lists.{count_from}
use Rattle.basics.proofs.Numbers.{le_or_lt}
use Rattle.basics.proofs.Counting.{count_mem, mem_count, count_ascends}
use Rattle.basics.proofs.Sorted.{number_order, same_members}
use Rattle.terms.specs.Pattern.{Patterns}
use Rattle.sheet.specs.Sheet.{Sheet}
use Rattle.sheet_tests.specs.SheetTests.{Test, place, pair, before, all_tests, sheet_tests}
use Rattle.sheet_tests.specs.CheckSheet.{AcceptedSheet}
use Rattle.sheet_tests.proofs.TestOrder.{before_order, ascending_ascends}
use Rattle.decision.specs.Rules.{same_test, test_at}
use Rattle.decision.specs.Graph.{lowest_first}
use Rattle.decision.specs.PlaceOrder.{is_pair, order_by}
use Rattle.decision.proofs.keys.AskedFirst.{ascending_at}
use Rattle.decision.proofs.keys.OrderByPlaces.{order_mem, order_whole, where_ascends, order_ascends, sheet_near}

-- "Replaces the ascending order of places": all places, ascending, ask the lowest pending test first.
pub identity_asks
    : (sheet : Sheet) → AcceptedSheet sheet → order_by (count_from 0 680) sheet.rules ≡ lowest_first sheet.rules
identity_asks sheet accepted =
    same_members number_order (order_by all rules) (lowest_first rules)
    (order_ascends rules (λ (t : ℕ) (u : ℕ). T (ltb t u)) (λ (p : ℕ) (r : ℕ). T (ltb p r))
    (λ p. where_ascends rules (λ (t : ℕ) (u : ℕ). T (ltb t u)) (count_ascends 0 count) (same_test (place p)))
    (where_ascends rules (λ (t : ℕ) (u : ℕ). T (ltb t u)) (count_ascends 0 count) is_pair)
    (λ p r t u l e f h k.
    lower t u h k
    (subst (λ (x : Test). T (before (test_at rules t) x)) (sym f) (subst (λ (x : Test). T (before x (place r))) (sym e) l)))
    (λ p t u e is h k.
    lower t u h k (subst (λ (x : Test). T (before x (test_at rules u))) (sym e) (place_pair p (test_at rules u) is)))
    all (count_ascends 0 680))
    (count_ascends 0 count)
    (λ t m. mem_count 0 count t (omega arith) (omega (arith, (order_mem rules all m).0)))
    (λ t m. order_whole rules all (λ p inside. mem_count 0 680 p (omega arith) (omega arith)) (sheet_near sheet accepted) t
    (omega (arith, count_mem 0 count t m)))
  where
    rules : List Patterns
    rules = sheet.rules

    all : List ℕ
    all = count_from 0 680

    count : ℕ
    count = length (sheet_tests sheet.rules)

    place_pair : (p : ℕ) (x : Test) → T (is_pair x) → T (before (place p) x)
    place_pair p (place n) is = absurd is
    place_pair p (pair a b) is = tt

    -- Of two tests that which comes before the other has the lower number.
    lower : (t u : ℕ) → t < count → u < count → T (before (test_at rules t) (test_at rules u)) → T (ltb t u)
    lower t u h k l =
        let up = ascending_ascends (all_tests rules) in
        let never = before_order.irreflexive (test_at rules t) in
        elim (ℕ_discrete u t) [
          | yes e ↦ absurd (never (subst (λ (i : ℕ). T (before (test_at rules t) (test_at rules i))) e l))
          | no d ↦ elim (le_or_lt u t) [
            | inl m ↦
                let back = ascending_at (place 0) (sheet_tests rules) up u t (omega arith) h in
                absurd (never (before_order.transitive (test_at rules t) (test_at rules u) (test_at rules t) l back))
            | inr m ↦ lt→ltb t u m
          ]
        ]
