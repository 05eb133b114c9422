-- The order of tests is strict and total, so the tests of a sheet ascend, each once, and are those of its rules.
use mathlib.Core.Path.{◌≡◌, ap, sym, subst}
use mathlib.Core.Logic.{inl, inr}
use mathlib.Core.List.{List, [], ◌∷◌}
use lib.Dec.{T}
use Rattle.basics.specs.Lists.{Mem, here, there}
use Rattle.basics.proofs.ListLaws.{mem_cases}
use Rattle.basics.proofs.Sorted.{StrictOrder, Ascending, number_order, pair_irreflexive, pair_transitive, pair_total, insert_has, insert_keeps, insert_mem, insert_ascends}
use Rattle.sheet_tests.specs.SheetTests.{Test, place, pair, before, ascending}

-- The order of tests is strict and total.
pub before_order : StrictOrder before
before_order = record { irreflexive = irreflexive; transitive = transitive; total = total }
  where
    irreflexive : (t : Test) → T (before t t) → ⊥
    irreflexive (place n) h = number_order.irreflexive n h
    irreflexive (pair p q) h = pair_irreflexive p q h

    transitive : (t u v : Test) → T (before t u) → T (before u v) → T (before t v)
    transitive (place l) (place m) (place n) h k = number_order.transitive l m n h k
    transitive (place l) (place m) (pair p q) h k = tt
    transitive (place l) (pair p q) (place n) h k = absurd k
    transitive (place l) (pair p q) (pair x y) h k = tt
    transitive (pair p q) (place m) v h k = absurd h
    transitive (pair p q) (pair x y) (place n) h k = absurd k
    transitive (pair p q) (pair x y) (pair a b) h k = pair_transitive p q x y a b h k

    total : (t u : Test) → (T (before t u) → ⊥) → (T (before u t) → ⊥) → t ≡ u
    total (place m) (place n) h k = ap place (number_order.total m n h k)
    total (place m) (pair p q) h k = absurd (h tt)
    total (pair p q) (place n) h k = absurd (k tt)
    total (pair p q) (pair x y) h k = let e = pair_total p q x y h k in λ i. pair (e.0 i) (e.1 i)

-- The tests in ascending order are those of the list.
pub ascending_ascends : (ts : List Test) → Ascending before (ascending ts)
ascending_ascends [] = tt
ascending_ascends (t ∷ ts) = insert_ascends before_order t (ascending ts) (ascending_ascends ts)

pub ascending_has : (ts : List Test) {t : Test} → Mem t ts → Mem t (ascending ts)
ascending_has [] {t = t} m = elim m [ ]
ascending_has (u ∷ ts) {t} m =
    elim (mem_cases m) [
      | inl e ↦ subst (λ (x : Test). Mem x (ascending (u ∷ ts))) (sym e) (insert_has before_order u (ascending ts))
      | inr k ↦ insert_keeps before_order u (ascending ts) (ascending_has ts k)
    ]

pub ascending_mem : (ts : List Test) {t : Test} → Mem t (ascending ts) → Mem t ts
ascending_mem [] m = m
ascending_mem (u ∷ ts) {t} m =
    elim (insert_mem before_order u (ascending ts) m) [
      | inl e ↦ subst (λ (x : Test). Mem x (u ∷ ts)) (sym e) here
      | inr k ↦ there (ascending_mem ts k)
    ]
