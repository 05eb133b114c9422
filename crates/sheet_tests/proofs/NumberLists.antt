-- Ascending lists of numbers: those that pass a test, out of a row of numbers one after another.
use Prim.Native.Nat.{ℕ, zero, suc, ◌+◌, ◌<◌}
use mathlib.Core.Path.{◌≡◌, refl, sym, ap, ◌∙◌, subst}
use mathlib.Core.Bool.{Bool, true, false, cond}
use mathlib.Core.Logic.{◌⊎◌, inl, inr}
use mathlib.Core.List.{List, [], ◌∷◌, ◌++◌}
use native.Mathlib.Omega.{arith}
use lib.Dec.{T, ltb}
use lib.ListN.{length}
use Rattle.basics.specs.Lists.{Mem, here, there, filter, count_from}
use Rattle.basics.specs.Order.{insert_by}
use Rattle.basics.proofs.ListLaws.{mem_cases, mem_none}
use Rattle.basics.proofs.Sorted.{Ascending, insert_has, insert_keeps, insert_mem, insert_ascends, same_members, number_order}
use Rattle.sheet_tests.specs.views.TestedPlaces.{insert_all}
use Rattle.masks.proofs.Listed.{cons_if, list_from}

-- As many of one row pass a test as of another where the tests agree.
pub filter_listed
    : (f g : ℕ → Bool) (a b k : ℕ) → ((j : ℕ) → j < k → f (a + j) ≡ g (b + j))
    → length (filter f (count_from a k)) ≡ length (list_from k b g)
filter_listed f g a b zero h = refl
filter_listed f g a b (suc k) h =
    go (f a) (g b) first (filter_listed f g (suc a) (suc b) k (λ j l. later j l))
  where
    first : f a ≡ g b
    first =
        let p : a ≡ a + 0 = omega arith in
        let q : b + 0 ≡ b = omega arith in
        ap f p ∙ h 0 (omega arith) ∙ ap g q

    later : (j : ℕ) → j < k → f (suc a + j) ≡ g (suc b + j)
    later j l =
        let p : suc a + j ≡ a + suc j = omega arith in
        let q : b + suc j ≡ suc b + j = omega arith in
        ap f p ∙ h (suc j) (omega arith) ∙ ap g q

    go : (x y : Bool) → x ≡ y → length (filter f (count_from (suc a) k)) ≡ length (list_from k (suc b) g)
        → length {A = ℕ} (cond x (a ∷ filter f (count_from (suc a) k)) (filter f (count_from (suc a) k)))
        ≡ length (cons_if y b (list_from k (suc b) g))
    go true true e i = ap suc i
    go true false e i = absurd (subst T e tt)
    go false true e i = absurd (subst T (sym e) tt)
    go false false e i = i

-- What stands in a list stands there after numbers were put in.
pub all_insert_keeps : (xs l : List ℕ) {z : ℕ} → Mem z l → Mem z (insert_all xs l)
all_insert_keeps [] l m = m
all_insert_keeps (x ∷ xs) l m = all_insert_keeps xs (insert_by ltb x l) (insert_keeps number_order x l m)

-- Numbers put one after another into a list stand in it.
pub all_insert_has : (xs l : List ℕ) {x : ℕ} → Mem x xs → Mem x (insert_all xs l)
all_insert_has [] l m = absurd (mem_none m)
all_insert_has (y ∷ xs) l {x} m =
    let first : Mem y (insert_all xs (insert_by ltb y l)) =
    all_insert_keeps xs (insert_by ltb y l) (insert_has number_order y l) in
    elim (mem_cases m) [
      | inl e ↦ subst (λ (z : ℕ). Mem z (insert_all xs (insert_by ltb y l))) (sym e) first
      | inr k ↦ all_insert_has xs (insert_by ltb y l) k
    ]

-- What stands in the new list was put in or stood there before.
pub all_insert_mem : (xs l : List ℕ) {x : ℕ} → Mem x (insert_all xs l) → Mem x xs ⊎ Mem x l
all_insert_mem [] l m = inr m
all_insert_mem (y ∷ xs) l {x} m =
    elim (all_insert_mem xs (insert_by ltb y l) m) [
      | inl k ↦ inl (there k)
      | inr k ↦ elim (insert_mem number_order y l k) [
        | inl e ↦ inl (subst (λ (z : ℕ). Mem z (y ∷ xs)) (sym e) here)
        | inr n ↦ inr n
      ]
    ]

-- The list ascends as before.
pub all_insert_ascends : (xs l : List ℕ) → Ascending ltb l → Ascending ltb (insert_all xs l)
all_insert_ascends [] l a = a
all_insert_ascends (y ∷ xs) l a = all_insert_ascends xs (insert_by ltb y l) (insert_ascends number_order y l a)

-- Two lists put in one after the other are the joined list put in.
pub all_insert_append : (xs ys l : List ℕ) → insert_all (xs ++ ys) l ≡ insert_all ys (insert_all xs l)
all_insert_append [] ys l = refl
all_insert_append (x ∷ xs) ys l = all_insert_append xs ys (insert_by ltb x l)

-- A number put in before others is as well put in after them.
pub all_insert_late
    : (xs l : List ℕ) (y : ℕ) → Ascending ltb l → insert_all xs (insert_by ltb y l) ≡ insert_by ltb y (insert_all xs l)
all_insert_late xs l y a =
    same_members number_order (insert_all xs (insert_by ltb y l)) (insert_by ltb y (insert_all xs l))
    (all_insert_ascends xs (insert_by ltb y l) (insert_ascends number_order y l a))
    (insert_ascends number_order y (insert_all xs l) (all_insert_ascends xs l a)) forth back
  where
    forth : (z : ℕ) → Mem z (insert_all xs (insert_by ltb y l)) → Mem z (insert_by ltb y (insert_all xs l))
    forth z m =
        elim (all_insert_mem xs (insert_by ltb y l) m) [
          | inl k ↦ insert_keeps number_order y (insert_all xs l) (all_insert_has xs l k)
          | inr k ↦ elim (insert_mem number_order y l k) [
            | inl e ↦ subst (λ (x : ℕ). Mem x (insert_by ltb y (insert_all xs l))) (sym e)
                (insert_has number_order y (insert_all xs l))
            | inr n ↦ insert_keeps number_order y (insert_all xs l) (all_insert_keeps xs l n)
          ]
        ]

    back : (z : ℕ) → Mem z (insert_by ltb y (insert_all xs l)) → Mem z (insert_all xs (insert_by ltb y l))
    back z m =
        elim (insert_mem number_order y (insert_all xs l) m) [
          | inl e ↦ subst (λ (x : ℕ). Mem x (insert_all xs (insert_by ltb y l))) (sym e)
              (all_insert_keeps xs (insert_by ltb y l) (insert_has number_order y l))
          | inr k ↦ elim (all_insert_mem xs l k) [
            | inl n ↦ all_insert_has xs (insert_by ltb y l) n
            | inr n ↦ all_insert_keeps xs (insert_by ltb y l) (insert_keeps number_order y l n)
          ]
        ]
