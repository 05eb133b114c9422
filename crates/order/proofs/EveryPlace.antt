-- 680 numbers below 680, none of them twice, are all numbers below 680.
use Prim.Native.Nat.{ℕ, zero, suc, ◌≤◌, ◌<◌}
use mathlib.Core.Path.{◌≡◌, refl, sym, ap, subst, ◌∙◌}
use mathlib.Core.Bool.{Bool, true, not, ◌&&◌}
use mathlib.Core.List.{List, [], ◌∷◌}
use native.Mathlib.Omega.{arith}
use borrow.Author.Tests.{ne_eqb, ltb-true}
use lib.Dec.{T, T_not, eqb, ltb, eqb→eq, eqb_refl}
use lib.ListN.{length}
use Rattle.basics.specs.Lists.{Mem, All, filter, any_of}
use Rattle.basics.proofs.Booleans.{by_test, and_both, cond_by, is_true}
use Rattle.basics.proofs.Numbers.{eq_true}
use Rattle.basics.proofs.ListLaws.{all_map, all_from, all_at}
use Rattle.basics.proofs.Filters.{mem_any, any_mem, filter_mem}
use Rattle.basics.proofs.Ascent.{ascending_filter}
use Rattle.decision.proofs.keys.OrderByPlaces.{Differ, Apart}
use Rattle.order.specs.Table.{each_once}

-- A number stands in a list exactly if it is found there.
pub found_mem : (p : ℕ) (xs : List ℕ) → T (any_of (eqb p) xs) → Mem p xs
found_mem p xs h =
    let r = any_mem (eqb p) xs h in
    subst (λ (x : ℕ). Mem x xs) (sym (eqb→eq p r.0 r.2)) r.1

pub mem_found : (p : ℕ) {xs : List ℕ} → Mem p xs → T (any_of (eqb p) xs)
mem_found p m = mem_any (eqb p) m (eqb_refl p)

-- All numbers but one.
abbrev but : ℕ → ℕ → Bool
but n x = not (eqb x n)

but_other : (n x : ℕ) → (x ≡ n → ⊥) → T (but n x)
but_other n x d = rw (ne_eqb x n d) tt

but_itself : (n x : ℕ) → (T (but n x) → ⊥) → x ≡ n
but_itself n x h = by_test (eqb x n) (λ e. eqb→eq x n (is_true e)) (λ e. absurd (h (rw e tt)))

-- A list of which everything passes a test stays as long as it is.
all_pass : (f : ℕ → Bool) (xs : List ℕ) → All (λ (x : ℕ). T (f x)) xs → length (filter f xs) ≡ length xs
all_pass f [] h = refl
all_pass f (x ∷ xs) h =
    let rest = all_pass f xs h.1 in
    cond_by (λ (l : List ℕ). length l ≡ suc (length xs)) (f x) (λ k. ap suc rest) (λ k. absurd (k h.0))

-- Of numbers that differ from one another at most one is a given one.
one_gone : (n : ℕ) (xs : List ℕ) → Apart xs → length xs ≤ suc (length (filter (but n) xs))
one_gone n [] a = omega arith
one_gone n (x ∷ xs) a =
    let rest = one_gone n xs a.1 in
    cond_by (λ (l : List ℕ). suc (length xs) ≤ suc (length l)) (but n x) (λ k. omega arith)
    (λ k.
    let e = but_itself n x k in
    let others = all_map (Differ x) (λ (y : ℕ). T (but n y)) (λ y d. but_other n y (λ same. d (e ∙ sym same))) xs a.0 in
    omega (arith, all_pass (but n) xs others))

-- Numbers below n that differ from one another are at most n.
pub at_most : (n : ℕ) (xs : List ℕ) → All (λ (x : ℕ). x < n) xs → Apart xs → length xs ≤ n
at_most zero [] below a = omega arith
at_most zero (x ∷ xs) below a = absurd (omega (arith, below.0))
at_most (suc n) xs below a =
    let rest = filter (but n) xs in
    let lower : All (λ (x : ℕ). x < n) rest =
    all_from (λ (x : ℕ). x < n) rest (λ x m.
    let r = filter_mem (but n) xs m in
    let differs : x ≡ n → ⊥ = λ e. T_not (eqb x n) r.1 (eq_true x n e) in
    omega (arith, all_at (λ (y : ℕ). y < suc n) r.0 below)) in
    omega (arith, one_gone n xs a, at_most n rest lower (ascending_filter Differ (but n) xs a))

-- The numbers of a list in which each stands once are below 680,
pub once_below : (places : List ℕ) → each_once places ≡ true → All (λ (p : ℕ). p < 680) places
once_below [] e = tt
once_below (p ∷ places) e =
    let outer = and_both (ltb p 680 && not (any_of (eqb p) places)) (each_once places) e in
    let inner = and_both (ltb p 680) (not (any_of (eqb p) places)) outer.0 in
    (ltb-true p 680 inner.0, once_below places outer.1)

-- and differ from one another.
pub once_apart : (places : List ℕ) → each_once places ≡ true → Apart places
once_apart [] e = tt
once_apart (p ∷ places) e =
    let outer = and_both (ltb p 680 && not (any_of (eqb p) places)) (each_once places) e in
    let inner = and_both (ltb p 680) (not (any_of (eqb p) places)) outer.0 in
    let new = T_not (any_of (eqb p) places) (is_true inner.1) in (
      all_from (Differ p) places (λ q m same. new (mem_found p (subst (λ (x : ℕ). Mem x places) (sym same) m))),
      once_apart places outer.1,
    )

-- "680 wide place numbers", none out of range or twice, are all 680 places.
pub every_place
    : (places : List ℕ) → each_once places ≡ true → length places ≡ 680 → (p : ℕ) → p < 680 → Mem p places
every_place places once size p inside =
    by_test (any_of (eqb p) places) (λ e. found_mem p places (is_true e))
    (λ e.
    let missing : Mem p places → ⊥ = λ m. subst T e (mem_found p m) in
    let apart = all_from (Differ p) places (λ q m same. missing (subst (λ (x : ℕ). Mem x places) (sym same) m)) in
    absurd
    (omega (arith, at_most 680 (p ∷ places) (inside, once_below places once) (apart, once_apart places once))))
