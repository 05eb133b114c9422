-- Sets of numbers below w as numbers below 2 ^ w, in sentences: i is a member exactly where digit i is 1; the members
-- ascend, each once, and their powers of two add up to the number; `mask_of w p` has exactly the i below w at which p
-- holds; and equal sets are equal numbers. For any width w.
use Prim.Native.Nat.{ℕ, zero, suc, ◌+◌, ◌^◌, ◌<◌}
use mathlib.Core.Path.{◌≡◌, refl, sym, ap, ◌∙◌}
use mathlib.Core.Bool.{Bool, true, false, cond}
use mathlib.Core.List.{List, [], ◌∷◌, ◌++◌}
use mathlib.Core.Logic.{◌↔◌}
use native.Mathlib.Omega.{arith}
use lib.Dec.{T, ltb}
use Rattle.basics.specs.Lists.{Mem, filter, count_from}
use Rattle.basics.proofs.Booleans.{true_is, is_true}
use Rattle.basics.proofs.Counting.{mem_count, count_mem, count_ascends, count_append}
use Rattle.basics.proofs.Filters.{mem_filter, filter_mem, filter_join}
use Rattle.basics.proofs.Ascent.{ascending_filter}
use Rattle.basics.proofs.Sorted.{Ascending}
use Rattle.masks.specs.Mask.{has, mask_of, members}
use Rattle.masks.proofs.Membership.{has_lt}
use Rattle.masks.proofs.Extensionality.{ext, has_mask_of, mask_of_member, mask_of_has}

-- The members of a set, of those below w, are exactly the numbers that it has,
pub listed_exactly : (w m i : ℕ) → Mem i (members w m) ↔ ((i < w) × (has m i ≡ true))
unfolding members
listed_exactly w m i = (
  λ k. let x = filter_mem (has m) (count_from 0 w) k in
      (omega (arith, count_mem 0 w i x.0), true_is (has m i) x.1),
  λ x. mem_filter (has m) (mem_count 0 w i (omega arith) (omega (arith, x.0))) (is_true x.1),
)

-- all of them where it is a set of numbers below w,
pub member_exactly : (w m : ℕ) → m < 2 ^ w → (i : ℕ) → Mem i (members w m) ↔ (has m i ≡ true)
member_exactly w m fits i =
    (λ k. ((listed_exactly w m i).0 k).1, λ e. (listed_exactly w m i).1 (has_lt w m i fits e, e))

-- and they ascend, each once.
pub members_ascend : (w m : ℕ) → Ascending ltb (members w m)
unfolding members
members_ascend w m =
    ascending_filter (λ (x y : ℕ). T (ltb x y)) (has m) (count_from 0 w) (count_ascends 0 w)

-- `mask_of w p` has exactly the numbers below w at which p holds.
pub mask_exactly : (w : ℕ) (p : ℕ → Bool) (i : ℕ) → (has (mask_of w p) i ≡ true) ↔ ((i < w) × (p i ≡ true))
mask_exactly w p i = (mask_of_member w p i, λ x. has_mask_of w p i x.0 ∙ x.1)

-- Equal sets are equal numbers.
pub same_set_lem : (w a b : ℕ) → a < 2 ^ w → b < 2 ^ w → (a ≡ b) ↔ ((i : ℕ) → i < w → has a i ≡ has b i)
same_set_lem w a b small also = (λ e i l. ap (λ (x : ℕ). has x i) e, ext w a b small also)

-- The powers of two of a list of numbers, added up.
abbrev pub sum_of_powers : List ℕ → ℕ
sum_of_powers [] = 0
sum_of_powers (i ∷ is) = 2 ^ i + sum_of_powers is

sum_join : (is js : List ℕ) → sum_of_powers (is ++ js) ≡ sum_of_powers is + sum_of_powers js
sum_join [] js = omega arith
sum_join (i ∷ is) js = omega (arith, sum_join is js)

-- One digit more.
sum_last : (p : ℕ → Bool) (k : ℕ) → sum_of_powers (filter p (k ∷ [])) ≡ cond (p k) (2 ^ k) 0
sum_last p k = go (p k)
  where
    go : (b : Bool) → sum_of_powers (cond b (k ∷ []) []) ≡ cond b (2 ^ k) 0
    go true = omega arith
    go false = refl

sum_mask : (w : ℕ) (p : ℕ → Bool) → sum_of_powers (filter p (count_from 0 w)) ≡ mask_of w p
unfolding mask_of
sum_mask zero p = refl
sum_mask (suc k) p =
    let more : suc k ≡ k + 1 = omega arith in
    let last : 0 + k ≡ k = omega arith in
    let split : count_from 0 (suc k) ≡ count_from 0 k ++ (k ∷ []) =
    ap (count_from 0) more ∙ count_append 0 k 1 ∙ ap (λ (x : ℕ). count_from 0 k ++ (x ∷ [])) last in
    ap (λ (l : List ℕ). sum_of_powers (filter p l)) split
    ∙ ap sum_of_powers (filter_join p (count_from 0 k) (k ∷ []))
    ∙ sum_join (filter p (count_from 0 k)) (filter p (k ∷ []))
    ∙ omega (arith, sum_mask k p, sum_last p k)

-- "A set of tests, test t being bit t": a set is the sum of 2 ^ t over its members t.
pub set_number : (w m : ℕ) → m < 2 ^ w → m ≡ sum_of_powers (members w m)
unfolding members
set_number w m fits = sym (sum_mask w (has m) ∙ mask_of_has w m fits)
