-- Sets of the rules and tests of a sheet as words of 64 bits: what is asked of the word is asked of the set.
use Prim.Native.Nat.{ℕ, zero, suc, ◌+◌, ◌^◌, ◌≤◌, ◌<◌}
use mathlib.Core.Path.{◌≡◌, refl, sym, ap, ◌∙◌}
use mathlib.Core.Bool.{Bool, true, false, ◌&&◌}
use mathlib.Core.Logic.{by_cases}
use native.Mathlib.Decide.{dec_lt}
use native.Mathlib.Nat.{add-suc, suc-add, lt_of_lt_of_le}
use native.Mathlib.Omega.{arith}
use lib.Pow.{pow_mono}
use borrow.Author.Tests.{lt-ltb}
use Rattle.masks.specs.Mask.{has, mask_of, members}
use Rattle.masks.proofs.Membership.{has_above}
use Rattle.masks.proofs.Extensionality.{ext, mask_of_lt, has_mask_of, mask_of_same}
use Rattle.masks.proofs.Operations.{full_is}
use Rattle.edges.specs.views.KeysBehind.{full}
use Rattle.basics.proofs.AnyBelow.{any_none, any_some, any_found, any_nowhere}
use Rattle.basics.specs.Lists.{any_below}
use Rattle.basics.proofs.Booleans.{by_test}
use Rattle.masks.proofs.Listed.{cons_if, list_from}

-- What holds nowhere from n on holds somewhere below w where it does below n.
pub any_within
    : (n w : ℕ) (p q : ℕ → Bool) → n ≤ w → ((i : ℕ) → i < n → p i ≡ q i) → ((i : ℕ) → n ≤ i → p i ≡ false)
    → any_below w p ≡ any_below n q
any_within n w p q h same none =
    by_test (any_below n q)
    (λ e.
    let f = any_found n q e in
    let l : f.0 < w = omega (arith, f.1) in
    any_some w f.0 p l (same f.0 f.1 ∙ f.2) ∙ sym e)
    (λ e.
    any_none w p
    (λ i l.
    by_cases (dec_lt i n) (λ (k : i < n). same i k ∙ any_nowhere n q e i k)
    (λ (k : ¬ (i < n)). none i (omega arith)))
    ∙ sym e)

-- A list of the numbers at which p holds is as long as it is wide where p holds nowhere further on.
list_within
    : (n w i : ℕ) (p : ℕ → Bool) → n ≤ w → ((j : ℕ) → i + n ≤ j → p j ≡ false) → list_from w i p ≡ list_from n i p
list_within zero zero i p h f = refl
list_within zero (suc w) i p h f =
    rw (f i (omega arith)) (list_within zero w (suc i) p (omega arith) (λ j l. f j (omega arith)))
list_within (suc n) zero i p h f = absurd (omega arith)
list_within (suc n) (suc w) i p h f =
    ap (cons_if (p i) i)
    (list_within n w (suc i) p (omega arith) (λ j l. f j (omega (arith, add-suc i n, suc-add i n))))

-- The members of a set are the same at every width that holds it.
pub members_within : (n w m : ℕ) → n ≤ w → m < 2 ^ n → members w m ≡ members n m
unfolding members
members_within n w m h k = list_within n w 0 (has m) h (λ j l. has_above n m j k (omega arith))

-- The members of a set of numbers below n at which p holds.
pub those_where
    : (n m : ℕ) (p q : ℕ → Bool) → n ≤ 64 → m < 2 ^ n → ((i : ℕ) → i < n → has m i ≡ true → p i ≡ q i)
    → mask_of 64 (λ i. has m i && p i) ≡ mask_of n (λ i. has m i && q i)
those_where n m p q h k same =
    ext 64 (mask_of 64 (λ i. has m i && p i)) (mask_of n (λ i. has m i && q i)) (mask_of_lt 64 (λ i. has m i && p i))
    (lt_of_lt_of_le (mask_of_lt n (λ i. has m i && q i)) (pow_mono h))
    (λ i l.
    has_mask_of 64 (λ j. has m j && p j) i l
    ∙ by_cases (dec_lt i n)
    (λ (a : i < n).
    by_test (has m i) (λ y. ap (λ (b : Bool). has m i && b) (same i a y)) (λ y. rw y)
    ∙ sym (has_mask_of n (λ j. has m j && q j) i a))
    (λ (a : ¬ (i < n)).
    ap (λ (b : Bool). b && p i) (has_above n m i k (omega arith))
    ∙ sym (has_above n (mask_of n (λ j. has m j && q j)) i (mask_of_lt n (λ j. has m j && q j)) (omega arith))))

-- All numbers below n.
pub full_where : (n : ℕ) → n ≤ 64 → full n ≡ mask_of n (λ i. true)
unfolding full
full_where n h = sym (full_is 64 n h) ∙ full_is n n (omega arith) ∙ mask_of_same n _ _ (λ i l. lt-ltb i n l)
