-- Laws of the decimal digits of numbers.
use Prim.Native.Nat.{ℕ, zero, suc, ◌/◌, ◌%◌, ◌^◌, ◌≤◌, ◌<◌}
use mathlib.Core.Path.{◌≡◌, refl, ap, ◌∙◌}
use mathlib.Core.List.{List, [], ◌∷◌, ◌++◌}
use mathlib.Core.Bool.{Bool, true, false, cond}
use native.Mathlib.Omega.{arith}
use native.Mathlib.Nat.{pow-suc}
use lib.Dec.{ltb}
use lib.ListN.{length, length-append}
use borrow.Author.Tests.{lt-ltb, le-ltb, ltb-true, ltb-false}
use Rattle.digits.specs.Decimal.{digit, decimal_in, decimal}

-- What stands before the last digit changes alike where it changes.
with_last
    : (n : ℕ) (b : Bool) (xs ys : List ℕ) → (b ≡ false → xs ≡ ys)
    → cond b (digit n ∷ []) (xs ++ (digit (n % 10) ∷ [])) ≡ cond b (digit n ∷ []) (ys ++ (digit (n % 10) ∷ []))
with_last n true xs ys e = refl
with_last n false xs ys e = ap (◌++ (digit (n % 10) ∷ [])) (e refl)

-- Room for more digits than there are changes nothing.
decimal_room : (k l n : ℕ) → n < k → n < l → decimal_in k n ≡ decimal_in l n
unfolding decimal_in
decimal_room zero l n h i = absurd (omega arith)
decimal_room (suc k) zero n h i = absurd (omega arith)
decimal_room (suc k) (suc l) n h i =
    with_last n (ltb n 10) (decimal_in k (n / 10)) (decimal_in l (n / 10))
    (λ e. let ten = ltb-false n 10 e in decimal_room k l (n / 10) (omega arith) (omega arith))

-- A number below ten is one digit.
pub decimal_one : (n : ℕ) → n < 10 → decimal n ≡ digit n ∷ []
unfolding decimal decimal_in
decimal_one n h = simp (lt-ltb n 10 h)

-- Any other has the digits of its tenth, then its last one.
pub decimal_more : (n : ℕ) → 10 ≤ n → decimal n ≡ decimal (n / 10) ++ (digit (n % 10) ∷ [])
unfolding decimal decimal_in
decimal_more n h =
    let tenth : decimal_in n (n / 10) ≡ decimal_in (suc (n / 10)) (n / 10) =
    decimal_room n (suc (n / 10)) (n / 10) (omega arith) (omega arith) in
    (simp (le-ltb n 10 h)) ∙ ap (◌++ (digit (n % 10) ∷ [])) tenth

one_more
    : (k n : ℕ) (b : Bool) → ltb n 10 ≡ b → (10 ≤ n → length (decimal (n / 10)) ≤ k) → length (decimal n) ≤ suc k
one_more k n true e tenth = rw (decimal_one n (ltb-true n 10 e)) (omega arith)
one_more k n false e tenth =
    let ten = ltb-false n 10 e in
    rw (decimal_more n ten) (omega (arith, length-append (decimal (n / 10)) (digit (n % 10) ∷ []), tenth ten))

-- A number below a power of ten has no more digits than its exponent says.
pub decimal_size : (k n : ℕ) → n < 10 ^ suc k → length (decimal n) ≤ suc k
decimal_size zero n h = one_more 0 n (ltb n 10) refl (λ ten. absurd (omega arith))
decimal_size (suc k) n h =
    one_more (suc k) n (ltb n 10) refl (λ ten. decimal_size k (n / 10) (omega (arith, pow-suc 10 (suc k))))

-- 0 is one digit, 1,024 four and 65,535 five.
example_numbers
    : decimal 0 ++ (decimal 1024 ++ decimal 65535)
    ≡ 0x30 ∷ 0x31 ∷ 0x30 ∷ 0x32 ∷ 0x34 ∷ 0x36 ∷ 0x35 ∷ 0x35 ∷ 0x33 ∷ 0x35 ∷ []
unfolding decimal decimal_in
example_numbers = refl
