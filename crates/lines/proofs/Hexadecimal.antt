-- Laws of the hexadecimal digits of numbers.
use Prim.Native.Nat.{ℕ, zero, suc, ◌-◌, ◌/◌, ◌%◌}
use mathlib.Core.Path.{◌≡◌, refl, sym, ap, ◌∙◌}
use mathlib.Core.List.{[], ◌∷◌, ◌++◌}
use native.Mathlib.Omega.{arith}
use lib.ListN.{length, length-append}
use Rattle.digits.specs.Decimal.{digit}
use Rattle.lines.specs.Lines.{hex_digits}

-- The hexadecimal digits, one more at the end.
pub hex_more : (k x : ℕ) → (k ≡ 0 → ⊥) → hex_digits k x ≡ hex_digits (k - 1) (x / 16) ++ (digit (x % 16) ∷ [])
unfolding hex_digits
hex_more zero x some = absurd (some refl)
hex_more (suc k) x some =
    let less : suc k - 1 ≡ k = omega arith in ap (λ (j : ℕ). hex_digits j (x / 16) ++ (digit (x % 16) ∷ [])) (sym less)

-- No digits are none.
pub hex_none : (x : ℕ) → hex_digits 0 x ≡ []
unfolding hex_digits
hex_none x = refl

-- They are as many as asked for.
pub hex_size : (k x : ℕ) → length (hex_digits k x) ≡ k
unfolding hex_digits
hex_size zero x = refl
hex_size (suc k) x = length-append (hex_digits k (x / 16)) (digit (x % 16) ∷ []) ∙ omega (arith, hex_size k (x / 16))
