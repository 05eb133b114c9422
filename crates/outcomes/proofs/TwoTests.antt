-- Laws of two tests: one of them is true, or both are.
use Prim.Native.Nat.{ℕ}
use mathlib.Core.Path.{◌≡◌, refl}
use mathlib.Core.Bool.{Bool, true, false, ◌&&◌, ◌||◌}
use mathlib.Core.Logic.{◌⊎◌, inl, inr}
use lib.Dec.{eqb}
use borrow.Author.Tests.{eq-eqb, ne_eqb}

-- Two tests are not both true where the first or the second is not.
pub not_both : (x y : Bool) → (x ≡ false) ⊎ (y ≡ false) → x && y ≡ false
not_both x y (inl h) = rw h
not_both true y (inr h) = h
not_both false y (inr h) = refl

-- One of two tests is true where the second is.
either : (x y : Bool) → y ≡ true → x || y ≡ true
either true y h = refl
either false y h = h

-- One of two tests is true where the first or the second is.
pub one_of : (x y : Bool) → (x ≡ true) ⊎ (y ≡ true) → x || y ≡ true
one_of x y (inl h) = rw h
one_of x y (inr h) = either x y h

-- One of two numbers is k,
pub one_is : (a b k : ℕ) → (a ≡ k) ⊎ (eqb b k ≡ true) → eqb a k || eqb b k ≡ true
one_is a b k (inl h) = rw (eq-eqb a k h)
one_is a b k (inr h) = either (eqb a k) (eqb b k) h

-- or neither is.
pub none_is : (a b k : ℕ) → (a ≡ k → ⊥) → eqb b k ≡ false → eqb a k || eqb b k ≡ false
none_is a b k h other = rw (ne_eqb a k h, other)
