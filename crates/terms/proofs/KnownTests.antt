-- The outcome of a test of known things: it holds where the test is true and is contradicted where it is not.
use Prim.Native.Nat.{ℕ}
use mathlib.Core.Path.{◌≡◌}
use mathlib.Core.Bool.{Bool, true, false}
use mathlib.Core.Logic.{◌↔◌}
use lib.Dec.{T, eqb, eqb→eq}
use Rattle.basics.proofs.Numbers.{eq_true}
use Rattle.terms.specs.Outcome.{Outcome, holds, not_known, contradicted, Holds, NotKnown, Contradicted, known}
use Rattle.terms.proofs.Outcomes.{true_holds}

-- It holds only where it is true,
pub holds_true : (b : Bool) → Holds (known b) → T b
holds_true true h = tt
holds_true false h = h

-- and is contradicted exactly where it is not.
pub contradicted_false : (b : Bool) → Contradicted (known b) → T b → ⊥
contradicted_false true c h = c
contradicted_false false c h = h

pub false_contradicted : (b : Bool) → (T b → ⊥) → Contradicted (known b)
false_contradicted true h = h tt
false_contradicted false h = tt

-- Two numbers that are tested for being the same.
pub numbers_equal : (a b : ℕ) → Holds (known (eqb a b)) → a ≡ b
numbers_equal a b h = eqb→eq a b (holds_true (eqb a b) h)

pub equal_numbers : (a b : ℕ) → a ≡ b → Holds (known (eqb a b))
equal_numbers a b e = true_holds (eqb a b) (eq_true a b e)

pub numbers_differ : (a b : ℕ) → Contradicted (known (eqb a b)) → a ≡ b → ⊥
numbers_differ a b c e = contradicted_false (eqb a b) c (eq_true a b e)

pub differ_numbers : (a b : ℕ) → (a ≡ b → ⊥) → Contradicted (known (eqb a b))
differ_numbers a b n = false_contradicted (eqb a b) (λ h. n (eqb→eq a b h))

-- What neither holds nor is contradicted is not known,
pub neither : (x : Outcome) → NotKnown x ↔ ((Holds x → ⊥) × (Contradicted x → ⊥))
neither holds = (λ n. absurd n, λ h. h.0 tt)
neither not_known = (λ n. (λ h. h, λ c. c), λ h. tt)
neither contradicted = (λ n. absurd n, λ h. h.1 tt)

-- and what neither holds nor is not known is contradicted.
pub else_contradicted : (x : Outcome) → Contradicted x ↔ ((Holds x → ⊥) × (NotKnown x → ⊥))
else_contradicted holds = (λ c. absurd c, λ h. h.0 tt)
else_contradicted not_known = (λ c. absurd c, λ h. h.1 tt)
else_contradicted contradicted = (λ c. (λ h. h, λ n. n), λ h. tt)
