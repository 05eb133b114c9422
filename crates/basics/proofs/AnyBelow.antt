-- `any_below n p`, that p is true of some number below n: its two answers and what each says.
use mathlib.Core.Path.{◌≡◌, refl, sym, ap, ap₂, ◌∙◌}
use mathlib.Core.Bool.{Bool, true, false, ◌||◌, or-true, false≢true}
use mathlib.Core.Logic.{by_cases}
use Prim.Native.Nat.{ℕ, zero, suc, ◌+◌, ◌≤◌, ◌<◌}
use native.Mathlib.Decide.{ℕ_discrete}
use native.Mathlib.Omega.{arith}
use Rattle.basics.specs.Lists.{any_of, count_from, any_below}
use Rattle.basics.proofs.Booleans.{by_test}

-- The same of the k numbers from a on.
row_none : (a k : ℕ) (p : ℕ → Bool) → ((i : ℕ) → a ≤ i → i < a + k → p i ≡ false) → any_of p (count_from a k) ≡ false
row_none a zero p f = refl
row_none a (suc k) p f =
    rw (f a (omega arith) (omega arith)) (row_none (suc a) k p (λ i h l. f i (omega arith) (omega arith)))

row_some : (a k i : ℕ) (p : ℕ → Bool) → a ≤ i → i < a + k → p i ≡ true → any_of p (count_from a k) ≡ true
row_some a zero i p h l e = absurd (omega arith)
row_some a (suc k) i p h l e =
    by_cases (ℕ_discrete a i)
    (λ (q : a ≡ i). ap (λ (b : Bool). b || any_of p (count_from (suc a) k)) (ap p q ∙ e))
    (λ (q : ¬ (a ≡ i)).
    ap (λ (b : Bool). p a || b) (row_some (suc a) k i p (omega arith) (omega arith) e) ∙ or-true (p a))

row_found
    : (a k : ℕ) (p : ℕ → Bool) → any_of p (count_from a k) ≡ true → (i : ℕ) × (a ≤ i) × (i < a + k) × (p i ≡ true)
row_found a zero p e = absurd (false≢true e)
row_found a (suc k) p e =
    by_test (p a) (λ q. (a, omega arith, omega arith, q))
    (λ q.
    let later = row_found (suc a) k p (sym (ap (λ (b : Bool). b || any_of p (count_from (suc a) k)) q) ∙ e) in
    (later.0, omega (arith, later.1), omega (arith, later.2), later.3))

row_same
    : (a k : ℕ) (p q : ℕ → Bool) → ((i : ℕ) → a ≤ i → i < a + k → p i ≡ q i)
    → any_of p (count_from a k) ≡ any_of q (count_from a k)
row_same a zero p q f = refl
row_same a (suc k) p q f =
    ap₂ ◌||◌ (f a (omega arith) (omega arith)) (row_same (suc a) k p q (λ i h l. f i (omega arith) (omega arith)))

-- Where p is true of no number below n, the answer is false.
pub any_none : (n : ℕ) (p : ℕ → Bool) → ((i : ℕ) → i < n → p i ≡ false) → any_below n p ≡ false
unfolding any_below
any_none n p f = row_none 0 n p (λ i h l. f i (omega arith))

-- Where p is true of some i below n, the answer is true.
pub any_some : (n i : ℕ) (p : ℕ → Bool) → i < n → p i ≡ true → any_below n p ≡ true
unfolding any_below
any_some n i p h e = row_some 0 n i p (omega arith) (omega arith) e

-- Where the answer is true, p is true of some number below n.
pub any_found : (n : ℕ) (p : ℕ → Bool) → any_below n p ≡ true → (i : ℕ) × (i < n) × (p i ≡ true)
unfolding any_below
any_found n p e = let r = row_found 0 n p e in (r.0, omega (arith, r.2), r.3)

-- Where the answer is false, p is true of no number below n.
pub any_nowhere : (n : ℕ) (p : ℕ → Bool) → any_below n p ≡ false → (i : ℕ) → i < n → p i ≡ false
any_nowhere n p e i h = by_test (p i) (λ q. absurd (false≢true (sym e ∙ any_some n i p h q))) (λ q. q)

-- Predicates that agree below n have one answer.
pub any_same : (n : ℕ) (p q : ℕ → Bool) → ((i : ℕ) → i < n → p i ≡ q i) → any_below n p ≡ any_below n q
unfolding any_below
any_same n p q f = row_same 0 n p q (λ i h l. f i (omega arith))
