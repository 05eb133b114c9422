-- A range is on one gauge (document 02, request 7): no more ranges are on the gauges of an ascending list than there are, and as
-- many ranges on several gauges make no more pairs of runs than on one.
use Prim.Native.Nat.{ℕ, zero, suc, ◌+◌, ◌*◌, ◌≤◌, ◌<◌}
use mathlib.Core.Path.{◌≡◌, refl}
use mathlib.Core.Bool.{Bool, true, false, cond}
use mathlib.Core.List.{List, [], ◌∷◌}
use native.Mathlib.Nat.{add-mul, mul-add, mul-le-mul, suc-mul}
use native.Mathlib.Omega.{arith}
use lib.Dec.{eqb→eq}
use lib.ListN.{length}
use Rattle.basics.specs.Lists.{All}
use Rattle.basics.proofs.Booleans.{cond_by}
use Rattle.basics.proofs.Sorted.{AscendingBy as Ascending}
use Rattle.terms.specs.Term.{gauge_of}
use Rattle.terms.specs.RuleTests.{Range}
use Rattle.decision.specs.Runs.{is_on}
use Rattle.decision.proofs.cases.OnGauges.{ranges_on}

-- How many ranges are on the gauges of a list, and on how many of the gauges a range is.
abbrev pub total_on : List ℕ → List Range → ℕ
total_on [] ws = 0
total_on (g ∷ gs) ws = length (ranges_on ws g) + total_on gs ws

abbrev hits : List ℕ → Range → ℕ
hits [] w = 0
hits (g ∷ gs) w = cond (is_on g w) 1 0 + hits gs w

-- One range more adds its gauges.
one_more : (g : ℕ) (w : Range) (ws : List Range) → length (ranges_on (w ∷ ws) g) ≡ cond (is_on g w) 1 0 + length (ranges_on ws g)
one_more g w ws = go (is_on g w)
  where
    go : (b : Bool) → length (cond b (w ∷ ranges_on ws g) (ranges_on ws g)) ≡ cond b 1 0 + length (ranges_on ws g)
    go true = omega arith
    go false = omega arith

total_more : (gs : List ℕ) (w : Range) (ws : List Range) → total_on gs (w ∷ ws) ≡ hits gs w + total_on gs ws
total_more [] w ws = refl
total_more (g ∷ gs) w ws = omega (arith, one_more g w ws, total_more gs w ws)

total_none : (gs : List ℕ) → total_on gs [] ≡ 0
total_none [] = refl
total_none (g ∷ gs) = omega (arith, total_none gs)

-- It is on none above its own, and so on one at most.
none_above : (g : ℕ) (w : Range) → gauge_of w.low ≡ g → (gs : List ℕ) → All (λ (k : ℕ). g < k) gs → hits gs w ≡ 0
none_above g w own [] a = refl
none_above g w own (k ∷ gs) a =
    cond_by (λ (n : ℕ). n + hits gs w ≡ 0) (is_on k w)
    (λ t. let other : gauge_of w.low ≡ k = eqb→eq (gauge_of w.low) k t in let never : ⊥ = omega (arith, a.0) in absurd never)
    (λ t. omega (arith, none_above g w own gs a.1))

one_gauge_only : (gs : List ℕ) → Ascending ◌<◌ gs → (w : Range) → hits gs w ≤ 1
one_gauge_only [] a w = omega arith
one_gauge_only (g ∷ gs) a w =
    cond_by (λ (n : ℕ). n + hits gs w ≤ 1) (is_on g w)
    (λ t. omega (arith, none_above g w (eqb→eq (gauge_of w.low) g t) gs a.0))
    (λ t. omega (arith, one_gauge_only gs a.1 w))

pub total_most : (gs : List ℕ) → Ascending ◌<◌ gs → (ws : List Range) → total_on gs ws ≤ length ws
total_most gs a [] = omega (arith, total_none gs)
total_most gs a (w ∷ ws) = omega (arith, total_more gs w ws, one_gauge_only gs a w, total_most gs a ws)

-- Twice as many as the pairs that n ranges make on one gauge, none for none.
abbrev pub twice_pairs : ℕ → ℕ
twice_pairs zero = 0
twice_pairs (suc n) = suc (2 * suc n) * suc (suc (2 * suc n))

-- The pairs of n runs and those of k + 1 runs are no more than those of n + k runs.
pairs_add : (n k : ℕ) → 2 ≤ n → 2 ≤ k → n * suc n + suc k * suc (suc k) ≤ (n + k) * (suc n + k)
pairs_add n k p q =
    let sum : (n + k) * (suc n + k) ≡ n * (suc n + k) + k * (suc n + k) = add-mul n k (suc n + k) in
    let first : n * (suc n + k) ≡ n * suc n + n * k = mul-add n (suc n) k in
    let last : k * suc (suc k) ≤ k * (suc n + k) =
    mul-le-mul {n₁ = k} {m₁ = suc (suc k)} {n₂ = k} {m₂ = suc n + k} (omega arith) (omega arith) in
    let both : 2 * k ≤ n * k = mul-le-mul {n₁ = 2} {m₁ = k} {n₂ = n} {m₂ = k} p (omega arith) in
    omega (arith, suc-mul k (suc (suc k)))

-- Ranges on two gauges make no more pairs than as many on one.
pub twice_add : (a b n : ℕ) → n ≡ a + b → twice_pairs a + twice_pairs b ≤ twice_pairs n
twice_add zero b n e = let same : n ≡ b = omega arith in rw same (omega arith)
twice_add (suc a) zero n e = let same : n ≡ suc a = omega arith in rw same (omega arith)
twice_add (suc a) (suc b) zero e = let never : ⊥ = omega arith in absurd never
twice_add (suc a) (suc b) (suc n) e =
    let runs : ℕ = suc (2 * suc a) in
    let more : ℕ = 2 * suc b in
    let all : suc (2 * suc n) ≡ runs + more = omega arith in
    let next : suc (suc (2 * suc n)) ≡ suc runs + more = omega arith in
    let product : suc (2 * suc n) * suc (suc (2 * suc n)) ≡ (runs + more) * (suc runs + more) = λ i. all i * next i in
    omega (arith, pairs_add runs more (omega arith) (omega arith))

-- More ranges may make more.
pub twice_most : (a n : ℕ) → a ≤ n → twice_pairs a ≤ suc (2 * n) * suc (suc (2 * n))
twice_most zero n h = omega arith
twice_most (suc a) n h =
    mul-le-mul {n₁ = suc (2 * suc a)} {m₁ = suc (suc (2 * suc a))} {n₂ = suc (2 * n)} {m₂ = suc (suc (2 * n))} (omega arith)
    (omega arith)
