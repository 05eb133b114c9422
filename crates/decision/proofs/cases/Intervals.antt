-- Ranges of numbers between ascending cuts: from each cut to the number before the next.
use Prim.Native.Nat.{ℕ, suc, pred, ◌≤◌, ◌<◌}
use mathlib.Core.Path.{◌≡◌, refl, ap}
use mathlib.Core.Logic.{◌⊎◌, inl, inr}
use mathlib.Core.List.{List, [], ◌∷◌}
use native.Mathlib.Omega.{arith}
use lib.ListN.{length}
use Rattle.basics.specs.Lists.{Mem, here, there, All}
use Rattle.terms.specs.RuleTests.{Range}
use Rattle.decision.specs.Runs.{between}
use Rattle.basics.proofs.ListLaws.{all_at, all_map, mem_cases, mem_none}
use Rattle.basics.proofs.Ascent.{ascending_two}
use Rattle.basics.proofs.Numbers.{le_or_lt, not_apart}
use Rattle.basics.proofs.Sorted.{AscendingBy as Ascending}

-- The number lies in the range.
abbrev pub Contains : Range → ℕ → Type 0
Contains r v = (r.low ≤ v) × (v ≤ r.high)

-- The first range ends before the second begins.
abbrev pub EndsBefore : Range → Range → Type 0
EndsBefore r s = r.high < s.low

-- The cut does not fall inside the range.
abbrev pub Uncut : Range → ℕ → Type 0
Uncut r z = (z ≤ r.low) ⊎ (r.high < z)

-- The range goes from a cut to the number before another, and no cut falls inside.
pub record Between (cuts : List ℕ) (r : Range) : Type 0 where
  pub begins : Mem r.low cuts
  pub ends : Mem (suc r.high) cuts
  pub ordered : r.low ≤ r.high
  pub uncut : All (Uncut r) cuts

-- The first of ascending cuts is the lowest,
first_lowest : (x : ℕ) (xs : List ℕ) → Ascending ◌<◌ (x ∷ xs) → (z : ℕ) → Mem z (x ∷ xs) → x ≤ z
first_lowest x xs a z m =
    elim (mem_cases m) [ inl e ↦ omega arith | inr k ↦ omega (arith, all_at (λ (y : ℕ). x < y) k a.0) ]

-- and a cut above it is one of the others.
above_first : (x : ℕ) (xs : List ℕ) (z : ℕ) → Mem z (x ∷ xs) → x < z → Mem z xs
above_first x xs z m h = elim (mem_cases m) [ inl e ↦ (let never : ⊥ = omega arith in absurd never) | inr k ↦ k ]

-- The range between the first two cuts is between cuts,
first_between
    : (x y : ℕ) (ys : List ℕ) → Ascending ◌<◌ (x ∷ y ∷ ys) → Between (x ∷ y ∷ ys) (record { low = x; high = pred y })
first_between x y ys a =
    let r : Range = record { low = x; high = pred y } in
    let next : suc (pred y) ≡ y = omega (arith, a.0.0) in
    let later : All (Uncut r) ys = all_map (λ (z : ℕ). y < z) (Uncut r) (λ z h. inr (omega arith)) ys a.1.0 in
    record {
      begins = here;
      ends = rw next (there here);
      ordered = omega (arith, a.0.0);
      uncut = (inl (omega arith), (inr (omega arith), later));
    }

-- and so is each range between the later cuts.
later_between
    : (x y : ℕ) (ys : List ℕ) → Ascending ◌<◌ (x ∷ y ∷ ys) → (r : Range) → Between (y ∷ ys) r → Between (x ∷ y ∷ ys) r
later_between x y ys a r b = record {
  begins = there b.begins;
  ends = there b.ends;
  ordered = b.ordered;
  uncut = (inl (omega (arith, a.0.0, first_lowest y ys a.1 r.low b.begins)), b.uncut);
}

-- Each range between ascending cuts goes from a cut to the number before another, and no cut falls inside.
pub between_cuts : (cuts : List ℕ) → Ascending ◌<◌ cuts → All (Between cuts) (between cuts)
between_cuts [] a = tt
between_cuts (x ∷ []) a = tt
between_cuts (x ∷ (y ∷ ys)) a =
    let rest = between_cuts (y ∷ ys) a.1 in
    let later = all_map (Between (y ∷ ys)) (Between (x ∷ y ∷ ys)) (later_between x y ys a) (between (y ∷ ys)) rest in
    (first_between x y ys a, later)

-- The ranges between ascending cuts ascend and do not overlap.
pub between_ascends : (cuts : List ℕ) → Ascending ◌<◌ cuts → Ascending EndsBefore (between cuts)
between_ascends [] a = tt
between_ascends (x ∷ []) a = tt
between_ascends (x ∷ (y ∷ ys)) a =
    let first : Range = record { low = x; high = pred y } in
    let apart : (r : Range) → Between (y ∷ ys) r → EndsBefore first r =
    λ r b. omega (arith, a.0.0, first_lowest y ys a.1 r.low b.begins) in
    let rest = between_cuts (y ∷ ys) a.1 in
    (all_map (Between (y ∷ ys)) (EndsBefore first) apart (between (y ∷ ys)) rest, between_ascends (y ∷ ys) a.1)

-- A number at or above one cut and below another lies in a range between cuts.
pub between_covers
    : (cuts : List ℕ) → Ascending ◌<◌ cuts → (x z v : ℕ) → Mem x cuts → x ≤ v → Mem z cuts → v < z
    → (r : Range) × Mem r (between cuts) × Contains r v
between_covers [] a x z v m h n k = absurd (mem_none m)
between_covers (c ∷ []) a x z v m h n k =
    absurd (mem_none (above_first c [] z n (omega (arith, first_lowest c [] a x m))))
between_covers (c ∷ (d ∷ ds)) a x z v m h n k =
    let first : c ≤ x = first_lowest c (d ∷ ds) a x m in
    elim (le_or_lt d v) [
      | inl p ↦ (let above = above_first c (d ∷ ds) z n (omega arith) in
          let r = between_covers (d ∷ ds) a.1 d z v here p above k in
          (r.0, there r.1, r.2))
      | inr p ↦ (record { low = c; high = pred d }, here, (omega arith, omega arith))
    ]

-- A number lies in one only of ranges that ascend and do not overlap.
pub in_one_only
    : (rs : List Range) → Ascending EndsBefore rs → (r s : Range) (v : ℕ) → Mem r rs → Mem s rs
    → Contains r v → Contains s v → r ≡ s
in_one_only rs a r s v m n h k =
    elim (ascending_two EndsBefore r s rs a m n) [
      | inl e ↦ e
      | inr d ↦ (let never : ⊥ = elim d [ inl p ↦ omega arith | inr p ↦ omega arith ] in absurd never)
    ]

-- There is one range less than cuts.
pub between_length : (zs : List ℕ) → length (between zs) ≡ pred (length zs)
between_length [] = refl
between_length (x ∷ []) = refl
between_length (x ∷ (y ∷ ys)) = ap suc (between_length (y ∷ ys))

-- What is the same within each of two ranges, and neither just before nor just after them where the other goes on, makes them one
-- where they have a number in common.
pub record Ends (Same : ℕ → ℕ → Type 0) (r s : Range) : Type 0 where
  pub same_set : (u v : ℕ) → Contains r u → Contains r v → Same u v
  pub below : s.low < r.low → Same (pred r.low) r.low → ⊥
  pub above : r.high < s.high → Same r.high (suc r.high) → ⊥

pub same_ends
    : (Same : ℕ → ℕ → Type 0) (r s : Range) (v : ℕ) → Ends Same r s → Ends Same s r → Contains r v → Contains s v → r ≡ s
same_ends Same r s v a b h k =
    let low = not_apart r.low s.low (λ d. begins s r b a k h d) (λ d. begins r s a b h k d) in
    let high = not_apart r.high s.high (λ d. ends r s a b h k d) (λ d. ends s r b a k h d) in
    λ i. record { low = low i; high = high i }
  where
    begins : (p q : Range) → Ends Same p q → Ends Same q p → Contains p v → Contains q v → q.low < p.low → ⊥
    begins p q c e m n d =
        c.below d
        (e.same_set (pred p.low) p.low (omega arith, omega (arith, m.0, n.1)) (omega arith, omega (arith, m.0, n.1)))

    ends : (p q : Range) → Ends Same p q → Ends Same q p → Contains p v → Contains q v → p.high < q.high → ⊥
    ends p q c e m n d =
        c.above d
        (e.same_set p.high (suc p.high) (omega (arith, m.1, n.0), omega arith) (omega (arith, m.1, n.0), omega arith))
