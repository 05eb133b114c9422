-- Ranges in order by their lows, then by their highs, and ranges of which each ends before the next begins.
use Prim.Native.Nat.{ℕ, ◌≤◌}
use mathlib.Core.Path.{ap}
use mathlib.Core.Bool.{Bool}
use mathlib.Core.Logic.{inl, inr}
use mathlib.Core.List.{List, [], ◌∷◌}
use native.Mathlib.Omega.{arith}
use lib.Dec.{T}
use Rattle.basics.specs.Lists.{Mem, All}
use Rattle.basics.specs.Order.{pair_before}
use Rattle.basics.proofs.ListLaws.{all_at, all_from}
use Rattle.basics.proofs.Ascent.{ascending_two}
use Rattle.basics.proofs.Sorted.{StrictOrder, AscendingBy, Ascending}
use Rattle.basics.proofs.Sorted.{pair_irreflexive, pair_transitive, pair_total, before_pair}
use Rattle.terms.specs.RuleTests.{Range}
use Rattle.decision.proofs.cases.Intervals.{Contains, EndsBefore}

-- What is so of an order where the things are such holds in an ascending list of such things.
pub ascending_imply
    : {A : Type 0} (P : A → Type 0) (B C : A → A → Type 0) → ((x y : A) → P x → P y → B x y → C x y) → (xs : List A)
    → All P xs → AscendingBy B xs → AscendingBy C xs
ascending_imply P B C f [] p a = tt
ascending_imply {A} P B C f (x ∷ xs) p a = (
  all_from (C x) xs (λ y m. f x y p.0 (all_at P m p.1) (all_at (B x) m a.0)),
  ascending_imply P B C f xs p.1 a.1,
)

-- By the low, then by the high.
abbrev pub range_before : Range → Range → Bool
range_before r s = pair_before r.low r.high s.low s.high

pub range_order : StrictOrder range_before
range_order = record {
  irreflexive = λ r h. pair_irreflexive r.low r.high h;
  transitive = λ r s t h k. pair_transitive r.low r.high s.low s.high t.low t.high h k;
  total = λ r s h k.
      let e = pair_total r.low r.high s.low s.high h k in
      λ i. record { low = e.0 i; high = e.1 i };
}

-- The range has a number.
abbrev pub Filled : Range → Type 0
Filled r = r.low ≤ r.high

-- Ranges that end before the next begins are in that order.
pub in_order_lem : (rs : List Range) → All Filled rs → AscendingBy EndsBefore rs → Ascending range_before rs
in_order_lem rs p a =
    ascending_imply Filled EndsBefore (λ (r : Range) (s : Range). T (range_before r s))
    (λ r s h k l. before_pair r.low r.high s.low s.high (inl (omega arith))) rs p a

module _ (rs : List Range) (filled : All Filled rs) (ascend : AscendingBy EndsBefore rs) where
  -- Of two of them one that begins at or below a number of the other begins at or below the other,
  pub begins_below : (r q : Range) (v : ℕ) → Mem r rs → Mem q rs → Contains r v → q.low ≤ v → q.low ≤ r.low
  begins_below r q v m n h k =
      let own : Filled q = all_at Filled n filled in
      elim (ascending_two EndsBefore q r rs ascend n m) [
        | inl e ↦ omega (arith, ap (λ (s : Range). s.low) e)
        | inr d ↦ elim d [ inl p ↦ omega arith | inr p ↦ omega arith ]
      ]

  -- and one that ends at or above a number of the other ends at or above the other.
  pub ends_above : (r q : Range) (v : ℕ) → Mem r rs → Mem q rs → Contains r v → v ≤ q.high → r.high ≤ q.high
  ends_above r q v m n h k =
      let own : Filled q = all_at Filled n filled in
      elim (ascending_two EndsBefore q r rs ascend n m) [
        | inl e ↦ omega (arith, ap (λ (s : Range). s.high) e)
        | inr d ↦ elim d [ inl p ↦ omega arith | inr p ↦ omega arith ]
      ]
