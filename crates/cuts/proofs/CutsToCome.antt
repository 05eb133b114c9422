-- A pass over the cuts of ranges, at one of them: which are to come, and what none of them cuts.
use Prim.Native.Nat.{ℕ, ◌≤◌, ◌<◌}
use mathlib.Core.List.{List, [], ◌∷◌}
use mathlib.Core.Logic.{inl, inr}
use native.Mathlib.Omega.{arith}
use Rattle.basics.specs.Lists.{Mem, All}
use Rattle.basics.proofs.ListLaws.{all_at, all_from, mem_cases, mem_none}
use Rattle.basics.proofs.Numbers.{le_or_lt}
use Rattle.basics.proofs.Sorted.{AscendingBy}
use Rattle.terms.specs.RuleTests.{Range}
use Rattle.decision.specs.Runs.{cuts}
use Rattle.decision.proofs.cases.Intervals.{Uncut}

module _ (ws : List Range) where
  -- The pass is at a cut, and the others that are above it are to come.
  pub record At (start : ℕ) (zs : List ℕ) : Type 0 where
    pub cut : Mem start (cuts ws)
    pub ascend : AscendingBy ◌<◌ (start ∷ zs)
    pub listed : All (λ (z : ℕ). Mem z (cuts ws)) zs
    pub others : (z : ℕ) → Mem z (cuts ws) → start < z → Mem z zs

  pub next_lowest : (z : ℕ) (zs : List ℕ) → AscendingBy ◌<◌ (z ∷ zs) → (x : ℕ) → Mem x (z ∷ zs) → z ≤ x
  next_lowest z zs a x m = elim (mem_cases m) [ inl e ↦ omega arith | inr k ↦ omega (arith, all_at (λ (y : ℕ). z < y) k a.0) ]

  pub at_next : (start z : ℕ) (zs : List ℕ) → At start (z ∷ zs) → At z zs
  at_next start z zs at = record {
    cut = at.listed.0;
    ascend = at.ascend.1;
    listed = at.listed.1;
    others = λ x m h. elim (mem_cases (at.others x m (omega (arith, at.ascend.0.0)))) [
      | inl e ↦ absurd (omega arith)
      | inr k ↦ k
    ];
  }

  -- No cut falls inside what lies from one cut to the next, nor behind the last.
  pub uncut_here : (start z : ℕ) (zs : List ℕ) → At start (z ∷ zs) → (r : Range) → start ≤ r.low → r.high < z
      → All (Uncut r) (cuts ws)
  uncut_here start z zs at r low high =
      all_from (Uncut r) (cuts ws)
      (λ c m. elim (le_or_lt c start) [
        | inl h ↦ inl (omega arith)
        | inr h ↦ inr (omega (arith, next_lowest z zs at.ascend.1 c (at.others c m h)))
      ])

  pub uncut_last : (start : ℕ) → At start [] → (r : Range) → start ≤ r.low → All (Uncut r) (cuts ws)
  uncut_last start at r low =
      all_from (Uncut r) (cuts ws)
      (λ c m. elim (le_or_lt c start) [ inl h ↦ inl (omega arith) | inr h ↦ absurd (mem_none (at.others c m h)) ])
