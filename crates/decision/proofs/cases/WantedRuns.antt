-- The runs of what wanted ranges accept, "cut .. as numbers were in document 01": "one for each maximal run .. accepted by the same
-- non-empty set".
use Prim.Native.Nat.{ℕ, suc, pred, ◌≤◌}
use mathlib.Core.Path.{subst}
use mathlib.Core.Logic.Iff
use mathlib.Core.Logic.{◌↔◌}
use mathlib.Core.List.{List}
use native.Mathlib.Omega.{arith}
use lib.Dec.{T}
use Rattle.basics.specs.Lists.{Mem, All}
use Rattle.basics.proofs.ListLaws.{all_at}
use Rattle.basics.proofs.Numbers.{both_le}
use Rattle.terms.specs.RuleTests.{Range}
use Rattle.decision.specs.Runs.{covers, runs}
use Rattle.decision.proofs.cases.Intervals.{Contains, Ends, same_ends}
use Rattle.decision.proofs.cases.RangeOrder.{Filled}
use Rattle.decision.proofs.cases.RangeRuns.{covers_contains, run_between, run_wanted, in_run, cut_parted}
use Rattle.decision.proofs.cases.FramedRuns.{InFrame, SameRanges, parted_other}

-- A run lies where the wanted ranges lie.
pub run_inside : (base top : ℕ) (ws : List Range) → All (InFrame base top) ws → (r : Range) → Mem r (runs ws) → InFrame base top r
run_inside base top ws inside r m =
    let c = run_wanted ws r m in
    let s = (both_le c.0.low r.low r.high c.0.high).0 c.2 in
    let own = all_at (InFrame base top) c.1 inside in
    (omega (arith, own.0, s.0), (run_between ws r m).ordered, omega (arith, own.2, s.1))

-- The range r is a maximal run accepted by the same non-empty set of the ranges.
pub record MaximalRun (ws : List Range) (r : Range) : Type 0 where
  pub filled : Filled r
  pub wanted : (w : Range) × Mem w ws × Contains w r.low
  pub same_set : (u v : ℕ) → Contains r u → Contains r v → SameRanges ws u v
  pub maximal_below : 1 ≤ r.low → SameRanges ws (pred r.low) r.low → ⊥
  pub maximal_above : SameRanges ws r.high (suc r.high) → ⊥

module _ (ws : List Range) (ordered : All Filled ws) where
  -- Each run is maximal,
  run_maximal : (r : Range) → Mem r (runs ws) → MaximalRun ws r
  run_maximal r m =
      let b = run_between ws r m in
      let c = run_wanted ws r m in
      let same : (w : Range) (v : ℕ) → Mem w ws → Contains r v → T (covers w r) ↔ Contains w v =
      λ w v n h. covers_contains ws r w v b n h in
      record {
        filled = b.ordered;
        wanted = (c.0, c.1, (same c.0 r.low c.1 (omega arith, b.ordered)).0 c.2);
        same_set = λ u v h k w n. Iff.trans (Iff.symm (same w u n h)) (same w v n k);
        maximal_below = λ h. parted_other ws (pred r.low) r.low (cut_parted ws ordered r.low h b.begins);
        maximal_above = parted_other ws r.high (suc r.high) (cut_parted ws ordered (suc r.high) (omega arith) b.ends);
      }

  -- and ends where another set of the ranges accepts,
  ends_there : (r s : Range) → MaximalRun ws r → Ends (SameRanges ws) r s
  ends_there r s a = record {
    same_set = a.same_set;
    below = λ d. a.maximal_below (omega arith);
    above = λ d. a.maximal_above;
  }

  -- so that the runs are the maximal ones.
  pub runs_are : (r : Range) → Mem r (runs ws) ↔ MaximalRun ws r
  runs_are r = (run_maximal r, own)
    where
      own : MaximalRun ws r → Mem r (runs ws)
      own a =
          let c = a.wanted in
          let s = in_run ws c.0 r.low c.1 c.2 in
          let b = run_maximal s.0 s.1 in
          let has : Contains r r.low = (omega arith, a.filled) in
          let same = same_ends (SameRanges ws) s.0 r r.low (ends_there s.0 r b) (ends_there r s.0 a) s.2 has in
          subst (λ (q : Range). Mem q (runs ws)) same s.1
