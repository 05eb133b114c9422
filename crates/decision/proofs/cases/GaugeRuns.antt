-- The runs of gauges (document 02, request 7): "each gauge of which a live rule has a range there is cut into runs by itself". The
-- runs of a gauge lie on it, those of all gauges ascend, and each number of such a gauge is in one of them.
use Prim.Native.Nat.{ℕ, suc, ◌<◌}
use mathlib.Core.Path.{◌≡◌}
use mathlib.Core.Logic.{◌↔◌, inl, inr}
use mathlib.Core.List.{List, [], ◌∷◌, ◌++◌}
use native.Mathlib.Omega.{arith}
use lib.Dec.{T}
use Rattle.basics.specs.Lists.{Mem, here, there, All}
use Rattle.basics.proofs.ListLaws.{all_at, all_from, mem_cases, mem_join, mem_none}
use Rattle.basics.proofs.Filters.{mem_left, mem_right}
use Rattle.basics.proofs.Ascent.{ascending_join}
use Rattle.basics.proofs.Numbers.{both_le}
use Rattle.basics.proofs.Sorted.{AscendingBy as Ascending}
use Rattle.terms.specs.Term.{on_gauge, gauge_of}
use Rattle.terms.specs.RuleTests.{Range}
use Rattle.decision.specs.Runs.{gauges_of, runs_on}
use Rattle.decision.proofs.cases.Intervals.{Contains, EndsBefore}
use Rattle.decision.proofs.cases.RangeRuns.{meets}
use Rattle.decision.proofs.cases.FramedRuns.{framed_ascends, framed_inside, framed_meets}
use Rattle.decision.proofs.cases.OnGauges.{OneGauge, OnGauge, on_gauge_lem, common_gauge, gauge_order}
use Rattle.decision.proofs.cases.OnGauges.{gauges_ascend, ranges_on, range_on_lem, ranges_on_lem}

-- What each of some gauges has, one gauge after another.
abbrev pub of_each : (ℕ → List Range) → List ℕ → List Range
of_each f [] = []
of_each f (g ∷ gs) = f g ++ of_each f gs

module _ (f : ℕ → List Range) where
  -- It is of one of the gauges,
  pub of_each_lem : (gs : List ℕ) (x : Range) → Mem x (of_each f gs) ↔ ((g : ℕ) × Mem g gs × Mem x (f g))
  of_each_lem [] x = (λ m. absurd (mem_none m), λ k. absurd (mem_none k.1))
  of_each_lem (g ∷ gs) x =
      let others = of_each_lem gs x in (
        λ m. elim (mem_join (f g) (of_each f gs) m) [
          | inl k ↦ (g, here, k)
          | inr k ↦ (let own = others.0 k in (own.0, there own.1, own.2))
        ],
        λ k. elim (mem_cases k.1) [
          | inl e ↦ mem_left {xs = f g} (of_each f gs) (rw (← e) k.2)
          | inr m ↦ mem_right (f g) (others.1 (k.0, m, k.2))
        ],
      )

  -- and ascends where that of each gauge does and comes before that of a later one.
  pub each_ascends
      : (Before : Range → Range → Type 0) → ((g : ℕ) → Ascending Before (f g))
      → ((g k : ℕ) (x y : Range) → g < k → Mem x (f g) → Mem y (f k) → Before x y) → (gs : List ℕ) → Ascending ◌<◌ gs
      → Ascending Before (of_each f gs)
  each_ascends Before own later [] a = tt
  each_ascends Before own later (g ∷ gs) a =
      ascending_join Before (f g) (of_each f gs) (own g) (each_ascends Before own later gs a.1)
      (all_from (λ (x : Range). All (Before x) (of_each f gs)) (f g) (λ x m.
      all_from (Before x) (of_each f gs) (λ y n.
      let k = (of_each_lem gs y).0 n in later g k.0 x y (all_at (λ (h : ℕ). g < h) k.1 a.0) m k.2)))

-- The runs of all gauges that ranges are on.
abbrev pub gauge_runs : List Range → List Range
gauge_runs ws = of_each (λ g. runs_on g ws) (gauges_of ws)

-- Of two ranges on gauges, that on the lower gauge ends before the other begins.
pub lower_gauge : (g k : ℕ) (r s : Range) → g < k → OnGauge g r → OnGauge k s → EndsBefore r s
lower_gauge g k r s h a b = omega (arith, a.2, b.0)

module _ (ws : List Range) (one : All OneGauge ws) where
  -- Each run of a gauge lies on it,
  pub run_on : (g : ℕ) (r : Range) → Mem r (runs_on g ws) → OnGauge g r
  run_on g r m =
      framed_inside (on_gauge g 0) (on_gauge (suc g) 0) (ranges_on ws g) (gauge_order g) (ranges_on_lem ws g one) r m

  -- so that a run of all gauges is of its own gauge, which a range is on.
  pub gauge_run : (r : Range) → Mem r (gauge_runs ws) ↔ (Mem (gauge_of r.low) (gauges_of ws) × Mem r (runs_on (gauge_of r.low) ws))
  gauge_run r =
      let each = of_each_lem (λ g. runs_on g ws) (gauges_of ws) r in (
        λ m. let k = each.0 m in
            let own : gauge_of r.low ≡ k.0 = ((on_gauge_lem k.0 r).0 (run_on k.0 r k.2)).1 in
            rw own (k.1, k.2),
        λ k. each.1 (gauge_of r.low, k.0, k.1),
      )

  pub gauge_run_on : (r : Range) → Mem r (gauge_runs ws) → OneGauge r
  gauge_run_on r m = ((on_gauge_lem (gauge_of r.low) r).0 (run_on (gauge_of r.low) r ((gauge_run r).0 m).1)).0

  -- The runs of all gauges ascend and do not overlap,
  pub gauge_runs_ascend : Ascending EndsBefore (gauge_runs ws)
  gauge_runs_ascend =
      each_ascends (λ g. runs_on g ws) EndsBefore
      (λ g. framed_ascends (on_gauge g 0) (on_gauge (suc g) 0) (ranges_on ws g))
      (λ g k r s h m n. lower_gauge g k r s h (run_on g r m) (run_on k s n)) (gauges_of ws) (gauges_ascend ws)

  -- and a range that has one number of a run has all of them.
  pub gauge_run_meets
      : (r w : Range) (v : ℕ) → Mem r (gauge_runs ws) → Mem w ws → Contains r v → T (meets w r) ↔ Contains w v
  gauge_run_meets r w v m n h =
      let g = gauge_of r.low in
      let ends = both_le w.low r.high r.low w.high in (
        λ t. let k = ends.0 t in
            let same = common_gauge w r (all_at OneGauge n one) (gauge_run_on r m) k.0 k.1 in
            (framed_meets (on_gauge g 0) (on_gauge (suc g) 0) (ranges_on ws g) r w ((gauge_run r).0 m).1
            ((range_on_lem ws g w).1 (n, same)) v h).0 t,
        λ k. ends.1 (omega (arith, k.0, h.1), omega (arith, k.1, h.0)),
      )
