-- `cuts::gauge_end` meets its contract. The loop's invariant: the runs passed are on the gauge of the first.
use Prim.Native.Nat.{ℕ, ◌≤◌, ◌<◌}
use mathlib.Core.Path.{◌≡◌}
use Rattle.cuts.specs.views.Runs.{run_at}
use Rattle.cuts.specs.views.CaseRuns.{gauge_at}
use Rattle.cuts.proofs.gauge_end.Given as goal

abbrev pub invariant-loop-end : goal.invariant-loop-end
invariant-loop-end l =
    (i : ℕ) → l.k ≤ i → i < l.end → gauge_at (run_at l.runs i) ≡ l.gauge
