-- `cuts::case_count` meets its contract. The loop's invariant: the cases counted and the pairs to come are all cases.
use Prim.Native.Nat.{◌+◌, ◌-◌, ◌≤◌}
use mathlib.Core.Path.{◌≡◌}
use lib.ListN.{length}
use Rattle.cuts.specs.views.Runs.{runs_in}
use Rattle.cuts.specs.views.CaseRuns.{gauge_pairs, case_runs, runs_from}
use Rattle.cuts.proofs.case_count.Given as goal

abbrev pub invariant-loop-first : goal.invariant-loop-first
invariant-loop-first l =
    (l.framed.names ≤ l.first)
    × (l.first ≤ l.framed.count)
    × (l.cases + length (gauge_pairs (runs_from l.runs l.framed.count l.first))
    ≡ length (case_runs l.framed.names (runs_in l.runs l.framed.count)))

abbrev pub decreases-loop-first : goal.decreases-loop-first
decreases-loop-first l = l.framed.count - l.first
