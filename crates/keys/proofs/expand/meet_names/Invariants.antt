-- `expand::meet_names` meets its contract. The loop's invariant: the cases from case k on are still to come.
use Prim.Native.Nat.{◌*◌, ◌≤◌}
use mathlib.Core.List.{map}
use Rattle.cuts.specs.views.Runs.{runs_in}
use Rattle.cuts.specs.views.CaseRuns.{runs_from}
use Rattle.edges.specs.views.NodeIn.{run_edge}
use Rattle.met.specs.views.KeysMet.{keys_in, Chained}
use Rattle.keys.proofs.EdgesInTurn.{CasesLeft}
use Rattle.keys.proofs.expand.meet_names.Given as goal

abbrev pub invariant-loop-k : goal.invariant-loop-k
invariant-loop-k l =
    (l.bytes ≤ 8 * l.k) × Chained l.keys
    × CasesLeft (map (run_edge l.s l.asked) (runs_in l.runs l.count)) (map (run_edge l.s l.asked) (runs_from l.runs l.count l.k)) (keys_in l.initial.keys) l.keys
    l.bytes
