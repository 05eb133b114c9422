-- `node_check::check::check_nodes` meets its contract: where the passed nodes begin and what is still to be read give where all
-- begin.
use Rattle.node_check.proofs.NodesPass.{resume_at, nodes_left}
use Rattle.decision.specs.views.GraphSize.{most_node_bytes}
use Rattle.node_check.specs.views.CheckNode.{kept_test, starts_from}
use Rattle.graph.specs.ReadGraph.{read_nodes}
use Rattle.records.specs.Reading.{after}
use lib.ListN.{length, take, drop}
use Prim.Native.Nat.{◌+◌, ◌*◌, ◌≤◌}
use mathlib.Core.Path.{◌≡◌}
use Rattle.node_check.proofs.check.check_nodes.Given as goal

abbrev pub invariant-loop-i : goal.invariant-loop-i
invariant-loop-i l =
    (l.at ≤ length l.s) × (l.at ≤ 5 + most_node_bytes * l.i) × (length l.starts ≡ 1024)
    × (after 5 (starts_from 5) (read_nodes (kept_test l.words l.codes l.count) l.rules l.nodes (drop 5 l.s))
    ≡ resume_at (kept_test l.words l.codes l.count) l.rules l.nodes l.s l.at (take l.i l.starts) (nodes_left (kept_test l.words l.codes l.count) l.rules l.nodes l.s l.i l.at))
