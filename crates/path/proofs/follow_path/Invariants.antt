-- `path::follow_path` meets its contract: the nodes passed and the path from the node that it is at make up the whole path.
use mathlib.Core.Path.{◌≡◌}
use lib.ListN.{length, take}
use Rattle.path.specs.views.Following.{nodes_at}
use Rattle.path.proofs.GoingOn.{Going}
use Rattle.path.proofs.follow_path.Given as goal

abbrev pub invariant-loop-edges : goal.invariant-loop-edges
invariant-loop-edges l =
    (length l.met ≡ 64) × Going (nodes_at l.graph l.starts l.nodes) l.cells l.edges l.node (take l.edges l.met)
