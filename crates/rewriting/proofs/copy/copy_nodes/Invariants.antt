-- `rewriting::copy::copy_nodes` meets its contract: the nodes that are left, written behind those that were, complete them.
use Rattle.node_check.proofs.Copying.{PartCopied}
use Rattle.decision.specs.GraphBytes.{nodes_bytes}
use lib.ListN.{length}
use mathlib.Core.Path.{◌≡◌}
use Rattle.graph.specs.ReadGraph.{read_record}
use Rattle.rewriting.proofs.copy.copy_nodes.Given as goal

abbrev pub invariant-loop : goal.invariant-loop
invariant-loop l =
    (length l.buf ≡ length l.initial.buf)
    × PartCopied read_record nodes_bytes l.s l.start l.count l.initial.buf l.buf l.at l.counter
