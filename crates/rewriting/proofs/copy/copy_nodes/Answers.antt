-- `rewriting::copy::copy_nodes` meets its contract: the nodes that are left, written behind those that were, complete them.
use Rattle.std.specs.Prelude.{Ok}
use Rattle.node_check.proofs.Copying.{copied_starts, first_there, read_there, Copied-next, copied_ends}
use Rattle.graph.proofs.SpelledNodes.{NodeFields, node_spelled}
use Rattle.decision.specs.GraphBytes.{node_bytes, nodes_bytes}
use Rattle.decision.specs.Node.{end}
use Rattle.decision.specs.Key.{fail_node}
use lib.ListN.{drop}
use native.Mathlib.Omega.{arith}
use mathlib.Core.Path.{refl, sym, ap, ◌∙◌}
use Rattle.graph.specs.ReadGraph.{read_record}
use Rattle.records.proofs.ByteLists.{bytes_all}
use Rattle.rewriting.proofs.copy.copy_nodes.Goals as goal

pub loop-init : goal.loop-init
loop-init c = let a = c.args in (refl, copied_starts read_record nodes_bytes a.s.now a.start a.count a.buf.now c.requires.0 c.requires.1 c.requires.2)

pub copy_node-requires : goal.copy_node-requires
copy_node-requires c =
    let a = c.args in
    let s = c.args.s.now in
    let loop = c.loop in
    let h = bytes_all s (λ i. omega (arith, c.type_inv.s i)) in
    let copied = c.loop.invariant.1 in
    (copied.there, copied.fits, first_there node_bytes NodeFields read_record node_spelled nodes_bytes refl (λ n ns. refl) h copied (omega arith))

pub returns-in_err-at : goal.returns-in_err-at
returns-in_err-at c = absurd (cc (c.copy_node.ensures.0, c.in_err-at.was))

pub loop-preserved : goal.loop-preserved
loop-preserved c =
    let a = c.args in
    let s = c.args.s.now in
    let loop = c.loop in
    let h = bytes_all s (λ i. omega (arith, c.type_inv.s i)) in
    let copied = c.loop.invariant.1 in
    let read = read_there (read_record (drop loop.at s)) (end fail_node) (first_there node_bytes NodeFields read_record node_spelled nodes_bytes refl (λ n ns. refl) h copied (omega arith)) in
    (omega arith, Copied-next node_bytes NodeFields read_record node_spelled nodes_bytes refl (λ n ns. refl) h copied (omega arith) read (cc (c.in_ok-at.was, c.copy_node.ensures.0)) c.copy_node.ensures.1)

pub returns : goal.returns
returns c =
    let a = c.args in
    let s = c.args.s.now in
    let loop = c.loop in
    let h = bytes_all s (λ i. omega (arith, c.type_inv.s i)) in
    let copied = c.loop.invariant.1 in
    let ends = copied_ends node_bytes NodeFields read_record node_spelled nodes_bytes refl (λ n ns. refl) h copied (omega arith) in
    (ap Ok ends.0, ends.1)
