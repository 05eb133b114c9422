-- `row::put_graph` meets its contract: the header, and the nodes behind it.
use Rattle.tables.specs.views.Planes.{rules_in}
use Rattle.met.specs.views.KeysMet.{keys_in}
use Rattle.emit.specs.views.Laid.{keys_bytes}
use Rattle.graph.specs.views.WriteNode.{header_bytes}
use Rattle.emit.proofs.WritingOn.{both_wrote}
use Rattle.emit.proofs.GraphWritten.{graph_joined}
use Rattle.emit.proofs.row.put_graph.Goals as goal

pub returns : goal.returns
returns c =
    let rules = c.rules in
    let count = c.count in
    let put-header = c.put_header-at in
    let put-nodes = c.put_nodes in
    let a = c.args in
    let s = c.args.s.now in
    let cuts = c.args.c.now in
    let keys = c.args.keys.now in
    both_wrote a.buf.now 0 (header_bytes a.arity rules.result count.result) (keys_bytes s cuts (keys_in keys))
    (graph_joined s cuts keys a.arity (rules_in s) rules.ensures count.ensures) c.requires.room put-header.ensures
    put-nodes.ensures
