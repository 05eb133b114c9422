-- `node::put_pair` meets its contract.
use Prim.Native.Nat.{◌+◌}
use mathlib.Core.Path.{ap, ◌∙◌}
use lib.ListN.{length}
use Rattle.records.specs.Writing.{splice}
use Rattle.met.specs.views.KeysMet.{keys_in}
use Rattle.emit.proofs.AskedBytes.{pair_bytes}
use Rattle.emit.proofs.node.put_pair.Goals as goal

pub returns : goal.returns
returns c =
    let put = c.put_node in
    let test = c.test-code in
    let node_of_lem = c.node_of-differ in
    let by_none_lem = c.by_none in
    let node-of2 = c.node_of-other in
    let by_other_lem = c.by_other in
    let a = c.args in
    λ cuts.
    let same =
    pair_bytes a.s.now (keys_in a.keys.now) a.asked cuts c.requires.1 test.ensures node_of_lem.ensures
    by_none_lem.ensures node-of2.ensures by_other_lem.ensures in
    (put.ensures.0 ∙ ap (λ l. a.at + length l) same, put.ensures.1 ∙ ap (splice a.buf.now a.at) same)
