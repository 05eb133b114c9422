-- `node_writing::put_numbers` meets its contract: the record is its fields' bytes.
use Prim.Native.Nat.{◌<◌}
use mathlib.Core.Path.{ap, sym, ◌∙◌}
use borrow.Author.Rules.{rules}
use Rattle.records.specs.Writing.{splice}
use Rattle.graph.proofs.GaugedCases.{gauged_bytes}
use Rattle.node_writing.proofs.put_numbers.Goals as goal

pub returns : goal.returns
returns c =
    let a = c.args in
    let low : a.low < 65536 = search rules in
    let high : a.high < 65536 = search rules in
    let put =
    simp (
      c.high.ensures,
      c.low.ensures,
      c.high-2.ensures,
      c.low-2.ensures,
      c.high-3.ensures,
      c.low-3.ensures,
    ) at c.put.ensures in
    (put.0, put.1 ∙ ap (splice a.buf.now a.at) (sym (gauged_bytes a.gauge a.low a.high a.node low high)))
