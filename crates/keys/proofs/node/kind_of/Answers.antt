-- `node::kind_of` meets its contract.
use Prim.Native.Nat.{◌<◌, ◌^◌}
use mathlib.Core.Path.{sym}
use native.Mathlib.Omega.{arith}
use lib.Count.{trailing_le}
use borrow.Author.Rules.{rules}
use Rattle.edges.specs.views.VertexKey.{key_in}
use Rattle.keys.proofs.NodeKinds.{kind_fail, kind_suspend, kind_execute, kind_settled, kind_asks}
use Rattle.keys.proofs.node.kind_of.Goals as goal

pub returns-then-key-eq0-2 : goal.returns-then-key-eq0-2
returns-then-key-eq0-2 c =
    let a = c.args in record {
      by_index = λ cuts. kind_fail a.s.now cuts (key_in a.key) c.if-key-eq0.true c.if-key-eq0-2.true;
      below = tt;
    }

pub returns-then-key-eq0 : goal.returns-then-key-eq0
returns-then-key-eq0 c =
    let a = c.args in record {
      by_index = λ cuts. kind_suspend a.s.now cuts (key_in a.key) c.if-key-eq0.true c.if-key-eq0-2.false;
      below = tt;
    }

pub overflow_cast-result : goal.overflow_cast-result
overflow_cast-result c = omega (arith, trailing_le 64 c.args.key.live)

pub overflow_add-result : goal.overflow_add-result
overflow_add-result c = omega (arith, trailing_le 64 c.args.key.live)

pub returns-then-key-eq1 : goal.returns-then-key-eq1
returns-then-key-eq1 c =
    let a = c.args in
    let small : a.key.live < 2 ^ 64 = search rules in record {
      by_index = λ cuts. kind_execute a.s.now cuts (key_in a.key) small c.if-key-eq1.true;
      below = tt;
    }

pub returns-then-key-eq0-3 : goal.returns-then-key-eq0-3
returns-then-key-eq0-3 c =
    let a = c.args in
    let small : a.key.live < 2 ^ 64 = search rules in record {
      by_index = λ cuts.
          kind_settled a.s.now cuts (key_in a.key) small c.if-key-eq0.false
          c.if-key-eq1.false c.if-key-eq0-3.true;
      below = tt;
    }

pub returns : goal.returns
returns c =
    let a = c.args in
    let small : a.key.live < 2 ^ 64 = search rules in record {
      by_index = λ cuts.
          kind_asks a.s.now cuts (key_in a.key) small c.if-key-eq0.false
          c.if-key-eq1.false c.if-key-eq0-3.false (sym c.first_asked.ensures.0);
      below = c.first_asked.ensures.1;
    }
