-- All keys are met, then questions 18 and 19, and then the graph is written.
use native.Mathlib.Omega.{arith}
use Rattle.tables.specs.views.Planes.{rules_in}
use Rattle.build.proofs.GrownBytes.{grown_none, grown_some, grown_most, graph_size, built_many, built_short, built_whole}
use Rattle.build.proofs.graph_of.build_tables.Goals as goal

pub returns-in_default : goal.returns-in_default
returns-in_default c =
    let a = c.args in
    let grow = c.grow in
    built_many a.arity (rules_in a.s.now) a.s.now a.c.now a.buf.now
    (grown_none a.s.now a.c.now grow.new.keys _ grow.ensures.grown c.in_default.is)

pub overflow_add-bytes : goal.overflow_add-bytes
overflow_add-bytes c = omega (arith, grown_most _ _ c.grow.ensures.chained.1 c.in-Some.is)

pub returns-then-buf-bytes : goal.returns-then-buf-bytes
returns-then-buf-bytes c =
    let a = c.args in
    let grow = c.grow in
    let t = c.grow.new.keys in
    let met = c.in-Some.is in
    let some = grown_some a.s.now a.c.now t _ grow.ensures.grown met in
    built_short a.arity (rules_in a.s.now) a.s.now a.c.now a.buf.now t _ some.0 some.1 c.if-buf-bytes.true

pub put_graph-end-requires : goal.put_graph-end-requires
put_graph-end-requires c =
    let a = c.args in
    let grow = c.grow in
    let t = c.grow.new.keys in
    let met = c.in-Some.is in
    let some = grown_some a.s.now a.c.now t _ grow.ensures.grown met in
    let size =
    graph_size a.arity (rules_in a.s.now) a.s.now a.c.now a.buf.now t _ some.0 some.1 in record {
      chained = (grow.ensures.chained.0, c.requires, grow.ensures.chained.2);
      room = omega (arith, size, c.if-buf-bytes.false);
    }

pub overflow_cast-result-2 : goal.overflow_cast-result-2
overflow_cast-result-2 c =
    let a = c.args in
    let grow = c.grow in
    let t = c.grow.new.keys in
    let met = c.in-Some.is in
    let some = grown_some a.s.now a.c.now t _ grow.ensures.grown met in
    let most = grown_most _ _ grow.ensures.chained.1 met in
    let size =
    graph_size a.arity (rules_in a.s.now) a.s.now a.c.now a.buf.now t _ some.0 some.1 in
    omega (arith, size, c.put_graph-end.ensures.0)

pub returns : goal.returns
returns c =
    let a = c.args in
    let grow = c.grow in
    let t = c.grow.new.keys in
    let met = c.in-Some.is in
    let some = grown_some a.s.now a.c.now t _ grow.ensures.grown met in
    let fits = c.if-buf-bytes.false in
    built_whole a.arity (rules_in a.s.now) a.s.now a.c.now a.buf.now t _ some.0 some.1
    _ _ _ fits c.count.ensures c.put_graph-end.ensures
