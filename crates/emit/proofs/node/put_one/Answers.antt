-- `node::put_one` meets its contract, for each kind of node.
use Prim.Native.Nat.{◌+◌, ◌≤◌}
use mathlib.Core.Path.{ap, ◌∙◌}
use native.Mathlib.Omega.{arith}
use lib.ListN.{length}
use Rattle.records.specs.Writing.{splice}
use Rattle.tables.specs.views.Planes.{place_tests_in}
use Rattle.edges.specs.declared.Asked.{Asked}
use Rattle.edges.specs.views.VertexKey.{key_in}
use Rattle.met.specs.views.KeysMet.{keys_in}
use Rattle.keys.proofs.NodeKinds.{asked_below}
use Rattle.emit.proofs.AskedBytes.{pair_length, leaf_bytes_lem, ask_bytes_lem}
use Rattle.emit.proofs.node.put_one.Goals as goal

pub put_node-requires : goal.put_node-requires
put_node-requires c =
    let kind-of = c.kind_of-kind in
    let a = c.args in
    let same =
    leaf_bytes_lem a.s.now a.c.now (keys_in a.keys.now) (key_in a.key) kind-of.result
    (kind-of.ensures.by_index a.c.now) c.in-End.leaf c.in-End.is in
    omega (arith, c.requires.room, ap length same)

pub ask-asked-requires : goal.ask-asked-requires
ask-asked-requires c = asked_below c.in-Ask.is c.kind_of-kind.ensures.below

pub put_pair-requires : goal.put_pair-requires
put_pair-requires c =
    let kind-of = c.kind_of-kind in
    let ask = c.ask-asked in
    let place-tests = c.place_tests in
    let if1 = c.if-place_tests-t in
    let a = c.args in
    let known = kind-of.ensures.by_index a.c.now in
    let same =
    ask_bytes_lem a.s.now a.c.now (keys_in a.keys.now) (key_in a.key) kind-of.result known c.in-Ask.is
    ask.ensures in
    let test = ap (λ (x : Asked). x.test) ask.ensures in
    let below = asked_below c.in-Ask.is kind-of.ensures.below in
    let past : place_tests_in a.s.now ≤ ask.result.test = omega (arith, test, place-tests.ensures, if1.true) in
    let size = pair_length a.s.now (keys_in a.keys.now) ask.result a.c.now past in
    (c.requires.chained.0, past, omega (arith, test, below), omega (arith, c.requires.room, ap length same, size))

pub returns-then-place_tests-t : goal.returns-then-place_tests-t
returns-then-place_tests-t c =
    let kind-of = c.kind_of-kind in
    let ask = c.ask-asked in
    let put-pair = c.put_pair in
    let a = c.args in
    let known = kind-of.ensures.by_index a.c.now in
    let same =
    ask_bytes_lem a.s.now a.c.now (keys_in a.keys.now) (key_in a.key) kind-of.result known c.in-Ask.is
    ask.ensures in
    let put = put-pair.ensures a.c.now in record {
      wrote = (put.0 ∙ ap (λ l. a.at + length l) same, put.1 ∙ ap (splice a.buf.now a.at) same);
      runs_len = c.requires.chained.2;
    }

pub put_switch-requires : goal.put_switch-requires
put_switch-requires c =
    let kind-of = c.kind_of-kind in
    let ask = c.ask-asked in
    let place-tests = c.place_tests in
    let if1 = c.if-place_tests-t in
    let a = c.args in
    let known = kind-of.ensures.by_index a.c.now in
    let same =
    ask_bytes_lem a.s.now a.c.now (keys_in a.keys.now) (key_in a.key) kind-of.result known c.in-Ask.is
    ask.ensures in
    let test = ap (λ (x : Asked). x.test) ask.ensures in record {
      chained = (
        c.requires.chained.0,
        c.requires.chained.1,
        omega (arith, test, place-tests.ensures, if1.false),
        c.requires.chained.2,
      );
      room = omega (arith, c.requires.room, ap length same);
    }

pub returns-in-End : goal.returns-in-End
returns-in-End c =
    let put-node = c.put_node in
    let kind-of = c.kind_of-kind in
    let a = c.args in
    let put = c.put_node.ensures in
    let same =
    leaf_bytes_lem a.s.now a.c.now (keys_in a.keys.now) (key_in a.key) kind-of.result
    (kind-of.ensures.by_index a.c.now) c.in-End.leaf c.in-End.is in record {
      wrote = (put.0 ∙ ap (λ l. a.at + length l) same, put.1 ∙ ap (splice a.buf.now a.at) same);
      runs_len = c.requires.chained.2;
    }

pub returns-else-place_tests-t : goal.returns-else-place_tests-t
returns-else-place_tests-t c =
    let kind-of = c.kind_of-kind in
    let ask = c.ask-asked in
    let put-switch = c.put_switch in
    let a = c.args in
    let known = kind-of.ensures.by_index a.c.now in
    let same =
    ask_bytes_lem a.s.now a.c.now (keys_in a.keys.now) (key_in a.key) kind-of.result known c.in-Ask.is
    ask.ensures in
    let put = c.put_switch.ensures in record {
      wrote = (put.wrote.0 ∙ ap (λ l. a.at + length l) same, put.wrote.1 ∙ ap (splice a.buf.now a.at) same);
      runs_len = put.runs_len;
    }
