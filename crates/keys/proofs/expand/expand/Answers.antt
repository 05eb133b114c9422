-- `expand::expand` meets its contract, for each kind of node.
use mathlib.Core.Path.{sym, ap, subst}
use native.Mathlib.Omega.{arith}
use Rattle.decision.specs.Key.{Key}
use Rattle.decision.specs.Node.{Node}
use Rattle.edges.specs.declared.Asked.{Asked}
use Rattle.met.specs.views.KeysMet.{keys_in}
use Rattle.keys.specs.views.Expanded.{EdgesMet}
use Rattle.keys.proofs.NodeKinds.{asked_below, leaf_met, node_asks}
use Rattle.keys.proofs.expand.expand.Goals as goal

pub key_at-key-requires : goal.key_at-key-requires
key_at-key-requires c = omega (arith, c.requires.1, c.requires.0.few)

pub ask-asked-requires : goal.ask-asked-requires
ask-asked-requires c = asked_below c.in-Ask.is c.kind_of-kind.ensures.below

pub expand_pair-requires : goal.expand_pair-requires
expand_pair-requires c =
    let ask = c.ask-asked in
    let place-tests = c.place_tests in
    let if1 = c.if-place_tests-t in
    let test = ap (λ (x : Asked). x.test) ask.ensures in
    (c.requires.0, omega (arith, test, place-tests.ensures, if1.true))

pub returns-then-place_tests-t : goal.returns-then-place_tests-t
returns-then-place_tests-t c =
    let met = c.expand_pair in
    let kind-of = c.kind_of-kind in
    let key_at_lem = c.key_at-key in
    let ask = c.ask-asked in
    let a = c.args in
    let node =
    node_asks a.s.now a.c.now kind-of.result key_at_lem.ensures (kind-of.ensures.by_index a.c.now)
    c.in-Ask.is ask.ensures in record {
      edges_met = subst (λ (n : Node Key). EdgesMet n (keys_in a.keys.now) met.result met.new.keys) (sym node)
          (met.ensures.by_index a.c.now);
      chained = (met.ensures.chained.0, met.ensures.chained.1, c.requires.3);
    }

pub expand_switch-requires : goal.expand_switch-requires
expand_switch-requires c =
    let ask = c.ask-asked in
    let place-tests = c.place_tests in
    let if1 = c.if-place_tests-t in
    let test = ap (λ (x : Asked). x.test) ask.ensures in
    (c.requires.0, c.requires.2, omega (arith, test, place-tests.ensures, if1.false), c.requires.3)

pub returns-in-End : goal.returns-in-End
returns-in-End c =
    let leaf-length = c.leaf_length in
    let kind-of = c.kind_of-kind in
    let key_at_lem = c.key_at-key in
    let a = c.args in
    let size = c.leaf_length.ensures in record {
      edges_met = leaf_met a.s.now a.c.now kind-of.result key_at_lem.ensures (kind-of.ensures.by_index a.c.now)
          a.keys.now c.in-End.is size.0;
      chained = (c.requires.0, omega (arith, size.1), c.requires.3);
    }

pub returns-else-place_tests-t : goal.returns-else-place_tests-t
returns-else-place_tests-t c =
    let met = c.expand_switch in
    let kind-of = c.kind_of-kind in
    let key_at_lem = c.key_at-key in
    let ask = c.ask-asked in
    let a = c.args in
    let node =
    node_asks a.s.now a.c.now kind-of.result key_at_lem.ensures (kind-of.ensures.by_index a.c.now)
    c.in-Ask.is ask.ensures in record {
      edges_met = subst (λ (n : Node Key). EdgesMet n (keys_in a.keys.now) met.result met.new.keys) (sym node) met.ensures.edges_met;
      chained = met.ensures.chained;
    }
