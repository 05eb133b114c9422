-- `grow::grow` meets its contract. The loop's invariant: what is left to look at from the keys met gives all.
use Prim.Native.Nat.{◌*◌, ◌<◌}
use mathlib.Core.Path.{refl}
use native.Mathlib.Omega.{arith}
use Rattle.edges.specs.views.VertexKey.{key_in}
use Rattle.met.specs.views.KeysMet.{count_in}
use Rattle.met.proofs.Chains.{zeros_chained}
use Rattle.met.proofs.Meeting.{new_number_lem}
use Rattle.keys.proofs.EdgesInTurn.{bytes_most}
use Rattle.keys.proofs.GrowingKeys.{root_added, growing_start, grown_all, grown_turn, grown_many}
use Rattle.keys.proofs.grow.grow.Goals as goal

pub add-requires : goal.add-requires
add-requires c =
    let root = c.root-first in
    let none = zeros_chained 4097 refl c.requires.0 in (
      none.0,
      omega (arith, none.1),
      new_number_lem c.args.keys.now (key_in root.result) refl (omega (arith, none.1)),
    )

pub loop-k-init : goal.loop-k-init
loop-k-init c =
    let add = c.add in
    let root = c.root-first in
    let none = zeros_chained 4097 refl c.requires.0 in (
      add.ensures.1,
      c.requires.2,
      omega arith,
      omega arith,
      growing_start c.args.s.now c.args.c.now
          (root_added c.args.s.now c.args.c.now c.args.keys.now add.new.t none.1
          root.ensures add.ensures.0),
    )

pub expand-requires : goal.expand-requires
expand-requires c =
    let at = c.loop-k in
    let count = c.count in
    let if1 = c.loop-k-test in
    (at.invariant.0, omega (arith, count.ensures, if1.true), c.requires.1, at.invariant.1)

pub returns-in_err-bytes-clause-grown : goal.returns-in_err-bytes-clause-grown
returns-in_err-bytes-clause-grown c =
    let at = c.loop-k in
    let behind = c.expand in
    let count = c.count in
    let if1 = c.loop-k-test in
    let a = c.args in
    let below : at.k < count_in at.keys = omega (arith, count.ensures, if1.true) in
    rw c.from_residual.ensures
    (grown_many a.s.now a.c.now at.keys at.invariant.4 below at.invariant.0.few behind.result behind.new.keys
    behind.ensures.edges_met c.in_err-bytes.was)

pub overflow_add-bytes : goal.overflow_add-bytes
overflow_add-bytes c =
    let at = c.loop-k in
    let expand = c.expand in
    let count = c.count in
    let if1 = c.loop-k-test in
    let few = bytes_most c.in_ok-bytes.was expand.ensures.chained.1 in
    omega (arith, few, at.invariant.3, at.invariant.0.few, count.ensures, if1.true)

pub overflow_add-k : goal.overflow_add-k
overflow_add-k c =
    let at = c.loop-k in
    let count = c.count in
    let if1 = c.loop-k-test in
    omega (arith, at.invariant.0.few, count.ensures, if1.true)

pub loop-k-smaller : goal.loop-k-smaller
loop-k-smaller c =
    let at = c.loop-k in
    let count = c.count in
    let if1 = c.loop-k-test in
    omega (arith, at.invariant.0.few, count.ensures, if1.true)

pub loop-k-preserved : goal.loop-k-preserved
loop-k-preserved c =
    let at = c.loop-k in
    let behind = c.expand in
    let count = c.count in
    let if1 = c.loop-k-test in
    let a = c.args in
    let few = bytes_most c.in_ok-bytes.was behind.ensures.chained.1 in
    let below : at.k < count_in at.keys = omega (arith, count.ensures, if1.true) in
    let turn =
    grown_turn a.s.now a.c.now at.keys at.invariant.4 below at.invariant.0.few behind.result behind.new.keys
    behind.ensures.edges_met c.in_ok-bytes.was in (
      behind.ensures.chained.0,
      behind.ensures.chained.2,
      omega (arith, below, turn.1),
      omega (arith, few, at.invariant.3),
      turn.0,
    )

pub returns : goal.returns
returns c =
    let at = c.loop-k in
    let count = c.count in
    let if1 = c.loop-k-test in
    let a = c.args in record {
      grown = grown_all a.s.now a.c.now at.keys at.invariant.4 (omega (arith, count.ensures, if1.false));
      chained = (at.invariant.0, omega (arith, at.invariant.2, at.invariant.3, at.invariant.0.few), at.invariant.1);
    }
