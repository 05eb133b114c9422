-- `row::put_nodes` meets its contract. The loop's invariant: the nodes of the keys from a number on are left to be written.
use Prim.Native.Nat.{◌+◌}
use mathlib.Core.Path.{refl, ◌∙◌}
use native.Mathlib.Omega.{arith}
use Rattle.edges.specs.views.VertexKey.{key_in}
use Rattle.met.specs.views.KeysMet.{keys_in}
use Rattle.emit.specs.views.Laid.{key_bytes, keys_bytes}
use Rattle.emit.proofs.WritingOn.{left_start, left_room, left_next, left_end}
use Rattle.emit.proofs.InTurn.{keys_left, keys_first, keys_next, keys_last}
use Rattle.emit.proofs.row.put_nodes.Goals as goal

pub loop-i-init : goal.loop-i-init
loop-i-init c =
    let a = c.args in
    let s = c.args.s.now in
    let cuts = c.args.c.now in
    let keys = c.args.keys.now in (
      refl,
      c.requires.chained.2,
      left_start a.buf.now a.start (keys_bytes s cuts (keys_in keys)) (keys_left s cuts keys 0) (keys_first s cuts keys),
    )

pub key_at-requires : goal.key_at-requires
key_at-requires c =
    let count = c.count-i-end in
    let if1 = c.loop-i-test in
    omega (arith, count.ensures, if1.true, c.requires.chained.0.few)

pub put_one-at-requires : goal.put_one-at-requires
put_one-at-requires c =
    let at = c.loop-i in
    let key = c.key_at in
    let count = c.count-i-end in
    let if1 = c.loop-i-test in
    let a = c.args in
    let s = c.args.s.now in
    let cuts = c.args.c.now in
    let keys = c.args.keys.now in
    let next = keys_next s cuts keys at.i key.ensures (omega (arith, count.ensures, if1.true)) in record {
      chained = (c.requires.chained.0, c.requires.chained.1, at.invariant.1);
      room = left_room c.requires.room at.invariant.2 (key_bytes s cuts (keys_in keys) (key_in key.result))
          (keys_left s cuts keys (at.i + 1)) next;
    }

pub loop-i-preserved : goal.loop-i-preserved
loop-i-preserved c =
    let at = c.loop-i in
    let key = c.key_at in
    let count = c.count-i-end in
    let if1 = c.loop-i-test in
    let a = c.args in
    let put = c.put_one-at.ensures in
    let s = c.args.s.now in
    let cuts = c.args.c.now in
    let keys = c.args.keys.now in
    let next = keys_next s cuts keys at.i key.ensures (omega (arith, count.ensures, if1.true)) in (
      omega arith,
      put.runs_len,
      left_next c.requires.room at.invariant.2 (key_bytes s cuts (keys_in keys) (key_in key.result))
          (keys_left s cuts keys (at.i + 1)) next put.wrote,
    )

pub returns : goal.returns
returns c =
    let at = c.loop-i in
    let count = c.count-i-end in
    let if1 = c.loop-i-test in
    let a = c.args in
    left_end c.requires.room at.invariant.2
    (keys_last a.s.now a.c.now a.keys.now at.i (omega (arith, count.ensures, if1.false)))
