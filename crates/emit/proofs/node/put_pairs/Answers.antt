-- `node::put_pairs` meets its contract. The loop's invariant: the pairs of the first runs from `first` on are left to be written.
use Prim.Native.Nat.{◌+◌}
use mathlib.Core.Path.{refl, ap, ◌∙◌}
use native.Mathlib.Omega.{arith}
use Rattle.cuts.specs.views.CaseRuns.{union_pairs, runs_from, pairs_row}
use Rattle.cuts.proofs.CaseRuns.{pairs_none}
use Rattle.met.specs.views.KeysMet.{keys_in}
use Rattle.emit.specs.views.Laid.{run_bytes}
use Rattle.emit.proofs.WritingOn.{left_start, left_room, left_next, left_end}
use Rattle.emit.proofs.InTurn.{pairs_bytes}
use Rattle.emit.proofs.node.put_pairs.Goals as goal

pub loop-first-init : goal.loop-first-init
loop-first-init c =
    let a = c.args in
    let s = c.args.s.now in
    let keys = keys_in a.keys.now in
    let runs = c.args.runs.now in
    let count = c.args.all.count in
    let whole = run_bytes s keys a.asked (union_pairs (runs_from runs count a.all.first)) in
    (refl, left_start a.buf.now a.start whole whole refl)

pub put_row-at-requires : goal.put_row-at-requires
put_row-at-requires c =
    let a = c.args in
    let s = c.args.s.now in
    let keys = keys_in a.keys.now in
    let runs = c.args.runs.now in
    let count = c.args.all.count in
    let at = c.loop-first in
    let test = c.loop-first-test.true in (
      c.requires.0,
      test,
      c.requires.2,
      left_room c.requires.3 at.invariant.1 (run_bytes s keys a.asked (pairs_row runs count at.first))
          (run_bytes s keys a.asked (union_pairs (runs_from runs count (at.first + 1))))
          (pairs_bytes s keys a.asked runs count at.first test),
    )

pub loop-first-preserved : goal.loop-first-preserved
loop-first-preserved c =
    let a = c.args in
    let s = c.args.s.now in
    let keys = keys_in a.keys.now in
    let runs = c.args.runs.now in
    let count = c.args.all.count in
    let at = c.loop-first in
    let test = c.loop-first-test.true in (
      omega arith,
      left_next c.requires.3 at.invariant.1 (run_bytes s keys a.asked (pairs_row runs count at.first))
          (run_bytes s keys a.asked (union_pairs (runs_from runs count (at.first + 1))))
          (pairs_bytes s keys a.asked runs count at.first test) c.put_row-at.ensures,
    )

pub returns : goal.returns
returns c =
    let a = c.args in
    let s = c.args.s.now in
    let keys = keys_in a.keys.now in
    let runs = c.args.runs.now in
    let count = c.args.all.count in
    let at = c.loop-first in
    left_end c.requires.3 at.invariant.1
    (ap (run_bytes s keys a.asked) (pairs_none runs count at.first c.loop-first-test.false))
