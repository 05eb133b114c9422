-- `node::put_gauges` meets its contract. The loop's invariant: the pairs of the gauges from run `first` on are left to be written.
use mathlib.Core.Path.{refl, ap, ◌∙◌}
use native.Mathlib.Omega.{arith}
use Rattle.cuts.specs.views.CaseRuns.{union_pairs, gauge_pairs, runs_from}
use Rattle.cuts.proofs.CaseRuns.{gauges_none}
use Rattle.met.specs.views.KeysMet.{keys_in}
use Rattle.emit.specs.views.Laid.{run_bytes}
use Rattle.emit.proofs.WritingOn.{left_start, left_room, left_next, left_end}
use Rattle.emit.proofs.InTurn.{gauges_bytes}
use Rattle.emit.proofs.node.put_gauges.Goals as goal

pub loop-first-init : goal.loop-first-init
loop-first-init c =
    let a = c.args in
    let runs = c.args.runs.now in
    let pairs = gauge_pairs (runs_from runs a.framed.count a.framed.names) in
    let whole = run_bytes a.s.now (keys_in a.keys.now) a.asked pairs in
    (refl, c.requires.1, left_start a.buf.now a.start whole whole refl)

pub gauge_end-end-requires : goal.gauge_end-end-requires
gauge_end-end-requires c = (c.loop-first-test.true, c.requires.2, c.requires.3)

pub put_pairs-at-requires : goal.put_pairs-at-requires
put_pairs-at-requires c =
    let a = c.args in
    let s = c.args.s.now in
    let keys = keys_in a.keys.now in
    let runs = c.args.runs.now in
    let count = c.args.framed.count in
    let at = c.loop-first in
    let end = c.gauge_end-end in
    let one = c.gauge_end-end.ensures in (
      c.requires.0,
      omega (arith, one.some),
      omega (arith, one.within, c.requires.2),
      left_room c.requires.4 at.invariant.2 (run_bytes s keys a.asked (union_pairs (runs_from runs end.result at.first)))
          (run_bytes s keys a.asked (gauge_pairs (runs_from runs count end.result)))
          (gauges_bytes s keys a.asked runs count at.first end.result one),
    )

pub loop-first-smaller : goal.loop-first-smaller
loop-first-smaller c =
    let one = c.gauge_end-end.ensures in
    omega (arith, one.some, one.within)

pub loop-first-preserved : goal.loop-first-preserved
loop-first-preserved c =
    let a = c.args in
    let s = c.args.s.now in
    let keys = keys_in a.keys.now in
    let runs = c.args.runs.now in
    let count = c.args.framed.count in
    let at = c.loop-first in
    let end = c.gauge_end-end in (
      omega arith,
      end.ensures.within,
      left_next c.requires.4 at.invariant.2 (run_bytes s keys a.asked (union_pairs (runs_from runs end.result at.first)))
          (run_bytes s keys a.asked (gauge_pairs (runs_from runs count end.result)))
          (gauges_bytes s keys a.asked runs count at.first end.result end.ensures)
          c.put_pairs-at.ensures,
    )

pub returns : goal.returns
returns c =
    let a = c.args in
    let at = c.loop-first in
    left_end c.requires.4 at.invariant.2
    (ap (run_bytes a.s.now (keys_in a.keys.now) a.asked)
    (gauges_none a.runs.now a.framed.count at.first c.loop-first-test.false))
