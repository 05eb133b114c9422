-- `expand::meet_gauges` meets its contract. The loop's invariant: the pairs of the gauges from run `first` on are still to come.
use Prim.Native.Nat.{◌-◌, ◌*◌}
use mathlib.Core.Path.{refl}
use native.Mathlib.Omega.{arith}
use Rattle.keys.proofs.EdgesInTurn.{bytes_most, cases_start, cases_end, part_met, part_many}
use Rattle.keys.proofs.RowsInTurn.{pairs_left, gauges_left, gauges_next, gauges_end}
use Rattle.keys.proofs.expand.meet_gauges.Goals as goal

pub loop-first-init : goal.loop-first-init
loop-first-init c = (c.requires.1, omega arith, c.requires.0, cases_start refl c.args.keys.now)

pub gauge_end-end-requires : goal.gauge_end-end-requires
gauge_end-end-requires c = (c.loop-first-test.true, c.requires.2, c.requires.3)

pub meet_pairs-requires : goal.meet_pairs-requires
meet_pairs-requires c =
    let one = c.gauge_end-end.ensures in
    (c.loop-first.invariant.2, omega (arith, one.some), omega (arith, one.within, c.requires.2))

pub returns-in_err-bytes-clause-cases_met : goal.returns-in_err-bytes-clause-cases_met
returns-in_err-bytes-clause-cases_met c =
    let a = c.args in
    let s = c.args.s.now in
    let runs = c.args.runs.now in
    let count = c.args.framed.count in
    let at = c.loop-first in
    let end = c.gauge_end-end in
    let pairs = c.meet_pairs in
    let many = c.in_err-bytes.was in
    rw c.from_residual.ensures
    (part_many (pairs_left s a.asked runs end.result at.first) (gauges_left s a.asked runs count end.result)
    (gauges_next s a.asked runs count at.first end.result end.ensures) at.invariant.3
    pairs.result pairs.new.keys many pairs.ensures.cases_met)

pub overflow_add-bytes : goal.overflow_add-bytes
overflow_add-bytes c =
    let one = c.gauge_end-end.ensures in
    let at = c.loop-first in
    let few = bytes_most c.in_ok-bytes.was c.meet_pairs.ensures.chained.1 in
    omega (arith, few, at.invariant.0, at.invariant.1, one.some, one.within, c.requires.2)

pub loop-first-smaller : goal.loop-first-smaller
loop-first-smaller c =
    let one = c.gauge_end-end.ensures in
    omega (arith, one.some, one.within)

pub loop-first-preserved : goal.loop-first-preserved
loop-first-preserved c =
    let a = c.args in
    let s = c.args.s.now in
    let runs = c.args.runs.now in
    let count = c.args.framed.count in
    let at = c.loop-first in
    let end = c.gauge_end-end in
    let one = c.gauge_end-end.ensures in
    let pairs = c.meet_pairs in
    let some = c.in_ok-bytes.was in
    let few = bytes_most some pairs.ensures.chained.1 in (
      one.within,
      omega (arith, few, at.invariant.1, one.some),
      pairs.ensures.chained.0,
      part_met (pairs_left s a.asked runs end.result at.first) (gauges_left s a.asked runs count end.result)
          (gauges_next s a.asked runs count at.first end.result one) at.invariant.3
          pairs.result pairs.new.keys some pairs.ensures.cases_met,
    )

pub returns : goal.returns
returns c =
    let a = c.args in
    let at = c.loop-first in record {
      cases_met = cases_end (gauges_end a.s.now a.asked a.runs.now a.framed.count at.first c.loop-first-test.false) at.invariant.3;
      chained = (at.invariant.2, omega (arith, at.invariant.0, at.invariant.1));
    }
