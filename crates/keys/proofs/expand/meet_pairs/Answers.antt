-- `expand::meet_pairs` meets its contract. The loop's invariant: the pairs of the first runs from `first` on are still to come.
use Prim.Native.Nat.{◌+◌, ◌-◌, ◌*◌}
use mathlib.Core.Path.{refl}
use native.Mathlib.Omega.{arith}
use Rattle.keys.proofs.EdgesInTurn.{bytes_most, cases_start, cases_end, part_met, part_many}
use Rattle.keys.proofs.RowsInTurn.{row_edges, pairs_left, pairs_next, pairs_end}
use Rattle.keys.proofs.expand.meet_pairs.Goals as goal

pub loop-first-init : goal.loop-first-init
loop-first-init c =
    let a = c.args in
    let s = c.args.s.now in
    let runs = c.args.runs.now in
    let count = c.args.all.count in (
      omega arith,
      c.requires.0,
      cases_start refl a.keys.now,
    )

pub meet_row-requires : goal.meet_row-requires
meet_row-requires c = (c.loop-first.invariant.1, c.loop-first-test.true, c.requires.2)

pub returns-in_err-bytes-clause-cases_met : goal.returns-in_err-bytes-clause-cases_met
returns-in_err-bytes-clause-cases_met c =
    let a = c.args in
    let s = c.args.s.now in
    let runs = c.args.runs.now in
    let count = c.args.all.count in
    let at = c.loop-first in
    let test = c.loop-first-test.true in
    let row = c.meet_row in
    let many = c.in_err-bytes.was in
    rw c.from_residual.ensures
    (part_many (row_edges s a.asked runs count at.first) (pairs_left s a.asked runs count (at.first + 1))
    (pairs_next s a.asked runs count at.first test) at.invariant.2
    row.result row.new.keys many row.ensures.cases_met)

pub overflow_add-bytes : goal.overflow_add-bytes
overflow_add-bytes c =
    let at = c.loop-first in
    let few = bytes_most c.in_ok-bytes.was c.meet_row.ensures.chained.1 in
    omega (arith, few, at.invariant.0, c.requires.2)

pub loop-first-preserved : goal.loop-first-preserved
loop-first-preserved c =
    let a = c.args in
    let s = c.args.s.now in
    let runs = c.args.runs.now in
    let count = c.args.all.count in
    let at = c.loop-first in
    let test = c.loop-first-test.true in
    let row = c.meet_row in
    let some = c.in_ok-bytes.was in
    let few = bytes_most some row.ensures.chained.1 in (
      omega (arith, few, at.invariant.0),
      row.ensures.chained.0,
      part_met (row_edges s a.asked runs count at.first) (pairs_left s a.asked runs count (at.first + 1))
          (pairs_next s a.asked runs count at.first test) at.invariant.2
          row.result row.new.keys some row.ensures.cases_met,
    )

pub returns : goal.returns
returns c =
    let a = c.args in
    let s = c.args.s.now in
    let runs = c.args.runs.now in
    let count = c.args.all.count in
    let at = c.loop-first in record {
      cases_met = cases_end (pairs_end s a.asked runs count at.first c.loop-first-test.false) at.invariant.2;
      chained = (at.invariant.1, omega (arith, at.invariant.0));
    }
