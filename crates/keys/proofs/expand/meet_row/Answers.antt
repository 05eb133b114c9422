-- `expand::meet_row` meets its contract. The loop's invariant: the pairs from last run k on are still to come, and the key behind
-- the union so far is met.
use Prim.Native.Nat.{ℕ}
use mathlib.Core.Path.{sym, ap, ◌∙◌}
use native.Mathlib.Omega.{arith}
use lib.Bits.{bit_or}
use Rattle.cuts.specs.views.Runs.{run_at}
use Rattle.edges.specs.views.KeysBehind.{run_behind}
use Rattle.met.specs.views.KeysMet.{meet, keys_in}
use Rattle.std.specs.Prelude.{Some, None}
use Rattle.keys.proofs.RowsInTurn.{met_last, row_many, row_start, row_met, row_next, next_many, row_end}
use Rattle.keys.proofs.expand.meet_row.Goals as goal
use Rattle.keys.proofs.expand.meet_row.Goals.{then-more-set+else-meet-ge1024-2, else-more-set}

pub meet-requires : goal.meet-requires
meet-requires c = c.requires.0

pub returns-then-meet-ge1024 : goal.returns-then-meet-ge1024
returns-then-meet-ge1024 c =
    let a = c.args in
    let s = c.args.s.now in
    let runs = c.args.runs.now in
    let count = c.args.row.count in
    let first = c.args.row.first in
    let behind = c.by_run.ensures in
    let met = c.meet in record {
      cases_met = row_many s a.asked runs count first c.requires.1 a.keys.now met.new.t behind
          (met.ensures.t_after.1 c.if-meet-ge1024.true);
      chained = (met.ensures.chained, tt);
    }

pub loop-k-init : goal.loop-k-init
loop-k-init c =
    let a = c.args in
    let s = c.args.s.now in
    let runs = c.args.runs.now in
    let count = c.args.row.count in
    let first = c.args.row.first in
    let behind = c.by_run.ensures in
    let met = c.meet in
    let same = met.ensures.t_after.0 c.if-meet-ge1024.false ∙ ap (meet (keys_in a.keys.now)) behind in (
      omega arith,
      met.ensures.chained,
      met_last (keys_in a.keys.now) (run_behind s a.asked (run_at runs first).set) met.new.t same,
      row_start s a.asked runs count first c.requires.1 met.new.t,
    )

pub meet-requires-then-more-set : goal.meet-requires-then-more-set
meet-requires-then-more-set c = c.loop-k.invariant.1

pub returns-then-meet-ge1024-2 : goal.returns-then-meet-ge1024-2
returns-then-meet-ge1024-2 c =
    let a = c.args in
    let s = c.args.s.now in
    let runs = c.args.runs.now in
    let count = c.args.row.count in
    let first = c.args.row.first in
    let behind = c.by_run.ensures in
    let met = c.meet in
    let one = met.ensures.t_after.0 c.if-meet-ge1024.false in
    let at = c.loop-k in
    let test = c.loop-k-test.true in
    let behind2 = c.by_run-then-more-set.ensures in
    let next = c.meet-then-more-set in record {
      cases_met = row_met s a.asked runs count first c.requires.1 a.keys.now met.new.t behind one None
          next.new.t
          (next_many s a.asked runs count first at.set at.k at.invariant.3 next.new.t test behind2
          (next.ensures.t_after.1 c.if-meet-ge1024-2.true));
      chained = (next.ensures.chained, tt);
    }

pub overflow_add-bytes : goal.overflow_add-bytes
overflow_add-bytes c =
    let size = c.case_length-size.ensures in
    let at = c.loop-k in
    let test = c.loop-k-test.true in
    omega (arith, at.invariant.0, test, size.1, c.requires.2)

pub loop-k-preserved : goal.loop-k-preserved
loop-k-preserved c =
    let a = c.args in
    let s = c.args.s.now in
    let runs = c.args.runs.now in
    let count = c.args.row.count in
    let first = c.args.row.first in
    let at = c.loop-k in
    let test = c.loop-k-test.true in
    let size = c.case_length-size.ensures in
    let more = bit_or at.set (run_at runs at.k).set in
    elim c.if-more-set.branch [
      | then-more-set+else-meet-ge1024-2 w ↦
          let same = w.meet-then-more-set.ensures.t_after.0 w.if-meet-ge1024-2.false ∙ ap (meet (keys_in at.keys)) w.by_run-then-more-set.ensures in
          rw w.keys-is (
            omega (arith, at.invariant.0, size.1),
            w.meet-then-more-set.ensures.chained,
            met_last (keys_in at.keys) (run_behind s a.asked more) w.meet-then-more-set.new.t same,
            row_next s a.asked runs count first at.set at.k at.invariant.3 test same (size.0 _),
          )
      | else-more-set w ↦
          let same =
          at.invariant.2 ∙ ap (λ (set : ℕ). meet (keys_in at.keys) (run_behind s a.asked set)) (sym w.if-more-set.false) in
          rw w.keys-is (
            omega (arith, at.invariant.0, size.1),
            at.invariant.1,
            same,
            row_next s a.asked runs count first at.set at.k at.invariant.3 test same (size.0 _),
          )
    ]

pub returns : goal.returns
returns c =
    let a = c.args in
    let s = c.args.s.now in
    let runs = c.args.runs.now in
    let count = c.args.row.count in
    let first = c.args.row.first in
    let behind = c.by_run.ensures in
    let met = c.meet in
    let one = met.ensures.t_after.0 c.if-meet-ge1024.false in
    let at = c.loop-k in record {
      cases_met = row_met s a.asked runs count first c.requires.1 a.keys.now met.new.t behind one
          (Some at.bytes) at.keys
          (row_end s a.asked runs count first at.set at.k at.invariant.3 c.loop-k-test.false);
      chained = (at.invariant.1, omega (arith, at.invariant.0, at.auto.k-end (omega (arith, c.requires.1)), c.requires.2));
    }
