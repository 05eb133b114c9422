-- A loop over the rules: what is measured, with those left, is the whole.
use mathlib.Core.Path.{◌≡◌, refl, ap}
use Prim.Native.Nat.{◌+◌}
use lib.ListN.{length, drop}
use native.Mathlib.Omega.{arith}
use Rattle.tidy_rows.specs.declared.Moved.{Moved}
use Rattle.tidying.proofs.RuleTurns.{rows_all, rows_done, turn_measured}
use Rattle.tidying.specs.views.TidyRows.{tidy_rows}
use Rattle.tidying.proofs.sheets.measure.Goals as goal

pub loop-init : goal.loop-init
loop-init c =
    let s = c.args.s.now in
    (c.requires, omega arith, ap (λ l. 3 + length l) (rows_all c.args.arity c.args.rules s))

pub meet_row-requires : goal.meet_row-requires
meet_row-requires c = (record { inside = c.loop.invariant.0; counted = omega arith }, refl)

pub measure_rule-moved-requires : goal.measure_rule-moved-requires
measure_rule-moved-requires c =
    (record { inside = c.loop.invariant.0; counted = omega arith }, omega arith, c.meet_row.ensures.words_len)

pub overflow_add-size : goal.overflow_add-size
overflow_add-size c =
    let s = c.args.s.now in
    let arity = c.args.arity in
    let rules = c.args.rules in
    let at = c.loop.at in
    let i = c.loop.counter in
    let inv = c.loop.invariant in
    let moved = c.measure_rule-moved.ensures in
    let from = ap (λ (m : Moved). m.from) moved.value in
    let to = ap (λ (m : Moved). m.to) moved.value in
    omega (arith, inv.1, moved.from_in_bounds.1)

pub loop-preserved : goal.loop-preserved
loop-preserved c =
    let s = c.args.s.now in
    let arity = c.args.arity in
    let rules = c.args.rules in
    let at = c.loop.at in
    let i = c.loop.counter in
    let inv = c.loop.invariant in
    let moved = c.measure_rule-moved.ensures in
    let from = ap (λ (m : Moved). m.from) moved.value in
    let to = ap (λ (m : Moved). m.to) moved.value in (
      moved.from_in_bounds.0,
      omega (arith, inv.1, moved.from_in_bounds.1),
      omega (arith, inv.2, to, turn_measured arity rules s i at c.loop-test.true from c.meet_row.ensures.words_after),
    )

pub returns : goal.returns
returns c =
    let s = c.args.s.now in
    let arity = c.args.arity in
    let rules = c.args.rules in
    let at = c.loop.at in
    let i = c.loop.counter in
    let inv = c.loop.invariant in
    let end : c.loop.size ≡ 3 + length (tidy_rows arity rules (drop 3 s)) =
    omega (arith, inv.2, ap length (rows_done arity rules s i at c.loop-test.false)) in record {
      value = end;
      upper_bound = omega (arith, inv.1, c.loop.auto);
    }
