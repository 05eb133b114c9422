-- `order::table::read_table` meets its contract. What is still to come of the table gets the refusal of the whole table, and the
-- places passed are stored.
use mathlib.Core.Path.{sym, ◌∙◌}
use native.Mathlib.Omega.{arith}
use Rattle.order.specs.views.TableRead.{none_down}
use Rattle.order.proofs.TableLoop.{read_short, read_start, read_next, read_stop, read_late, read_all}
use Rattle.order.proofs.TableLoop.{new_inside, late_now, late_still}
use Rattle.order.proofs.table.read_table.Goals as goal
use Rattle.order.proofs.table.read_table.Goals.{then-is_late, else-is_late}

pub returns-then-table-ne1360 : goal.returns-then-table-ne1360
returns-then-table-ne1360 c = read_short _ c.if-table-ne1360.true

pub loop-i-init : goal.loop-i-init
unfolding none_down
loop-i-init c = (c.if-table-ne1360.false, read_start _ _ c.requires)

pub returns-then-not-is_new : goal.returns-then-not-is_new
returns-then-not-is_new c = read_stop c.loop-i.invariant.1 c.wide-place.result c.loop-i-test.true c.wide-place.ensures c.loop-i.invariant.0 (sym c.is_new.ensures ∙ c.if-not-is_new.true)

pub is_late-requires : goal.is_late-requires
is_late-requires c = (
  new_inside c.loop-i.down c.wide-place.result (sym c.is_new.ensures ∙ c.if-not-is_new.false),
  c.all_parents-parents.ensures,
)

pub bounds-down-p : goal.bounds-down-p
bounds-down-p c = omega (arith, new_inside c.loop-i.down c.wide-place.result (sym c.is_new.ensures ∙ c.if-not-is_new.false))

pub loop-i-preserved : goal.loop-i-preserved
loop-i-preserved c = (
  c.loop-i.invariant.0,
  read_next c.loop-i.invariant.1 c.wide-place.result c.loop-i-test.true c.wide-place.ensures c.if-is_late.late
      (sym c.is_new.ensures ∙ c.if-not-is_new.false)
      (elim c.if-is_late.branch [
        | then-is_late w ↦ late_now c.loop-i.late _ _ (sym c.is_late.ensures ∙ w.if-is_late.true) w.late-is
        | else-is_late w ↦ late_still c.loop-i.late _ _ (sym c.is_late.ensures ∙ w.if-is_late.false) w.late-is
      ]),
)

pub returns-then-late : goal.returns-then-late
returns-then-late c = read_late c.loop-i.invariant.1 c.loop-i.invariant.0 c.loop-i-test.false c.if-late.true

pub returns : goal.returns
returns c = read_all c.loop-i.invariant.1 c.loop-i.invariant.0 c.loop-i-test.false c.if-late.false
