-- `track::put_order` meets its contract: each turn puts down the place that comes next, and writes it.
use Prim.Native.Nat.{◌+◌, ◌*◌, ◌%◌}
use mathlib.Core.Path.{refl}
use mathlib.Core.List.{[], ◌∷◌}
use native.Mathlib.Omega.{arith}
use borrow.Author.Rules.{rules}
use Rattle.records.proofs.Wrote.{wrote_as}
use Rattle.track.proofs.Rows.{arguments, least_below}
use Rattle.track.proofs.PutInOrder.{put_first, put_same, put_room, put_inside, put_next, put_all}
use Rattle.track.proofs.put_order.Goals as goal

pub open_row-requires : goal.open_row-requires
open_row-requires c = (c.requires.0, search rules, omega arith, arguments.inside)

pub loop-init : goal.loop-init
loop-init c =
    let known = c.type_inv.positions in (
      c.requires.0,
      put_first _ _ _ c.requires.1 (λ q h. omega (arith, known (2 * q), known (2 * q + 1))) c.open_row.ensures,
    )

pub least_row-key-requires : goal.least_row-key-requires
least_row-key-requires c = (c.loop.invariant.1.front.size, omega arith, arguments.inside)

pub put_down-requires : goal.put_down-requires
put_down-requires c =
    let turn = c.loop in
    let key = c.least_row-key in (
      turn.invariant.0,
      c.all_parents-parents.ensures,
      turn.invariant.1.front.size,
      put_inside turn.invariant.1 c.loop-test.true (least_below arguments key.ensures)
          (key.result % 1024) refl,
    )

pub put-end-requires : goal.put-end-requires
put-end-requires c =
    put_room c.loop.invariant.1
    c.loop-test.true

pub loop-preserved : goal.loop-preserved
loop-preserved c =
    let turn = c.loop in
    let key = c.least_row-key in (
      turn.invariant.0,
      put_next turn.invariant.1
          c.loop-test.true
          (least_below arguments key.ensures) (key.result % 1024) refl _ _ _
          c.put_down.ensures
          (wrote_as turn.buf turn.end
          (λ j. c.high.ensures j ∷ c.low.ensures j ∷ []) c.put-end.ensures),
    )

pub shape_of-buf : goal.shape_of-buf
shape_of-buf c = put_same c.loop.invariant.1

pub returns : goal.returns
returns c = put_all c.loop.invariant.1 c.loop-test.false
