-- `parent_lines::put_place` meets its contract: its line, then a loop over its children, each with all below it.
use Prim.Native.Nat.{ℕ, ◌+◌, ◌-◌, ◌≤◌}
use mathlib.Core.Path.{◌≡◌, refl, sym, subst}
use native.Mathlib.Omega.{arith}
use borrow.Author.Rules.{rules}
use Rattle.places.specs.Numbering.{stride}
use Rattle.records.proofs.Wrote.{room_as, wrote_as}
use Rattle.parent_lines.specs.views.Counting.{CountedTo}
use Rattle.parent_lines.proofs.LineRows.{RowsWrote, rows_begun, row_room, row_more}
use Rattle.parent_lines.proofs.PlaceLines.{child_counted, child_lines}
use Rattle.parent_lines.proofs.PlaceLines.{line_room, rows_room, deepest_wrote, rows_wrote}
use Rattle.parent_lines.proofs.+put_place.Goals as goal

pub put_line-end-requires : goal.put_line-end-requires
put_line-end-requires t c =
    let a = c.args in line_room a.d a.p a.up c.requires.0 a.buf.now a.at c.requires.1

pub returns-then-d-gt3 : goal.returns-then-d-gt3
returns-then-d-gt3 t c =
    let a = c.args in
    deepest_wrote a.d a.p a.up c.requires.0 a.buf.now a.at c.requires.1 c.put_line-end.ensures c.if-d-gt3.true

pub loop-j-init : goal.loop-j-init
loop-j-init t c =
    let a = c.args in
    let line = c.put_line-end in
    (c.if-d-gt3.false, refl, rows_begun line.new.buf line.result (a.p + 1) (stride (4 - a.d)))

pub put_place-end-requires : goal.put_place-end-requires
put_place-end-requires t c =
    let a = c.args in
    let line = c.put_line-end in
    let turn = c.loop-j in
    let counted = c.requires.0 in
    let from : 1 ≤ turn.j = omega arith in
    let to : turn.j ≤ 4 = omega arith in
    let is = c.child-child.ensures in
    let child = child_counted a.d a.p a.up counted turn.j turn.invariant.0 from to in
    let lines = child_lines a.d a.p a.up counted turn.j turn.invariant.0 from to is in
    let rows = rows_room a.d a.p a.up counted a.buf.now a.at c.requires.1 line.ensures in
    let room =
    row_room line.new.buf line.result (a.p + 1) 4 (stride (4 - a.d)) (turn.j - 1) rows (omega arith) turn.invariant.2 in (
      omega arith,
      (subst (λ (q : ℕ). CountedTo (a.d + 1) q a.p) (sym is) child, room_as turn.buf turn.end lines room),
    )

pub loop-j-preserved : goal.loop-j-preserved
loop-j-preserved t c =
    let a = c.args in
    let line = c.put_line-end in
    let turn = c.loop-j in
    let counted = c.requires.0 in
    let from : 1 ≤ turn.j = omega arith in
    let to : turn.j ≤ 4 = omega arith in
    let is = c.child-child.ensures in
    let lines = child_lines a.d a.p a.up counted turn.j turn.invariant.0 from to is in
    let rows = rows_room a.d a.p a.up counted a.buf.now a.at c.requires.1 line.ensures in
    let next = c.put_place-end in
    let more =
    row_more line.new.buf line.result (a.p + 1) 4 (stride (4 - a.d)) (turn.j - 1) rows (omega arith) turn.invariant.2
    (turn.j + 1 - 1) (omega arith) (wrote_as turn.buf turn.end (sym lines) next.ensures) in
    (turn.invariant.0, search rules, more)

pub returns : goal.returns
returns t c =
    let a = c.args in
    let line = c.put_line-end in
    let turn = c.loop-j in
    let four : turn.j - 1 ≡ 4 = omega arith in
    let rows =
    subst (λ (i : ℕ). RowsWrote line.new.buf line.result (a.p + 1) (stride (4 - a.d)) i turn.end turn.buf)
    four turn.invariant.2 in
    rows_wrote a.d a.p a.up c.requires.0 a.buf.now a.at c.requires.1 line.ensures rows
