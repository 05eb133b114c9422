-- `holds_never` and `row_holds_never` meet their contracts: the terms of a row are asked in turn.
use Prim.Native.Nat.{suc}
use mathlib.Core.Path.{ap, ◌∙◌}
use native.Mathlib.Omega.{arith}
use borrow.Author.Rules.{rules}
use Rattle.places.specs.Numbering.{stride}
use Rattle.piece.proofs.Rooms.{step_of}
use Rattle.outcomes.specs.views.CompareCells.{holds_never_at, cell_holds_never}
use Rattle.outcomes.proofs.HoldsNeverSteps.{others_hold}
use Rattle.basics.proofs.Numbers.{row_room}
use Rattle.outcomes.proofs.+holds_never_row_holds_never.Goals as goal

pub row_holds_never-overflow_add-p : goal.row_holds_never-overflow_add-p
row_holds_never-overflow_add-p t c =
    let a = c.args in
    let room = row_room a.n (stride (suc a.below)) c.if-n-eq0.false in
    let step = step_of a.below (search rules) c.step.ensures in omega arith

pub row_holds_never-row_holds_never-requires : goal.row_holds_never-row_holds_never-requires
row_holds_never-row_holds_never-requires t c =
    let a = c.args in
    let room = row_room a.n (stride (suc a.below)) c.if-n-eq0.false in
    let step = step_of a.below (search rules) c.step.ensures in
    (omega arith, (record { levels = omega arith; places = omega arith }, c.requires.1))

pub row_holds_never-returns : goal.row_holds_never-returns
row_holds_never-returns t c =
    let a = c.args in
    others_hold (cell_holds_never a.cells.now a.below) (stride (suc a.below)) a.n a.p c.if-n-eq0.false
    (c.holds_never.ensures ∙ ap (holds_never_at a.cells.now a.below a.p) c.low_of.ensures) c.if-holds_never.false
    (step_of a.below (search rules) c.step.ensures) c.row_holds_never.ensures
