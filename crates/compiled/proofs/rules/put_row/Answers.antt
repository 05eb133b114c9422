-- A loop over the members of the row: the rule is in the columns of those passed.
use Prim.Native.Nat.{◌+◌}
use mathlib.Core.Path.{refl, ◌∙◌}
use native.Mathlib.Omega.{arith}
use lib.Count.{trailing_le}
use lib.ListN.{length-set}
use Rattle.masks.proofs.LowestMember.{rest_lt, trailing_lt}
use Rattle.rows.specs.views.Row.{with_test}
use Rattle.compiled.proofs.ColumnTurns.{columning_start, columning_turn, columning_done}
use borrow.Author.Rules.{rules}
use Rattle.compiled.proofs.rules.put_row.Goals as goal

pub loop-left-init : goal.loop-left-init
loop-left-init c = columning_start _ _ _ (search rules)

pub overflow_cast-t : goal.overflow_cast-t
overflow_cast-t c = omega (arith, trailing_le 64 c.loop-left.left)

pub overflow_add-t : goal.overflow_add-t
overflow_add-t c = omega (arith, trailing_le 64 c.loop-left.left)

pub offset_bounds-s-t : goal.offset_bounds-s-t
offset_bounds-s-t c = omega (arith, trailing_le 64 c.loop-left.left)

pub bounds-s-t : goal.bounds-s-t
bounds-s-t c =
    let turn = c.loop-left in
    omega (arith, trailing_lt 64 turn.left turn.invariant.fits (omega arith))

pub overflow_add-s-in-loop-left : goal.overflow_add-s-in-loop-left
overflow_add-s-in-loop-left c = omega (arith, trailing_le 64 c.loop-left.left)

pub offset_bounds-s-t-in-loop-left : goal.offset_bounds-s-t-in-loop-left
offset_bounds-s-t-in-loop-left c = omega (arith, trailing_le 64 c.loop-left.left)

pub bounds-s-t-in-loop-left : goal.bounds-s-t-in-loop-left
bounds-s-t-in-loop-left c =
    let turn = c.loop-left in
    omega (
      arith,
      trailing_lt 64 turn.left turn.invariant.fits (omega arith),
      turn.invariant.entries ∙ length-set c.args.s.now (68 + c.args.i) c.args.row,
      c.requires.1,
    )

pub loop-left-smaller : goal.loop-left-smaller
loop-left-smaller c = rest_lt c.loop-left.left (omega arith)

pub loop-left-preserved : goal.loop-left-preserved
unfolding with_test
loop-left-preserved c =
    let turn = c.loop-left in
    columning_turn c.args.i c.args.row _ turn.s turn.left turn.invariant (omega arith)
    (length-set c.args.s.now (68 + c.args.i) c.args.row ∙ c.requires.1) _ refl c.insert.ensures

pub returns : goal.returns
returns c = columning_done c.args.i c.args.row _ c.loop-left.s c.loop-left.left c.loop-left.invariant c.loop-left-test.false
