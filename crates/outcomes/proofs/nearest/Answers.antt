-- `nearest` meets its contract: what is left of the climb gives the same answer.
use Prim.Native.Nat.{◌+◌, ◌-◌}
use mathlib.Core.Path.{◌≡◌, sym, ◌∙◌}
use native.Mathlib.Omega.{arith}
use Rattle.outcomes.proofs.Climbing.{none_left, no_parent, has_cell, has_none, parent_most}
use Rattle.outcomes.proofs.nearest.Goals as goal

pub returns-then-place-eq680 : goal.returns-then-place-eq680
returns-then-place-eq680 c =
    sym (c.loop.invariant.1 ∙ no_parent (3 - c.loop.counter) c.args.cells.now c.loop.place c.if-place-eq680.true)

pub returns-then-cell-ne0 : goal.returns-then-cell-ne0
returns-then-cell-ne0 c =
    sym
    (c.loop.invariant.1
    ∙ has_cell (3 - c.loop.counter) c.args.cells.now c.loop.place (omega arith) c.if-place-eq680.false c.if-cell-ne0.true)

pub loop-preserved : goal.loop-preserved
loop-preserved c =
    let cells = c.args.cells.now in
    let up = c.parent-place.ensures in
    let left : 3 - c.loop.counter - 1 ≡ 3 - (c.loop.counter + 1) = omega arith in (
      rw up (parent_most c.loop.place c.loop.invariant.0),
      c.loop.invariant.1
          ∙ has_none (3 - c.loop.counter) cells c.loop.place (omega arith) c.if-place-eq680.false c.if-cell-ne0.false
          ∙ (rw (up, left)),
    )

pub returns : goal.returns
returns c =
    sym (c.loop.invariant.1 ∙ none_left (3 - c.loop.counter) c.args.cells.now c.loop.place (omega arith))
