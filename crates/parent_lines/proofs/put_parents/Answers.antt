-- `parent_lines::put_parents` meets its contract: a loop over the arguments, each with all below it.
use Prim.Native.Nat.{ℕ, ◌+◌, ◌≤◌}
use mathlib.Core.Path.{refl, sym, ap, subst}
use native.Mathlib.Omega.{arith}
use lib.ListN.{length}
use Rattle.records.proofs.Wrote.{wrote_as}
use Rattle.parent_lines.specs.ParentLines.{lines_from}
use Rattle.parent_lines.specs.views.Counting.{CountedTo}
use Rattle.parent_lines.proofs.AllLines.{argument_counted, passed_none, argument_room, passed_more, passed_all}
use Rattle.parent_lines.proofs.put_parents.Goals as goal

pub loop-a-init : goal.loop-a-init
loop-a-init c = passed_none _ refl

pub put_place-end-requires : goal.put_place-end-requires
put_place-end-requires c =
    let turn = c.loop-a in
    let to : turn.a ≤ 8 = omega arith in
    let is = sym c.argument-p.ensures in (
      subst (λ (p : ℕ). CountedTo 1 p 680) is (argument_counted turn.a turn.invariant.from to),
      subst (λ (p : ℕ). turn.end + length (lines_from p 85) ≤ length turn.buf) is
          (argument_room turn.a turn.end turn.buf turn.invariant to),
    )

pub loop-a-preserved : goal.loop-a-preserved
loop-a-preserved c =
    let turn = c.loop-a in
    let is = ap (λ (p : ℕ). lines_from p 85) c.argument-p.ensures in
    passed_more turn.a turn.end turn.buf turn.invariant (omega arith)
    (wrote_as turn.buf turn.end is c.put_place-end.ensures)

pub returns : goal.returns
returns c =
    let turn = c.loop-a in passed_all turn.a turn.end turn.buf turn.invariant (omega arith)
