-- `edges::keys::held` meets its contract. The loop's invariant: the tests left of the live rules passed are joined. Where these are
-- all tests left, no live rule to come has another.
use Prim.Native.Nat.{◌-◌}
use native.Mathlib.Omega.{arith}
use lib.Bits.{bit_and, bit_or}
use lib.Count.{trailing_le}
use borrow.Author.Rules.{rules}
use Rattle.masks.proofs.LowestMember.{rest_lt, trailing_lt}
use Rattle.masks.proofs.Loops.{joining_start}
use Rattle.tables.specs.views.Planes.{row_in}
use Rattle.edges.specs.views.KeysBehind.{held_in}
use Rattle.edges.proofs.Holding.{in_both, holding_turn, holding_done, holding_all}
use Rattle.edges.proofs.keys.held.Goals as goal

pub loop-to_come-init : goal.loop-to_come-init
loop-to_come-init c = joining_start 64 (in_both (row_in c.args.s.now) c.args.left) c.args.live (search rules)

pub overflow_cast-i : goal.overflow_cast-i
overflow_cast-i c = omega (arith, trailing_le 64 c.loop-to_come.to_come)

pub row-requires : goal.row-requires
row-requires c = trailing_lt 64 c.loop-to_come.to_come c.loop-to_come.invariant.left_fits (omega arith)

pub returns-then-all-left : goal.returns-then-all-left
unfolding held_in
returns-then-all-left c =
    let a = c.args in
    let at = c.loop-to_come in
    let row = row_in a.s.now in
    holding_all 64 row a.left a.live (bit_or at.all (bit_and c.row.result a.left))
    (bit_and at.to_come (at.to_come - 1))
    (holding_turn 64 row a.left a.live at.all at.to_come at.invariant c.row.ensures (search rules)
    (omega arith)) (search rules) c.if-all-left.true

pub loop-to_come-smaller : goal.loop-to_come-smaller
loop-to_come-smaller c = rest_lt c.loop-to_come.to_come (omega arith)

pub loop-to_come-preserved : goal.loop-to_come-preserved
loop-to_come-preserved c =
    let a = c.args in
    let at = c.loop-to_come in
    holding_turn 64 (row_in a.s.now) a.left a.live at.all at.to_come at.invariant c.row.ensures
    (search rules) (omega arith)

pub returns : goal.returns
unfolding held_in
returns c =
    let a = c.args in
    let at = c.loop-to_come in
    holding_done 64 (row_in a.s.now) a.left a.live at.all at.to_come at.invariant c.loop-to_come-test.false
