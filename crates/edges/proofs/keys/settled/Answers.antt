-- `edges::keys::settled` meets its contract. The loop's invariant: of the live rules, those are kept that have none of the tests
-- passed.
use Prim.Native.Nat.{ℕ}
use mathlib.Core.Path.{ap}
use native.Mathlib.Omega.{arith}
use lib.Count.{trailing_le}
use borrow.Author.Rules.{rules}
use Rattle.masks.specs.Mask.{has}
use Rattle.masks.proofs.LowestMember.{rest_lt, trailing_lt}
use Rattle.edges.specs.views.KeysBehind.{settled_in}
use Rattle.edges.proofs.Dropping.{dropping_start, dropping_turn, dropping_done}
use Rattle.edges.proofs.keys.settled.Invariants.{in_column}
use Rattle.edges.proofs.keys.settled.Goals as goal

pub loop-to_come-init : goal.loop-to_come-init
loop-to_come-init c =
    dropping_start 64 (in_column c.args.s.now) c.args.live c.args.left (search rules) (search rules)

pub overflow_cast-t : goal.overflow_cast-t
overflow_cast-t c = omega (arith, trailing_le 64 c.loop-to_come.to_come)

pub column-requires : goal.column-requires
column-requires c = trailing_lt 64 c.loop-to_come.to_come c.loop-to_come.invariant.left_fits (omega arith)

pub loop-to_come-smaller : goal.loop-to_come-smaller
loop-to_come-smaller c = rest_lt c.loop-to_come.to_come (omega arith)

pub loop-to_come-preserved : goal.loop-to_come-preserved
loop-to_come-preserved c =
    let a = c.args in
    let at = c.loop-to_come in
    dropping_turn 64 (in_column a.s.now) a.live a.left at.all at.to_come at.invariant c.column.result
    c.minus-all.ensures (omega arith) (λ i. ap (λ (x : ℕ). has x i) c.column.ensures)

pub returns : goal.returns
unfolding settled_in
returns c =
    let a = c.args in
    let at = c.loop-to_come in
    dropping_done 64 (in_column a.s.now) a.live a.left at.all at.to_come at.invariant c.loop-to_come-test.false
