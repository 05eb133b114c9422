-- `empty_argument` meets its contract: the argument's own cell is emptied, and where anything stands below it, those of its four
-- children.
use Prim.Native.Nat.{◌<◌}
use mathlib.Core.Path.{◌∙◌}
use lib.ListN.{length}
use native.Mathlib.Omega.{arith}
use Rattle.piece.proofs.Emptying.{emptied_own, emptied_more, emptied_flat, emptied_to, still_tells}
use Rattle.piece.proofs.empty_argument.Goals as goal

pub returns-then-cells-argument-eq0 : goal.returns-then-cells-argument-eq0
returns-then-cells-argument-eq0 c =
    let there : c.args.argument < length c.args.cells.now = let size = c.requires.1 in omega arith in
    emptied_flat 85 (omega arith) (emptied_own c.args.cells.now there) c.requires.2.own c.if-cells-argument-eq0.true

pub loop-k-init : goal.loop-k-init
loop-k-init c = let size = c.requires.1 in emptied_to (emptied_own c.args.cells.now (omega arith)) (omega arith)

pub empty_child-requires : goal.empty_child-requires
empty_child-requires c =
    let so_far = c.loop-k.invariant in (
      omega arith,
      so_far.size ∙ c.requires.1,
      still_tells so_far (omega arith) 21 (c.requires.2.children c.loop-k.k (omega arith)),
    )

pub loop-k-preserved : goal.loop-k-preserved
loop-k-preserved c = emptied_to (emptied_more c.loop-k.invariant (omega arith) c.empty_child.ensures (omega arith)) (omega arith)

pub returns : goal.returns
returns c = emptied_to c.loop-k.invariant (omega arith)
