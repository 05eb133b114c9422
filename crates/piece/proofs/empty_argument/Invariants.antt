-- `empty_argument` meets its contract: the argument's own cell is emptied, and where anything stands below it, those of its four
-- children.
use Prim.Native.Nat.{◌+◌, ◌*◌}
use Rattle.piece.specs.views.Emptied.{Emptied}
use Rattle.piece.proofs.empty_argument.Given as goal

abbrev pub invariant-loop-k : goal.invariant-loop-k
invariant-loop-k l = Emptied l.argument (l.argument + 1 + 21 * l.k) l.fn.cells l.cells
