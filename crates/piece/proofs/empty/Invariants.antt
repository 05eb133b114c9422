-- `empty` meets its contract: the cells of one argument after another are emptied, and from there on they were empty.
use Prim.Native.Nat.{◌*◌}
use Rattle.piece.specs.views.Emptied.{Emptied}
use Rattle.piece.proofs.empty.Given as goal

abbrev pub invariant-loop-a : goal.invariant-loop-a
invariant-loop-a l = Emptied 0 (85 * l.a) l.fn.cells l.cells
