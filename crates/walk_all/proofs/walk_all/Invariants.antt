-- In each turn the results so far stand at the front of the buffer; the notes are as many as before, and the cells that no piece
-- used are empty.
use Prim.Native.Nat.{◌≤◌}
use mathlib.Core.Path.{◌≡◌}
use lib.ListN.{length}
use Rattle.piece.specs.views.LaidOut.{UsedTo}
use Rattle.walk.specs.Walking.{walk_reply}
use Rattle.walk_all.specs.WalkAll.{most_taken}
use Rattle.walk_all.proofs.Progress.{Progress}
use Rattle.walk_all.proofs.walk_all.Given as goal

abbrev pub invariant-loop-n : goal.invariant-loop-n
invariant-loop-n l =
    (l.from ≤ length l.pieces) × (l.from ≤ most_taken) × (length l.results ≡ length l.initial.results)
    × Progress (walk_reply l.sheet l.graph) l.pieces l.initial.results l.room l.n l.from l.results
    × (length l.notes ≡ 680) × (l.used ≤ 680) × UsedTo l.used l.cells
