-- In each turn what was printed so far stands behind the line of the sheet: a piece has at least 3 bytes, and its line at most 44.
use Prim.Native.Nat.{◌+◌, ◌-◌, ◌*◌, ◌≤◌}
use mathlib.Core.Path.{◌≡◌}
use lib.ListN.{length}
use Rattle.piece.specs.views.LaidOut.{UsedTo}
use Rattle.walk.specs.Walking.{walk_reply}
use Rattle.piece_lines.proofs.Progress.{Progress}
use Rattle.piece_lines.proofs.put_built.Given as goal

abbrev pub invariant-loop-from : goal.invariant-loop-from
invariant-loop-from l =
    (l.from ≤ length l.input) × (1 ≤ l.n) × (3 * l.n ≤ l.from + 3) × (l.end + 44 ≤ l.initial.end + 44 * l.n)
    × (length l.out ≡ length l.initial.out)
    × Progress (walk_reply l.sheet l.graph) l.input l.initial.out l.initial.end l.from l.n l.end l.out
    × (length l.notes ≡ 680) × (l.used ≤ 680) × UsedTo l.used l.cells

abbrev pub decreases-loop-from : goal.decreases-loop-from
decreases-loop-from l = length l.input - l.from
