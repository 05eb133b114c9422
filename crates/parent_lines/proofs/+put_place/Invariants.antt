-- The depth grows from a place to its children. So many children have their lines as were counted, each with all below it.
use Prim.Native.Nat.{◌+◌, ◌-◌, ◌≤◌}
use mathlib.Core.Path.{◌≡◌}
use lib.ListN.{length}
use Rattle.places.specs.Numbering.{stride}
use Rattle.parent_lines.proofs.LineRows.{RowsWrote}
use Rattle.parent_lines.proofs.+put_place.Given as goal

abbrev pub decreases-put_place : goal.decreases-put_place
decreases-put_place l = 4 - l.d

abbrev pub invariant-loop-j : goal.invariant-loop-j
invariant-loop-j l =
    (l.d ≤ 3) × (length l.buf ≡ length l.initial.buf)
    × RowsWrote l.initial.buf l.initial.end (l.p + 1) (stride (4 - l.d)) (l.j - 1) l.end l.buf
