-- What falls from call to call, and what the loop keeps. The levels below fall from a pattern to its arguments, so 2 for each
-- level and 1 for a row are enough.
use Rattle.std.proofs.Common.{suc, ◌+◌, ◌-◌, ◌*◌, ◌≤◌, ◌≡◌, length}
use Rattle.places.specs.Numbering.{stride}
use Rattle.records.proofs.RowSoFar.{row_from}
use Rattle.sheet.specs.views.NoteArray.{notes_in}
use Rattle.sheet.specs.views.NotesBehind.{row_held, behind}
use Rattle.sheet.proofs.Rows.{pattern_row}
use Rattle.sheet.proofs.rule.+pattern_patterns.Given as goal

abbrev pub decreases-pattern : goal.decreases-pattern
decreases-pattern l = 2 * l.below

abbrev pub decreases-patterns : goal.decreases-patterns
decreases-patterns l = 2 * l.below + 1

-- The loop of `patterns`: what is noted and the count - counter patterns still to come are the whole row, from a place that leaves
-- them their room and is behind the notes made.
abbrev pub invariant-patterns-loop : goal.invariant-patterns-loop
invariant-patterns-loop l =
    (l.at ≤ length l.s) × (l.made ≤ l.here)
    × (l.here + (l.count - l.counter) * stride (suc l.below) ≡ l.place + l.count * stride (suc l.below)) × (length l.notes ≡ 680)
    × (row_from (pattern_row behind l.below) l.s l.at (l.count - l.counter) l.here (notes_in l.notes l.made)
    ≡ row_held behind l.below l.count l.place (notes_in l.initial.notes l.n) l.s)
