-- What falls from call to call, and what the loop keeps. The levels below fall from a term to its arguments, so 2 for each level
-- and 1 for a row are enough.
use Rattle.std.proofs.Common.{suc, ◌+◌, ◌-◌, ◌*◌, ◌≤◌, ◌≡◌, length}
use Rattle.places.specs.Numbering.{stride}
use Rattle.records.proofs.RowSoFar.{row_from}
use Rattle.piece.specs.views.LaidOut.{terms_cells}
use Rattle.piece.proofs.RowCells.{term_row}
use Rattle.piece.proofs.+term_terms.Given as goal

abbrev pub decreases-term : goal.decreases-term
decreases-term l = 2 * l.below

abbrev pub decreases-terms : goal.decreases-terms
decreases-terms l = 2 * l.below + 1

-- The loop of `terms`: what is read and the n - i terms still to come are the whole row.
abbrev pub invariant-terms-loop-i : goal.invariant-terms-loop-i
invariant-terms-loop-i l =
    (l.at ≤ length l.s)
    × (row_from (term_row l.below) l.s l.at (l.n - l.i) (l.p + l.i * l.step) l.cells
    ≡ terms_cells l.below l.n l.p l.fn.cells l.s)
