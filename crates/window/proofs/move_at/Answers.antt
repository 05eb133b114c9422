-- The count that stands in the cell, moved.
use Rattle.window.specs.Cells.{moved_at}
use Rattle.window.proofs.move_at.Goals as goal

pub returns : goal.returns
unfolding moved_at
returns c = rw c.moved_count.ensures
