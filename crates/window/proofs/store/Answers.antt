-- The answer in the ring, and the place after it.
use Rattle.window.specs.Cells.{stored}
use Rattle.window.proofs.store.Goals as goal

pub returns : goal.returns
unfolding stored
returns c = rw (c.code_of.ensures, c.place_after.ensures)
