-- All cells are 0.
use Rattle.std.proofs.Common.{refl}
use Rattle.window.specs.Cells.{fresh_cells}
use Rattle.window.proofs.fresh.Goals as goal

pub returns : goal.returns
unfolding fresh_cells
returns c = refl
