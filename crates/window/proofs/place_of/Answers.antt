-- A place of the ring, or 0.
use Rattle.std.proofs.Common.{arith, le-ltb, lt-ltb}
use Rattle.window.proofs.place_of.Goals as goal

pub returns-then-cell-lt1000 : goal.returns-then-cell-lt1000
returns-then-cell-lt1000 c = (rw (lt-ltb c.args.cell 1000 (omega arith)), omega arith)

pub returns : goal.returns
returns c = (rw (le-ltb c.args.cell 1000 (omega arith)), omega arith)
