-- One load from the table.
use mathlib.Core.Path.{refl}
use native.Mathlib.Omega.{arith}
use Rattle.rows.proofs.numbers.place_number.Goals as goal

pub overflow_cast-result : goal.overflow_cast-result
overflow_cast-result c = omega (arith, c.requires.1 c.args.place)

pub returns : goal.returns
returns c = (refl, c.requires.1 c.args.place)
