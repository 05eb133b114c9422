-- The next place, or the first.
use Rattle.std.proofs.Common.{arith, le-ltb, lt-ltb}
use Rattle.window.proofs.place_after.Goals as goal

pub returns-then-next-lt999 : goal.returns-then-next-lt999
returns-then-next-lt999 c = rw (lt-ltb c.args.next 999 (omega arith))

pub returns : goal.returns
returns c = rw (le-ltb c.args.next 999 (omega arith))
