-- `met::hash` meets its contract: a product and a sum that wrap.
use Rattle.std.proofs.Common.{arith, ap}
use Rattle.met.specs.views.KeysMet.{hash_of}
use Rattle.met.proofs.hash.Goals as goal

pub returns : goal.returns
unfolding hash_of
returns c = omega arith
