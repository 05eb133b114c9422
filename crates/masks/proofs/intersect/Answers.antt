-- `masks::intersect` meets its contract: `a & b` is the intersection. Assumes nothing.
use borrow.Author.Rules.{rules}
use Rattle.masks.proofs.Operations.{intersect_is}
use Rattle.masks.proofs.intersect.Goals as goal

pub returns : goal.returns
returns c = intersect_is 64 c.args.a c.args.b (search rules)
