-- `masks::minus` meets its contract: `a & !b` is the difference. Assumes nothing.
use borrow.Author.Rules.{rules}
use Rattle.masks.proofs.Operations.{minus_is}
use Rattle.masks.proofs.minus.Goals as goal

pub returns : goal.returns
returns c = minus_is 64 c.args.a c.args.b (search rules) (search rules)
