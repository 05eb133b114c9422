-- `masks::remove` meets its contract: `m & !(1 << i)` is the set without i. Assumes nothing.
use borrow.Author.Rules.{rules}
use Rattle.masks.proofs.Operations.{remove_is}
use Rattle.masks.proofs.remove.Goals as goal

pub returns : goal.returns
returns c = remove_is 64 c.args.m c.args.i (search rules) (search rules)
