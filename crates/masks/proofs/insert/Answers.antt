-- `masks::insert` meets its contract: `m | (1 << i)` is the set with i. Assumes nothing.
use borrow.Author.Rules.{rules}
use Rattle.masks.proofs.Operations.{insert_is}
use Rattle.masks.proofs.insert.Goals as goal

pub returns : goal.returns
returns c = insert_is 64 c.args.m c.args.i (search rules) (search rules)
