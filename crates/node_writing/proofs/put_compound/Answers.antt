-- `node_writing::put_compound` meets its contract: the record is its fields' bytes.
use borrow.Author.Rules.{rules}
use Rattle.node_writing.proofs.put_compound.Goals as goal

pub returns : goal.returns
returns c = simp (c.high.ensures, c.low.ensures, c.high-2.ensures, c.low-2.ensures) at c.put.ensures
