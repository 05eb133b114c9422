-- `node_writing::put_pair` meets its contract: the record is its fields' bytes.
use borrow.Author.Rules.{rules}
use Rattle.node_writing.proofs.put_pair.Goals as goal

pub returns : goal.returns
returns c = simp (c.high.ensures, c.low.ensures, c.high-2.ensures, c.low-2.ensures, c.high-3.ensures, c.low-3.ensures, c.high-4.ensures, c.low-4.ensures) at c.put.ensures
