-- The bytes of a record of two ends.
use Rattle.tidy_rows.proofs.rules.put_ends.Goals as goal

pub returns : goal.returns
returns c = simp (c.high.ensures, c.low.ensures, c.high-2.ensures, c.low-2.ensures) at c.put.ensures
