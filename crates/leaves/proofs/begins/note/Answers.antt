-- `note` meets its contract.
use lib.ListN.{length-set}
use borrow.Author.Tests.{lt-ltb, le-ltb}
use Rattle.leaves.proofs.begins.note.Goals as goal

pub returns-then-i-lt64 : goal.returns-then-i-lt64
returns-then-i-lt64 c = (simp (lt-ltb _ _ c.if-i-lt64.true), simp length-set c.requires)

pub returns-else-i-lt64 : goal.returns-else-i-lt64
returns-else-i-lt64 c = (simp (le-ltb _ _ c.if-i-lt64.false), c.requires)
