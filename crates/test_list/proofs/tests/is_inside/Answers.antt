-- Both tests.
use borrow.Author.Tests.{le-leb, lt-leb}
use Rattle.test_list.proofs.tests.is_inside.Goals as goal

pub returns-then-p-x : goal.returns-then-p-x
returns-then-p-x c = rw (le-leb c.args.p c.args.x c.if-p-x.true)

pub returns-else-p-x : goal.returns-else-p-x
returns-else-p-x c = simp (lt-leb _ _ c.if-p-x.false)
