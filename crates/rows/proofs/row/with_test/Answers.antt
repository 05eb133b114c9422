-- A number below 64 is put in, any other changes nothing.
use Rattle.rows.specs.views.Row.{with_test}
use Rattle.rows.proofs.RowTurns.{with_none}
use borrow.Author.Rules.{rules}
use Rattle.rows.proofs.row.with_test.Goals as goal

pub returns-then-t-lt64 : goal.returns-then-t-lt64
unfolding with_test
returns-then-t-lt64 c = c.insert.ensures

pub returns : goal.returns
returns c = with_none c.args.row c.args.t (search rules) c.if-t-lt64.false
