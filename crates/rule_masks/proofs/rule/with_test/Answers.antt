-- A number below 64 is put in, any other changes nothing.
use Rattle.rule_masks.proofs.MadeTurns.{with_none}
use borrow.Author.Rules.{rules}
use Rattle.rule_masks.proofs.rule.with_test.Goals as goal

pub returns-then-t-lt64 : goal.returns-then-t-lt64
returns-then-t-lt64 c = c.insert.ensures

pub returns : goal.returns
returns c = with_none c.args.set c.args.t (search rules) c.if-t-lt64.false
