-- `begin_of` meets its contract.
use borrow.Author.Tests.{lt-ltb, le-ltb}
use Rattle.leaves.proofs.begins.begin_of.Goals as goal

pub returns-then-rule-lt65 : goal.returns-then-rule-lt65
returns-then-rule-lt65 c = simp (lt-ltb _ _ c.if-rule-lt65.true)

pub returns : goal.returns
returns c = simp (le-ltb _ _ c.if-rule-lt65.false)
