-- The count of the word, then that of the rule.
use Rattle.window.specs.Cells.{counted}
use Rattle.window.proofs.count.Goals as goal

pub returns : goal.returns
unfolding counted
returns c = rw (← c.commits_of.ensures, ← c.move_at.ensures) c.move_at-2.ensures
