-- A loop over the members of the row: the rule is in the columns of those passed.
use Rattle.compiled.proofs.ColumnTurns.{Columning}
use Rattle.compiled.proofs.rules.put_row.Given as goal

abbrev pub invariant-loop-left : goal.invariant-loop-left
invariant-loop-left l = Columning l.i l.row l.initial.s l.s l.left

abbrev pub decreases-loop-left : goal.decreases-loop-left
decreases-loop-left l = l.left
