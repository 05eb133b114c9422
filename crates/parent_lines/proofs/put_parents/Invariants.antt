-- `parent_lines::put_parents` meets its contract: a loop over the arguments, each with all below it.
use Rattle.parent_lines.proofs.AllLines.{Passed}
use Rattle.parent_lines.proofs.put_parents.Given as goal

abbrev pub invariant-loop-a : goal.invariant-loop-a
invariant-loop-a l = Passed l.a l.end l.buf
