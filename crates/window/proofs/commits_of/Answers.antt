-- 1 for a commit, else 0.
use Rattle.std.proofs.Common.{arith, eq-eqb, ne_eqb}
use Rattle.window.proofs.commits_of.Goals as goal

pub returns-then-word-eq1 : goal.returns-then-word-eq1
returns-then-word-eq1 c = rw (eq-eqb c.args.word 1 (omega arith))

pub returns : goal.returns
returns c = rw (ne_eqb c.args.word 1 c.if-word-eq1.false)
