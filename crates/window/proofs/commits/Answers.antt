-- The cell of a rule 1 to 64, else 0.
use Rattle.window.proofs.Steps.{commits_there, commits_below, commits_above}
use Rattle.window.proofs.commits.Goals as goal
use Rattle.window.proofs.commits.Goals.{else-rule-ge1-via-then-rule-ge1+else-rule-le64, else-rule-ge1-via-else-rule-ge1}

pub returns-then-rule-le64 : goal.returns-then-rule-le64
returns-then-rule-le64 c =
    let a = c.args in
    commits_there a.rule a.window.now c.if-rule-ge1.true c.if-rule-le64.true

pub returns : goal.returns
returns c =
    let a = c.args in
    elim c.else-rule-ge1.branch [
      | else-rule-ge1-via-then-rule-ge1+else-rule-le64 w ↦ commits_above a.rule a.window.now w.if-rule-le64.false w.if-rule-ge1.true
      | else-rule-ge1-via-else-rule-ge1 w ↦ commits_below a.rule a.window.now w.if-rule-ge1.false
    ]
