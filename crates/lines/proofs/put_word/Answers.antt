-- `lines::put_word` meets its contract, for each answer.
use Rattle.lines.proofs.put_word.Goals as goal

pub put-requires : goal.put-requires
put-requires c = rw c.in-Commit.is at c.requires

pub put-requires-in-Execute : goal.put-requires-in-Execute
put-requires-in-Execute c = rw c.in-Execute.is at c.requires

pub put-requires-in-Suspend : goal.put-requires-in-Suspend
put-requires-in-Suspend c = rw c.in-Suspend.is at c.requires

pub put-requires-in-Fail : goal.put-requires-in-Fail
put-requires-in-Fail c = rw c.in-Fail.is at c.requires

pub returns-in-Commit : goal.returns-in-Commit
returns-in-Commit c = rw c.in-Commit.is c.put.ensures

pub returns-in-Execute : goal.returns-in-Execute
returns-in-Execute c = rw c.in-Execute.is c.put-in-Execute.ensures

pub returns-in-Suspend : goal.returns-in-Suspend
returns-in-Suspend c = rw c.in-Suspend.is c.put-in-Suspend.ensures

pub returns-in-Fail : goal.returns-in-Fail
returns-in-Fail c = rw c.in-Fail.is c.put-in-Fail.ensures
