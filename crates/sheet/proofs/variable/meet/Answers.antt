-- The ranges of the variables passed so far have each a number in common.
use Rattle.std.proofs.Common.{◌≡◌, sym, arith}
use borrow.Author.Tests.{le-leb, lt-leb}
use Rattle.sheet.specs.views.NoteRanges.{ends_meet}
use Rattle.basics.proofs.AllBelow.{all_none, all_more, all_fails}
use Rattle.sheet.proofs.variable.meet.Goals as goal

pub loop-v-init : goal.loop-v-init
loop-v-init c =
    all_none _

pub returns-then-ranges-v : goal.returns-then-ranges-v
unfolding ends_meet
returns-then-ranges-v c =
    sym (all_fails 16 c.loop-v.v _ (omega arith) (lt-leb _ _ c.if-ranges-v.true))

pub loop-v-preserved : goal.loop-v-preserved
loop-v-preserved c =
    all_more c.loop-v.v _ c.loop-v.invariant (le-leb _ _ c.if-ranges-v.false)

pub returns : goal.returns
unfolding ends_meet
returns c =
    let end : c.loop-v.v ≡ 16 = omega arith in
    sym (rw end at c.loop-v.invariant)
