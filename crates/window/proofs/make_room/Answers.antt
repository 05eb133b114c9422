-- The ring holds one more, or its oldest answer leaves.
use Rattle.std.proofs.Common.{◌∙◌, arith}
use Rattle.window.proofs.Steps.{one_more, oldest_leaves}
use Rattle.window.proofs.make_room.Goals as goal

pub returns-then-held-lt1000 : goal.returns-then-held-lt1000
returns-then-held-lt1000 c = one_more c.args.next c.args.window.now (omega arith)

pub returns : goal.returns
returns c =
    let a = c.args in
    c.count_out.ensures ∙ oldest_leaves a.next a.window.now (omega (arith, c.if-held-lt1000.false))
