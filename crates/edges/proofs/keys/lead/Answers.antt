-- `edges::keys::lead` meets its contract: none, one, or two live rules and more, and of these two settled ones or not.
use native.Mathlib.Omega.{arith}
use borrow.Author.Rules.{rules}
use Rattle.masks.specs.Mask.{members}
use Rattle.masks.proofs.Members.{members_none, members_one, members_two}
use Rattle.edges.specs.views.KeysBehind.{common}
use Rattle.edges.proofs.TwoOrMore.{two_or_more_lem, one_at_most}
use Rattle.edges.proofs.keys.lead.Goals as goal

pub returns-then-live-eq0 : goal.returns-then-live-eq0
returns-then-live-eq0 c = rw (members_none 64 c.args.live c.if-live-eq0.true)

pub returns-then-live-eq1 : goal.returns-then-live-eq1
returns-then-live-eq1 c = rw (members_one 64 c.args.live (search rules) c.if-live-eq1.true)

pub returns-then-size-gt1 : goal.returns-then-size-gt1
unfolding common
returns-then-size-gt1 c =
    let a = c.args in
    rw (
      (members_two 64 a.live (search rules) c.if-live-eq0.false
          c.if-live-eq1.false).3,
      ← c.intersect.ensures,
      two_or_more_lem (members 64 c.intersect.result) (omega (arith, c.size.ensures)),
    )

pub returns : goal.returns
unfolding common
returns c =
    let a = c.args in
    rw (
      (members_two 64 a.live (search rules) c.if-live-eq0.false
          c.if-live-eq1.false).3,
      ← c.intersect.ensures,
      one_at_most (members 64 c.intersect.result) (omega (arith, c.size.ensures)),
      c.held.ensures,
    )
