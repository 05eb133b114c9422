-- `cuts::spot_of` meets its contract. The loop's invariant: the cuts passed are below the code.
use native.Mathlib.Omega.{arith}
use borrow.Author.Count.{below_more}
use Rattle.cuts.proofs.spot_of.Goals as goal

pub loop-k-init : goal.loop-k-init
loop-k-init c = λ j h. absurd (omega arith)

pub returns-then-code-c : goal.returns-then-code-c
returns-then-code-c c =
    let at = c.loop-k in
    record { within = omega arith; passed = at.invariant; reached = λ h. c.if-code-c.true }

pub loop-k-preserved : goal.loop-k-preserved
loop-k-preserved c =
    below_more _ _ c.loop-k.invariant (omega (arith, c.if-code-c.false))

pub returns : goal.returns
returns c =
    let at = c.loop-k in
    record { within = omega arith; passed = λ j h. at.invariant j (omega arith); reached = λ h. absurd (omega arith) }
