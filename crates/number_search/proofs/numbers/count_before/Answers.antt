-- `number_search::numbers::count_before` meets its contract: the part in which the first of the others stands is halved.
use Prim.Native.Nat.{ℕ, ◌<◌, ◌≤◌}
use mathlib.Core.Path.{subst}
use native.Mathlib.Omega.{arith}
use Rattle.number_search.proofs.Halving.{halved_starts, halved_ends, halved_behind, halved_front}
use Rattle.number_search.proofs.numbers.count_before.Goals as goal

pub loop-from-init : goal.loop-from-init
loop-from-init c = halved_starts c.requires

pub loop-from-preserved-then-passed : goal.loop-from-preserved-then-passed
loop-from-preserved-then-passed c =
    halved_behind c.requires c.loop-from.invariant (omega arith) (omega (arith, c.loop-from-test.true))
    (subst (λ (n : ℕ). n < c.args.rank) c.rank_at.ensures c.if-passed.true)

pub loop-from-preserved : goal.loop-from-preserved
loop-from-preserved c =
    halved_front c.requires c.loop-from.invariant (omega arith) (omega (arith, c.loop-from-test.true))
    (subst (λ (n : ℕ). c.args.rank ≤ n) c.rank_at.ensures c.if-passed.false)

pub returns : goal.returns
returns c = halved_ends c.requires c.loop-from.invariant c.loop-from-test.false
