-- The ranges of the variables passed so far have each a number in common.
use Rattle.std.proofs.Common.{◌≡◌, ℕ, true, get_or}
use lib.Dec.{leb}
use Rattle.basics.specs.Lists.{all_below}
use Rattle.sheet.proofs.variable.meet.Given as goal

abbrev pub invariant-loop-v : goal.invariant-loop-v
invariant-loop-v l = all_below l.v (λ (i : ℕ). leb (get_or l.ranges.low i 0) (get_or l.ranges.high i 0)) ≡ true
