-- `waiting::rules::with_rule` meets its contract: the tests that are left, added to the set so far, give the whole.
use mathlib.Core.Path.{◌≡◌}
use lib.ListN.{take, drop}
use Rattle.waiting.specs.views.SpanTests.{with_rule}
use Rattle.waiting.proofs.rules.with_rule.Given as goal

abbrev pub invariant-loop-i : goal.invariant-loop-i
invariant-loop-i l =
    (with_rule l.masks (drop l.i (take l.edges l.numbers)) l.all ≡ with_rule l.masks (take l.edges l.numbers) l.set)
