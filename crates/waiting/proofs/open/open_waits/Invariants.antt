-- `waiting::open::open_waits` meets its contract: a loop over the tests met that builds the set.
use mathlib.Core.Path.{◌≡◌}
use lib.ListN.{take}
use Rattle.rule_masks.specs.views.Kept.{listed_tests}
use Rattle.waiting.specs.views.OpenTests.{met_waits}
use Rattle.waiting.proofs.open.open_waits.Given as goal

abbrev pub invariant-loop-i : goal.invariant-loop-i
invariant-loop-i l =
    (l.set ≡ met_waits (listed_tests l.kept) l.cells (take l.i l.met))
