-- `waiting::rules::rules_waits` meets its contract: the rules that are left, added to the set so far, give the whole.
use mathlib.Core.Path.{◌≡◌}
use lib.ListN.{length, take}
use Rattle.rule_masks.specs.views.Kept.{listed_tests}
use Rattle.waiting.proofs.RulesAdded.{Adding}
use Rattle.waiting.proofs.rules.rules_waits.Given as goal

abbrev pub invariant-loop : goal.invariant-loop
invariant-loop l =
    (length l.notes ≡ 680)
    × Adding (listed_tests l.kept) l.cells (take l.edges l.numbers) l.s l.shape.arity l.shape.rules l.at l.counter l.set
