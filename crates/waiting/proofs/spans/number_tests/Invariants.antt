-- `waiting::spans::number_tests` meets its contract: the tests before the current one are numbered, the others as they were.
use Prim.Native.Nat.{ℕ}
use Rattle.rule_masks.specs.views.TestNumbers.{test_number, code_test}
use Rattle.rule_masks.specs.views.Kept.{listed_tests}
use Rattle.waiting.proofs.AlongTests.{Changed}
use Rattle.waiting.proofs.spans.number_tests.Given as goal

abbrev pub invariant-loop-i : goal.invariant-loop-i
invariant-loop-i l =
    Changed (λ (c : ℕ). test_number (listed_tests l.kept) (code_test c)) l.initial.met l.i l.met
