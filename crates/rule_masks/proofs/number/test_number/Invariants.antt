-- `rule_masks::number::test_number` meets its contract: what is left to search gives the same number.
use Prim.Native.Nat.{◌+◌}
use mathlib.Core.Path.{◌≡◌}
use Rattle.rule_masks.specs.views.TestNumbers.{test_number, code_test}
use Rattle.rule_masks.specs.views.Kept.{listed_codes, listed_tests}
use Rattle.rule_masks.proofs.CodeNumbers.{number_from}
use Rattle.rule_masks.proofs.number.test_number.Given as goal

abbrev pub invariant-loop-t : goal.invariant-loop-t
invariant-loop-t l =
    test_number (listed_tests l.kept) (code_test l.code) ≡ l.t + number_from (listed_codes l.kept) l.code l.t
