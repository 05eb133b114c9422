-- The places of a sheet's tests: a sheet of at most 8 arguments tests places below 680, so each fits a wide field.
use mathlib.Core.Path.{sym, subst}
use mathlib.Core.List.{List}
use lib.Dec.{T}
use Rattle.basics.specs.Lists.{Mem}
use Rattle.terms.specs.Pattern.{Patterns}
use Rattle.sheet_tests.specs.SheetTests.{Test, sheet_tests}
use Rattle.sheet.specs.Sheet.{Sheet, SoundSheet}
use Rattle.decision.specs.Rules.{same_test}
use Rattle.basics.proofs.Filters.{any_mem, mem_any}
use Rattle.decision.proofs.rules.TestsOfRules.{same_test_lem, test_same}
use Rattle.graph.specs.ReadGraph.{is_sheet_test}
use Rattle.decision.proofs.rules.NearTests.{Near, rules_near}

-- "Its place or pair among the sheet's tests": the test is passed exactly by the sheet's tests.
pub test_mem : (rules : List Patterns) (t : Test) → T (is_sheet_test rules t) → Mem t (sheet_tests rules)
test_mem rules t h =
    let (u, m, e) = any_mem (same_test t) (sheet_tests rules) h in
    subst (λ (v : Test). Mem v (sheet_tests rules)) (sym (same_test_lem t u e)) m

pub mem_test : (rules : List Patterns) (t : Test) → Mem t (sheet_tests rules) → T (is_sheet_test rules t)
mem_test rules t m = mem_any (same_test t) m (test_same t)

-- The tests of an accepted sheet are of places below 680.
pub tests_near : (sheet : Sheet) → SoundSheet sheet → (t : Test) → Mem t (sheet_tests sheet.rules) → Near t
tests_near sheet sound t m = rules_near sheet.arity sheet.rules sound.few_arguments sound.accepted_rules t m
