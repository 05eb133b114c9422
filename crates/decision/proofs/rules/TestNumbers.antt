-- Each test of a sheet's rule is one of the sheet's tests, and so has a number.
use Prim.Native.Nat.{ℕ, zero, suc, ◌<◌}
use mathlib.Core.Path.{◌≡◌}
use mathlib.Core.List.{List, [], ◌∷◌}
use native.Mathlib.Omega.{arith}
use lib.ListN.{length, get_or}
use Rattle.basics.specs.Lists.{Mem}
use Rattle.terms.specs.Pattern.{Patterns, pnil}
use Rattle.terms.specs.Answer.{rule_at}
use Rattle.sheet_tests.specs.SheetTests.{Test, place, rule_tests, all_tests, sheet_tests}
use Rattle.sheet_tests.proofs.TestOrder.{ascending_has}
use Rattle.decision.specs.Rules.{test_at}
use Rattle.basics.proofs.Filters.{mem_left, mem_right}
use Rattle.decision.proofs.rules.TestsOfRules.{HasTest, has_mem}
use Rattle.basics.proofs.Positions.{number_of_lem}

module _ (rules : List Patterns) where
  -- The tests of each rule are among the tests of all.
  rule_among : (i : ℕ) → i < length rules → (t : Test) → Mem t (rule_tests (get_or rules i pnil)) → Mem t (all_tests rules)
  rule_among i l t m = go rules i l m
    where
      go : (rs : List Patterns) (i : ℕ) → i < length rs → Mem t (rule_tests (get_or rs i pnil)) → Mem t (all_tests rs)
      go [] i l m = absurd (let z : ⊥ = omega arith in z)
      go (r ∷ rs) zero l m = mem_left (all_tests rs) m
      go (r ∷ rs) (suc i) l m = mem_right (rule_tests r) (go rs i (omega arith) m)

  -- A test that a rule has is the sheet's test of some number.
  pub test_number_lem
      : (i : ℕ) → i < length rules → (t : Test) → HasTest (rule_at rules (suc i)) t
      → (u : ℕ) × (u < length (sheet_tests rules)) × (test_at rules u ≡ t)
  test_number_lem i l t h =
      let m = rule_among i l t (has_mem (rule_at rules (suc i)) t h) in
      number_of_lem (place 0) (sheet_tests rules) (ascending_has (all_tests rules) m)
