-- The tables are those of a sheet's rules.
use Rattle.std.specs.Prelude.{ℕ, ◌+◌, ◌*◌, ◌^◌, ◌≤◌, ◌<◌, ◌≡◌, Bool, true, false, List, ltb, length}
use Rattle.std.proofs.Math.Option.{some}
use Rattle.terms.specs.Pattern.{Patterns}
use Rattle.sheet_tests.specs.SheetTests.{Test, place, pair, sheet_tests}
use Rattle.decision.specs.Rules.{test_at, has_test, rules_where, tests_where}
use Rattle.decision.specs.Edges.{first_in, settled_by_unknown}
use Rattle.tables.specs.views.Planes.{rules_in, tests_in, place_tests_in, test_in, row_in, column_in, under_in, first_asked_in}

abbrev pub is_place : Test → Bool
is_place (place n) = true
is_place (pair p q) = false

-- A test as one number.
abbrev pub test_code : Test → ℕ
test_code (place n) = n * 0x1_0000 + n
test_code (pair p q) = p * 0x1_0000 + q

-- Its places are of the 680.
abbrev pub Near : Test → Type 0
Near (place n) = n < 680
Near (pair p q) = (p < 680) × (q < 680)

-- The tables of rules whose tests are asked in this order.
pub record TablesOf (rules : List Patterns) (order s : List ℕ) : Type 0 where
  pub few_rules : length rules ≤ 64
  pub few_tests : length (sheet_tests rules) ≤ 64
  pub rules_are : rules_in s ≡ length rules
  pub tests_are : tests_in s ≡ length (sheet_tests rules)
  pub few_places : place_tests_in s ≤ length (sheet_tests rules)
  pub split : (t : ℕ) → t < length (sheet_tests rules) → is_place (test_at rules t) ≡ ltb t (place_tests_in s)
  pub near : (t : ℕ) → t < length (sheet_tests rules) → Near (test_at rules t)
  pub test : (t : ℕ) → t < length (sheet_tests rules) → test_in s t ≡ test_code (test_at rules t)
  pub row : (i : ℕ) → i < length rules → row_in s i ≡ tests_where rules (has_test rules i)
  pub column : (t : ℕ) → t < length (sheet_tests rules) → column_in s t ≡ rules_where rules (λ i. has_test rules i t)
  pub under
      : (t n : ℕ) → t < length (sheet_tests rules) → test_at rules t ≡ place n
      → under_in s t ≡ tests_where rules (λ u. settled_by_unknown n (test_at rules u))
  pub first
      : (set : ℕ) → set < 2 ^ length (sheet_tests rules) → (set ≡ 0 → ⊥) → first_in set order ≡ some (first_asked_in s set)
