-- What is known of bytes that were accepted as a sheet.
use Rattle.std.specs.Prelude.{ℕ, ◌-◌, ◌≤◌, ◌≡◌, List, length, drop}
use Rattle.records.specs.Reading.{took}
use Rattle.sheet.specs.Sheet.{Sheet}
use Rattle.sheet.specs.ReadSheet.{read_rules}
use Rattle.sheet_tests.specs.SheetTests.{sheet_tests}
use Rattle.sheet_tests.specs.CheckSheet.{accept_sheet}
use Rattle.sheet_tests.specs.views.TestsRead.{kept_tests}

-- A sheet that was accepted, of so many arguments and rules.
pub record AcceptedAs (s : List ℕ) (arity count : ℕ) : Type 0 where
  pub bytes : ℕ
  pub sheet : Sheet
  pub accepted : accept_sheet s ≡ took bytes sheet
  pub whole : 3 ≤ length s
  pub few : arity ≤ 8
  pub arity_is : sheet.arity ≡ arity
  pub rules_read : read_rules arity count (drop 3 s) ≡ took (length s - 3) sheet.rules

-- A sheet that was accepted, of so many arguments and rules, and whose tests the arrays hold.
pub record AcceptedTests (s words codes : List ℕ) (arity count pairs : ℕ) : Type 0 where
  pub read : AcceptedAs s arity count
  pub count_is : length read.sheet.rules ≡ count
  pub tests : sheet_tests read.sheet.rules ≡ kept_tests words codes pairs
