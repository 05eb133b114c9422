-- What is known of a sheet before its rules are put into tables and cuts, and after.
use Rattle.std.specs.Prelude.{ℕ, ◌≤◌, ◌<◌, ◌≡◌, List, length, get_or}
use Rattle.basics.specs.Lists.{All, Mem}
use Rattle.records.specs.Reading.{took}
use Rattle.terms.specs.Pattern.{Patterns}
use Rattle.terms.specs.Accepted.{AcceptedRule}
use Rattle.sheet.specs.ReadSheet.{read_rules}
use Rattle.sheet_tests.specs.SheetTests.{sheet_tests}
use Rattle.tables.specs.views.Planes.{rules_in, place_tests_in}
use Rattle.tables.specs.views.TablesOf.{TablesOf}
use Rattle.tables.specs.views.Turns.{Turns}
use Rattle.cuts.specs.views.Cuts.{part_at, Parted}
use Rattle.cuts.specs.views.CutsOf.{CutsOf}
use Rattle.rows.specs.views.TestsOf.{TestsOf}

-- These accepted rules are read from the bytes; their tests are listed, and asked in this order; no rule is in the tables or the
-- cuts yet.
pub record Compiling (arity : ℕ) (b numbers s c order : List ℕ) (all : List Patterns) : Type 0 where
  pub arguments : arity ≤ 8
  pub bytes : ℕ
  pub read : read_rules arity (rules_in s) b ≡ took bytes all
  pub accepted : All (AcceptedRule arity) all
  pub few_rules : rules_in s ≤ 64
  pub listed : TestsOf all numbers s
  pub turns : Turns s order
  pub asked : (t : ℕ) → t < length (sheet_tests all) → Mem t order
  pub no_rows : (k : ℕ) → 68 ≤ k → k < 196 → get_or s k 0 ≡ 0
  pub room : part_at (rules_in s) (place_tests_in s) ≤ length c
  pub no_cuts : (k : ℕ) → get_or c k 0 ≡ 0

-- Tables and cuts are those of the rules.
pub record Compiled (all : List Patterns) (order s c : List ℕ) : Type 0 where
  pub tables_are : TablesOf all order s
  pub cuts_are : CutsOf all c
  pub parted : Parted (length all) (place_tests_in s) c
