-- The tests of a sheet's rules, as they are listed in its tables and numbered by their places.
use Rattle.std.specs.Prelude.{ℕ, ◌+◌, ◌≤◌, ◌<◌, ◌≡◌, List, ◌++◌, map, length, get_or, replicate}
use Rattle.terms.specs.Pattern.{Patterns}
use Rattle.sheet_tests.specs.SheetTests.{place, sheet_tests}
use Rattle.sheet_tests.specs.views.KeptPairs.{code_pair}
use Rattle.tables.specs.views.Planes.{rules_in, tests_in, place_tests_in, test_in, under_in}
use Rattle.test_list.specs.views.Numbers.{number_all}
use Rattle.test_list.specs.views.Tests.{Counted, spot_code, pairs_listed, settled_below}

-- The listed places and pairs.
pub record TestsOf (rules : List Patterns) (numbers s : List ℕ) : Type 0 where
  pub places : List ℕ
  pub pairs : List ℕ
  pub tests : sheet_tests rules ≡ map place places ++ map code_pair pairs
  pub few : length places + length pairs ≤ 64
  pub numbers_are : numbers ≡ number_all places 0 (replicate 680 0)
  pub counted : Counted s
  pub rules_are : rules_in s ≡ length rules
  pub tests_are : tests_in s ≡ length places + length pairs
  pub places_are : place_tests_in s ≡ length places
  pub place_is : (t : ℕ) → t < length places → test_in s t ≡ spot_code (get_or places t 0)
  pub pairs_are : pairs_listed s ≡ pairs
  pub under : (t : ℕ) → t < length places → under_in s t ≡ settled_below s t
