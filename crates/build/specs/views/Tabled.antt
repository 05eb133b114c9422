-- What is known of a sheet on the way to its graph.
use Rattle.std.specs.Prelude.{ℕ, ◌≤◌, ◌<◌, ◌≡◌, List, map, length, get_or, set, replicate}
use Rattle.std.proofs.Math.Option.{Option, some, none}
use Rattle.basics.specs.Lists.{All, Mem, count_from}
use Rattle.records.specs.Reading.{took}
use Rattle.terms.specs.Pattern.{Patterns}
use Rattle.terms.specs.Accepted.{AcceptedRule}
use Rattle.sheet.specs.Sheet.{Sheet, most_rules}
use Rattle.sheet.specs.ReadSheet.{read_rules}
use Rattle.sheet_tests.specs.SheetTests.{sheet_tests}
use Rattle.sheet_tests.specs.CheckSheet.{AcceptedSheet}
use Rattle.sheet_tests.specs.views.TestsRead.{kept_tests}
use Rattle.decision.specs.Key.{Key}
use Rattle.decision.specs.Node.{Node}
use Rattle.tables.specs.views.Planes.{rules_in, tests_in}
use Rattle.tables.specs.views.Turns.{Turns}
use Rattle.test_list.specs.views.Tests.{put_all, tests_put, under_put}
use Rattle.rows.specs.views.TestsOf.{TestsOf}
use Rattle.turns.specs.views.Turned.{lower_tests}
use Rattle.keys.specs.views.Grown.{keys_from, nodes_from}

-- An accepted sheet of that arity and so many rules.
pub record SizedSheet (arity count : ℕ) (sheet : Sheet) : Type 0 where
  pub accepted : AcceptedSheet sheet
  pub arity_is : sheet.arity ≡ arity
  pub count_is : length sheet.rules ≡ count

-- Its rules follow the sheet's first record, and the arrays hold its tests.
pub record SheetHeld (s words codes : List ℕ) (arity count pairs : ℕ) (sheet : Sheet) : Type 0 where
  pub known : SizedSheet arity count sheet
  pub bytes : ℕ
  pub rules_read : read_rules arity count s ≡ took bytes sheet.rules
  pub tests : sheet_tests sheet.rules ≡ kept_tests words codes pairs

-- The tables of so many rules with these places and pairs, asked lowest first.
unfoldable pub tests_for : List ℕ → List ℕ → ℕ → List ℕ
tests_for places pairs rules =
    let s = under_put (tests_put places pairs (set (replicate 324 0) 0 rules)) in
    put_all 260 (map lower_tests (count_from 0 (tests_in s))) s

-- These accepted rules are read from the bytes; their tests are listed, and asked in this order; no rule is in the tables yet.
pub record ListedRules (arity : ℕ) (b numbers s order : List ℕ) (all : List Patterns) : Type 0 where
  pub arguments : arity ≤ 8
  pub bytes : ℕ
  pub read : read_rules arity (rules_in s) b ≡ took bytes all
  pub accepted : All (AcceptedRule arity) all
  pub few_rules : rules_in s ≤ most_rules
  pub listed : TestsOf all numbers s
  pub turns : Turns s order
  pub asked : (t : ℕ) → t < length (sheet_tests all) → Mem t order
  pub no_rows : (k : ℕ) → 68 ≤ k → k < 196 → get_or s k 0 ≡ 0

-- The nodes of the keys that are grown from tables and cuts; none if they are too many.
abbrev pub nodes_if : List ℕ → List ℕ → Option (List Key) → Option (List (Node ℕ))
nodes_if s c none = none
nodes_if s c (some keys) = some (nodes_from s c keys)

abbrev pub grown_in : List ℕ → List ℕ → Option (List (Node ℕ))
grown_in s c = nodes_if s c (keys_from s c)
