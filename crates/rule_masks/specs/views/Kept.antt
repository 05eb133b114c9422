-- The tests that are listed in the tables that a walk is lent.
use Rattle.std.specs.Prelude.{ℕ, ◌+◌, ◌≤◌, ◌<◌, ◌≡◌, List, map, length, get_or, take, drop}
use Rattle.sheet_tests.specs.SheetTests.{Test}
use Rattle.sheet_tests.specs.views.TestedPlaces.{places_in}
use Rattle.tables.specs.views.Planes.{tests_in}
use Rattle.test_list.specs.views.Tests.{Counted}
use Rattle.rule_masks.specs.views.TestNumbers.{Once, code_test}

-- The arrays of a sheet's tests have their sizes, and hold 64 tests at most.
pub record Arrays (words codes : List ℕ) (pairs : ℕ) : Type 0 where
  pub all_words : length words ≡ 11
  pub all_codes : length codes ≡ 65
  pub few_tests : length (places_in words) + pairs ≤ 64

-- The codes of the tests that are listed in tables, and the tests.
abbrev pub listed_codes : List ℕ → List ℕ
listed_codes kept = take (tests_in kept) (drop 4 kept)

abbrev pub listed_tests : List ℕ → List Test
listed_tests kept = map code_test (listed_codes kept)

-- At most 64 are listed, each once.
pub record Listed (kept : List ℕ) : Type 0 where
  pub counted : Counted kept
  pub once : Once (listed_tests kept)

-- The counts and the tests of other tables are the same.
pub record TestsStay (kept others : List ℕ) : Type 0 where
  pub entries : length others ≡ 324
  pub same : (k : ℕ) → k < 68 → get_or others k 0 ≡ get_or kept k 0
