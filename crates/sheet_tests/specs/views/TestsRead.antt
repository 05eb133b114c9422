-- The tests of a sheet as reading it leaves them: the places in a set, the pairs in a list of codes.
use Rattle.std.specs.Prelude.{ℕ, ◌+◌, ◌≤◌, ◌≡◌, List, [], ◌++◌, map, length, take, Result, Ok, Err}
use Rattle.records.specs.Reading.{Reading, took, refused}
use Rattle.records.specs.Refusals.{number}
use Rattle.records.specs.declared.refusal.Refusal.{Refusal}
use Rattle.sheet.specs.Sheet.{Sheet}
use Rattle.sheet_tests.specs.SheetTests.{Test, place, sheet_tests}
use Rattle.sheet_tests.specs.views.TestedPlaces.{places_in}
use Rattle.sheet_tests.specs.views.KeptPairs.{code_pair}
use Rattle.sheet_tests.specs.CheckSheet.{SheetValues, most_tests}
use Rattle.sheet_tests.specs.declared.TestsRead.{TestsRead}

-- The tests that the arrays hold: the places of the set, then the pairs of the first so many codes.
abbrev pub kept_tests : List ℕ → List ℕ → ℕ → List Test
kept_tests words codes count = map place (places_in words) ++ map code_pair (take count codes)

-- A sheet's arity, the number of its rules, and its tests; beside a refusal's number none of them.
pub record TestsFound : Type 0 where
  pub refusal : ℕ
  pub arity : ℕ
  pub rules : ℕ
  pub tests : List Test

-- What was read, the tests as the arrays hold them.
abbrev pub tests_found : List ℕ → List ℕ → Result TestsRead Refusal → TestsFound
tests_found words codes (Ok x) =
    record { refusal = 0; arity = x.arity; rules = x.rules; tests = kept_tests words codes x.pairs }
tests_found words codes (Err r) = record { refusal = number r; arity = 0; rules = 0; tests = [] }

-- What the sheet has.
abbrev pub sheet_found : Reading Sheet → TestsFound
sheet_found (took k sheet) =
    record { refusal = 0; arity = sheet.arity; rules = length sheet.rules; tests = sheet_tests sheet.rules }
sheet_found (refused q) = record { refusal = q; arity = 0; rules = 0; tests = [] }

-- A check of a sheet says how many tests there are.
abbrev pub found_values : TestsFound → SheetValues
found_values f = record { refusal = f.refusal; arity = f.arity; rules = f.rules; tests = length f.tests }

-- So many places are in the set, and there are at most 64 tests.
abbrev pub CountsTests : List ℕ → Result TestsRead Refusal → Type 0
CountsTests words (Ok x) = (x.places ≡ length (places_in words)) × (x.places + x.pairs ≤ most_tests)
CountsTests words (Err r) = Unit

-- The arrays keep their entries.
pub record Held (words codes : List ℕ) (r : Result TestsRead Refusal) : Type 0 where
  pub all_words : length words ≡ 11
  pub all_codes : length codes ≡ 65
  pub counted : CountsTests words r
