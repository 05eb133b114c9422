-- What the check of a sheet says (document 01, "Questions at the counter", 1 to 11).
use Rattle.std.specs.Prelude.{ℕ, ◌≤◌, List, leb, length, Result, Ok, Err}
use Rattle.records.specs.Reading.{Reading, took, refused, ask, and_then}
use Rattle.records.specs.Refusals.{number}
use Rattle.records.specs.declared.refusal.Refusal.{Refusal}
use Rattle.sheet.specs.Sheet.{Sheet, SoundSheet}
use Rattle.sheet.specs.ReadSheet.{read_header_up_to, after_header, read_sheet}
use Rattle.sheet_tests.specs.SheetTests.{sheet_tests}
use Rattle.sheet_tests.specs.declared.SheetSizes.{SheetSizes}

-- "11 Are there at most 64 tests?"
abbrev pub most_tests : ℕ
most_tests = 64

abbrev pub ask_tests : Reading Sheet → Reading Sheet
ask_tests read = and_then read (λ a sheet. ask 11 (leb (length (sheet_tests sheet.rules)) most_tests) (took a sheet))

-- How bytes are read as a sheet, all questions of the sheet asked.
unfoldable pub accept_sheet : List ℕ → Reading Sheet
accept_sheet s = ask_tests (read_sheet s)

-- The same of a sheet that may have so many rules.
abbrev pub accept_up_to : ℕ → List ℕ → Reading Sheet
accept_up_to most s = ask_tests (after_header (read_header_up_to most s) s)

-- "A sheet .. is accepted when none of its own questions gets a no."
pub record AcceptedSheet (sheet : Sheet) : Type 0 where
  pub sound : SoundSheet sheet
  pub few_tests : length (sheet_tests sheet.rules) ≤ most_tests

-- "When accepted, a sheet check gives arity, rules and tests"; "every other result field is then 0" beside a refusal's number.
pub record SheetValues : Type 0 where
  pub refusal : ℕ
  pub arity : ℕ
  pub rules : ℕ
  pub tests : ℕ

abbrev pub sheet_check_values : Result SheetSizes Refusal → SheetValues
sheet_check_values (Ok x) = record { refusal = 0; arity = x.arity; rules = x.rules; tests = x.tests }
sheet_check_values (Err r) = record { refusal = number r; arity = 0; rules = 0; tests = 0 }

abbrev pub sheet_values : Reading Sheet → SheetValues
sheet_values (took k sheet) =
    record { refusal = 0; arity = sheet.arity; rules = length sheet.rules; tests = length (sheet_tests sheet.rules) }
sheet_values (refused q) = record { refusal = q; arity = 0; rules = 0; tests = 0 }
