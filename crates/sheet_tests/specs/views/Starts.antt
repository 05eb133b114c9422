-- Where the rules of a sheet begin, as reading it notes them.
use Rattle.std.specs.Prelude.{ℕ, zero, suc, ◌+◌, ◌≤◌, ◌<◌, ◌≡◌, List, length, get_or, drop, Result, Ok, Err}
use Rattle.records.specs.Reading.{Reading, took, refused}
use Rattle.records.specs.declared.refusal.Refusal.{Refusal}
use Rattle.sheet.specs.ReadSheet.{read_rule}
use Rattle.sheet_tests.specs.declared.Scan.{Scan}
use Rattle.sheet_tests.specs.declared.TestsRead.{TestsRead}
use Rattle.sheet_tests.specs.declared.SheetSizes.{SheetSizes}

-- So many bytes were read.
abbrev pub bytes_read : {A : Type 0} → Reading A → ℕ
bytes_read (took b x) = b
bytes_read (refused q) = 0

-- Rule i begins behind the rules before it.
abbrev pub rule_start : ℕ → List ℕ → ℕ → ℕ
rule_start arity s zero = 0
rule_start arity s (suc i) = rule_start arity s i + bytes_read (read_rule arity (drop (rule_start arity s i) s))

-- The first n entries say where the first n rules begin, which is within the bytes.
abbrev pub StartsIn : ℕ → List ℕ → List ℕ → ℕ → Type 0
StartsIn arity s starts n = (i : ℕ) → i < n → (get_or starts i 0 ≡ rule_start arity s i) × (get_or starts i 0 ≤ length s)

-- They say so of all rules, once these are read or the sheet is accepted: there are at most 64.
abbrev pub scan_starts : ℕ → List ℕ → List ℕ → ℕ → Result Scan Refusal → Type 0
scan_starts arity s starts n (Ok x) = StartsIn arity s starts n
scan_starts arity s starts n (Err r) = Unit

abbrev pub tests_starts : List ℕ → List ℕ → Result TestsRead Refusal → Type 0
tests_starts s starts (Ok x) = (x.rules ≤ 64) × StartsIn x.arity s starts x.rules
tests_starts s starts (Err r) = Unit

abbrev pub check_starts : List ℕ → List ℕ → Result SheetSizes Refusal → Type 0
check_starts s starts (Ok x) = (x.rules ≤ 64) × StartsIn x.arity s starts x.rules
check_starts s starts (Err r) = Unit
