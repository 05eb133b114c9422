-- Bytes are accepted as a sheet exactly when they spell an accepted sheet.
use Prim.Native.Nat.{ℕ, ◌≤◌}
use mathlib.Core.Path.{◌≡◌, refl, ap, ◌∙◌}
use mathlib.Core.Bool.{Bool, true, false}
use mathlib.Core.Logic.{◌↔◌}
use mathlib.Core.List.{List}
use native.Mathlib.Omega.{arith}
use lib.Dec.{leb}
use lib.ListN.{length}
use borrow.Author.Tests.{leb-true, le-leb}
use Rattle.records.specs.Fields.{AreBytes}
use Rattle.records.specs.Reading.{Reading, took, refused, ask}
use Rattle.sheet.specs.Sheet.{Sheet}
use Rattle.sheet.specs.ReadSheet.{read_sheet}
use Rattle.sheet.specs.WriteSheet.{sheet_bytes}
use Rattle.accepted.proofs.Spelled.{sheet_spelled_lem}
use Rattle.sheet_tests.specs.SheetTests.{sheet_tests}
use Rattle.sheet_tests.specs.CheckSheet.{most_tests, ask_tests, accept_sheet, AcceptedSheet}

-- What question 11 lets pass was read, and has at most 64 tests.
tests_asked
    : (x : Reading Sheet) {k : ℕ} {sheet : Sheet} → ask_tests x ≡ took k sheet
    → (x ≡ took k sheet) × (length (sheet_tests sheet.rules) ≤ most_tests)
tests_asked (took a y) {k} {sheet} e = go (leb (length (sheet_tests y.rules)) most_tests) refl e
  where
    go : (b : Bool) → leb (length (sheet_tests y.rules)) most_tests ≡ b → ask 11 b (took a y) ≡ took k sheet
        → (took a y ≡ took k sheet) × (length (sheet_tests sheet.rules) ≤ most_tests)
    go true d h =
        let same : y ≡ sheet = cc in
        let few = leb-true (length (sheet_tests y.rules)) most_tests d in
        (h, omega (arith, ap (λ (z : Sheet). length (sheet_tests z.rules)) same))
    go false d h = let z : ◌≡◌ {A = ℕ} 0 1 = cc in absurd (omega arith)
tests_asked (refused q) e = let z : ◌≡◌ {A = ℕ} 0 1 = cc in absurd (omega arith)

-- The theorem: both directions.
pub sheet_accepted_lem
    : (s : List ℕ) → AreBytes s → (k : ℕ) (sheet : Sheet)
    → (accept_sheet s ≡ took k sheet) ↔ (AcceptedSheet sheet × (sheet_bytes sheet ≡ s) × (k ≡ length s))
unfolding accept_sheet
sheet_accepted_lem s bytes k sheet = (forth, back)
  where
    forth : ask_tests (read_sheet s) ≡ took k sheet → AcceptedSheet sheet × (sheet_bytes sheet ≡ s) × (k ≡ length s)
    forth e =
        let (read, few) = tests_asked (read_sheet s) e in
        let known = (sheet_spelled_lem s bytes k sheet).0 read in
        (record { sound = known.0; few_tests = few }, known.1, known.2)

    back : AcceptedSheet sheet × (sheet_bytes sheet ≡ s) × (k ≡ length s) → ask_tests (read_sheet s) ≡ took k sheet
    back h =
        ap ask_tests ((sheet_spelled_lem s bytes k sheet).1 (h.0.sound, h.1, h.2))
        ∙ ap (λ (b : Bool). ask 11 b (took k sheet)) (le-leb (length (sheet_tests sheet.rules)) most_tests h.0.few_tests)
