-- How many rules a sheet may have (document 02, request 9): a sheet that has no more than a limit allows is read alike under every
-- higher one.
use Prim.Native.Nat.{ℕ, ◌≤◌}
use mathlib.Core.Path.{◌≡◌, refl, ap, sym, ◌∙◌}
use mathlib.Core.Bool.{Bool, true, false, ◌&&◌}
use mathlib.Core.List.{List}
use native.Mathlib.Omega.{arith}
use lib.Dec.{leb}
use borrow.Author.Tests.{leb-true, le-leb}
use Rattle.records.specs.Kinds.{record_length, begins_with}
use Rattle.records.specs.Fields.{byte_at}
use Rattle.records.specs.Reading.{Reading, took, refused, ask}
use Rattle.records.proofs.Rows.{ask_holds}
use Rattle.sheet.specs.Sheet.{Sheet, SheetHead, most_rules}
use Rattle.sheet.specs.ReadSheet.{read_header, after_header, read_sheet}
use Rattle.sheet_tests.specs.CheckSheet.{ask_tests, accept_sheet, accept_up_to}

-- Sheets are accepted so.
pub accepted_up_to : (s : List ℕ) → accept_sheet s ≡ accept_up_to most_rules s
unfolding accept_sheet read_sheet read_header
accepted_up_to s = refl

module _ (s : List ℕ) where
  -- What the first record says, if question 3 gets this answer.
  abbrev header_if : Bool → Reading SheetHead
  header_if few =
      ask 1 (begins_with 0x10 s)
      (ask 2 (leb 1 (byte_at s 1) && leb (byte_at s 1) 8)
      (ask 3 few (took (record_length 0x10) (record { arity = byte_at s 1; rule_count = byte_at s 2 }))))

  -- Nothing is accepted behind such a record.
  abbrev TakesNone : Reading SheetHead → Type 0
  TakesNone header = (k : ℕ) (sheet : Sheet) → ask_tests (after_header header s) ≡ took k sheet → ⊥

  refused_none : (q : ℕ) → TakesNone (refused q)
  refused_none q k sheet e = let z : ◌≡◌ {A = ℕ} 0 1 = cc in omega arith

  -- Where that is no, nothing is accepted.
  no_takes_none : TakesNone (header_if false)
  no_takes_none =
      ask_holds TakesNone 1 (begins_with 0x10 s) _ (refused_none 1)
      (λ first. ask_holds TakesNone 2 (leb 1 (byte_at s 1) && leb (byte_at s 1) 8) _ (refused_none 2)
      (λ second. refused_none 3))

  -- A sheet with at most so many rules gets the same answer, be it accepted or refused, where more are allowed.
  pub few_rules_alike : (most more : ℕ) → byte_at s 2 ≤ most → most ≤ more → accept_up_to most s ≡ accept_up_to more s
  few_rules_alike most more few h =
      ap (λ (b : Bool). ask_tests (after_header (header_if b) s))
      (le-leb (byte_at s 2) most few ∙ sym (le-leb (byte_at s 2) more (omega arith)))

  -- What is accepted where so many rules are allowed is accepted alike where more are.
  pub limit_only
      : (most more : ℕ) → most ≤ more → {k : ℕ} {sheet : Sheet} → accept_up_to most s ≡ took k sheet
      → accept_up_to more s ≡ took k sheet
  limit_only most more h {k} {sheet} e = go (leb (byte_at s 2) most) refl e
    where
      go : (b : Bool) → leb (byte_at s 2) most ≡ b → ask_tests (after_header (header_if b) s) ≡ took k sheet
          → accept_up_to more s ≡ took k sheet
      go true d t = sym (few_rules_alike most more (leb-true (byte_at s 2) most d) h) ∙ e
      go false d t = absurd (no_takes_none k sheet t)
