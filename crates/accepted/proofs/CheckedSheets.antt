-- What the check of a sheet tells of how the sheet is read.
use Prim.Native.Nat.{ℕ}
use mathlib.Core.Path.{◌≡◌, refl, sym, ap, ◌∙◌}
use mathlib.Core.List.{List, [], ◌∷◌}
use native.Mathlib.Omega.{arith}
use lib.Dec.{leb}
use lib.ListN.{length, drop}
use Rattle.std.specs.Prelude.{Ok, Err}
use Rattle.records.specs.Fields.{AreBytes}
use Rattle.records.specs.Refusals.{number}
use Rattle.records.specs.declared.refusal.Refusal.{Refusal}
use Rattle.records.specs.Reading.{Reading, took, refused}
use Rattle.records.proofs.Questions.{ask_took}
use Rattle.records.proofs.Rows.{row_size}
use Rattle.basics.specs.Lists.{All}
use Rattle.terms.specs.Accepted.{AcceptedRule}
use Rattle.sheet.specs.Sheet.{Sheet}
use Rattle.sheet.specs.ReadSheet.{read_rule, read_rules, read_sheet}
use Rattle.sheet.proofs.SheetReads.{sheet_is}
use Rattle.sheet.proofs.ReadsSound.{sheet_sound}
use Rattle.sheet_tests.specs.declared.SheetSizes.{SheetSizes}
use Rattle.sheet_tests.specs.SheetTests.{sheet_tests}
use Rattle.sheet_tests.specs.CheckSheet.{SheetValues, most_tests, ask_tests, accept_sheet, sheet_check_values, sheet_values}
use Rattle.accepted.specs.views.AcceptedAs.{AcceptedAs}
use Rattle.accepted.proofs.Named.{Named}
use Rattle.accepted.proofs.Questions.{sheet_named}
use Rattle.accepted.specs.Questions.{SheetQuestion}

-- An accepted sheet was read before question 11.
pub accepted_read : (s : List ℕ) {k : ℕ} {sheet : Sheet} → accept_sheet s ≡ took k sheet → read_sheet s ≡ took k sheet
unfolding accept_sheet
accepted_read s {k} {sheet} e = go (read_sheet s) refl e
  where
    go : (r : Reading Sheet) → read_sheet s ≡ r → ask_tests r ≡ took k sheet → read_sheet s ≡ took k sheet
    go (took a x) d h = d ∙ (ask_took 11 (leb (length (sheet_tests x.rules)) most_tests) (took a x) h).1
    go (refused q) d h = let z : ◌≡◌ {A = ℕ} 0 1 = cc in absurd (omega arith)

module _ (s : List ℕ) where
  -- A check that accepts says that the sheet is accepted,
  pub check_accepts : (x : SheetSizes) → sheet_check_values (Ok x) ≡ sheet_values (accept_sheet s) → AcceptedAs s x.arity x.rules
  check_accepts x e = go (accept_sheet s) refl (sheet_named s) e
    where
      go
          : (r : Reading Sheet) → accept_sheet s ≡ r → Named SheetQuestion r → sheet_check_values (Ok x) ≡ sheet_values r
          → AcceptedAs s x.arity x.rules
      go (took k sheet) d h v =
          let is = sheet_is s (accepted_read s d) in
          let arity : sheet.arity ≡ x.arity = sym (ap (λ (y : SheetValues). y.arity) v) in
          let many = row_size [] ◌∷◌ (read_rule sheet.arity) length refl (λ rule rules. refl) is.count (drop 3 s) is.rules_read in
          let count : is.count ≡ x.rules = omega (arith, ap (λ (y : SheetValues). y.rules) v, many) in
          record {
            bytes = k;
            sheet = sheet;
            accepted = d;
            whole = is.header.whole;
            few = omega (arith, is.header.few_arguments, arity);
            arity_is = arity;
            rules_read = (λ j. read_rules (sym arity j) (sym count j) (drop 3 s)) ∙ is.rules_read;
          }
      go (refused q) d h v = absurd (omega (arith, h.0, ap (λ (y : SheetValues). y.refusal) v))

  -- and one that refuses that it is refused.
  pub check_refuses
      : (x : Refusal) → sheet_check_values (Err x) ≡ sheet_values (accept_sheet s) → accept_sheet s ≡ refused (number x)
  check_refuses x e = go (accept_sheet s) refl e
    where
      go
          : (r : Reading Sheet) → accept_sheet s ≡ r → sheet_check_values (Err x) ≡ sheet_values r
          → accept_sheet s ≡ refused (number x)
      go (took k sheet) d v =
          let is = sheet_is s (accepted_read s d) in
          absurd (omega (arith, is.header.some_argument, ap (λ (y : SheetValues). y.arity) v))
      go (refused k) d v = d ∙ ap refused (sym (ap (λ (y : SheetValues). y.refusal) v))

  -- The rules of an accepted sheet are accepted.
  pub accepted_rules_lem
      : {k : ℕ} {sheet : Sheet} → AreBytes s → accept_sheet s ≡ took k sheet → All (AcceptedRule sheet.arity) sheet.rules
  accepted_rules_lem bytes e = (sheet_sound s bytes (accepted_read s e)).accepted_rules
