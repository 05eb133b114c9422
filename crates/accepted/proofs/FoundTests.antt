-- What reading the tests of a sheet tells of it.
use Prim.Native.Nat.{ℕ}
use mathlib.Core.Path.{◌≡◌, sym, ap, ◌∙◌}
use mathlib.Core.List.{List}
use lib.ListN.{length}
use Rattle.std.specs.Prelude.{Result, Ok, Err}
use Rattle.records.specs.Reading.{refused}
use Rattle.records.specs.Refusals.{number}
use Rattle.records.specs.declared.refusal.Refusal.{Refusal}
use Rattle.sheet_tests.specs.declared.TestsRead.{TestsRead}
use Rattle.sheet_tests.specs.CheckSheet.{accept_sheet}
use Rattle.sheet_tests.specs.views.TestsRead.{TestsFound, kept_tests, tests_found, sheet_found, found_values}
use Rattle.sheet_tests.proofs.Checking.{values_found}
use Rattle.accepted.specs.views.AcceptedAs.{AcceptedTests}
use Rattle.accepted.proofs.CheckedSheets.{check_accepts, check_refuses}

module _ (s words codes : List ℕ) {r : Result TestsRead Refusal}
    (found : tests_found words codes r ≡ sheet_found (accept_sheet s)) where
  -- Where the tests were read the sheet is accepted, and the tests are its own,
  pub found_accepts
      : {t : TestsRead} → r ≡ Ok t → AcceptedTests s words codes t.arity t.rules t.pairs
  found_accepts {t} same =
      let e = sym (ap (tests_found words codes) same) ∙ found in
      let read =
      check_accepts s (record { arity = t.arity; rules = t.rules; tests = length (kept_tests words codes t.pairs) })
      (ap found_values e ∙ values_found (accept_sheet s)) in
      let known = e ∙ ap sheet_found read.accepted in
      record {
        read = read;
        count_is = sym (ap (λ (x : TestsFound). x.rules) known);
        tests = sym (ap (λ (x : TestsFound). x.tests) known);
      }

  -- and where reading was refused so is the sheet.
  pub found_refuses : {x : Refusal} → r ≡ Err x → accept_sheet s ≡ refused (number x)
  found_refuses {x} same =
      check_refuses s x
      (ap found_values (sym (ap (tests_found words codes) same) ∙ found) ∙ values_found (accept_sheet s))
