-- A case is told by its lowest and its highest code.
use Prim.Native.Nat.{◌/◌, ◌%◌}
use mathlib.Core.Path.{◌≡◌}
use mathlib.Core.List.{List}
use native.Mathlib.Omega.{arith}
use borrow.Author.Tests.{lt-ltb, le-ltb}
use Rattle.basics.specs.Lists.{All}
use Rattle.basics.proofs.ListLaws.{all_map}
use Rattle.terms.specs.RuleTests.{Want}
use Rattle.decision.specs.Cases.{Case, symbols_case, compound_case, numbers_case, cases_of}
use Rattle.decision.specs.AcceptedGraph.{CaseFields}
use Rattle.decision.proofs.cases.CasesAccepted.{cases_fields}
use Rattle.codes.specs.views.Codes.{SoundWant, symbol_code, compound_code, number_code}
use Rattle.decision.specs.views.CaseCodes.{case_low, case_high}
use Rattle.cuts.specs.views.Runs.{run_case}

case_told : (c : Case) → CaseFields c → run_case (case_low c) (case_high c) ≡ c
case_told (symbols_case l h) f =
    let d : symbol_code l % 0x1_0000 ≡ l = omega (arith, f.0) in
    let e : symbol_code h % 0x1_0000 ≡ h = omega (arith, f.1) in
    rw (lt-ltb (symbol_code l) 0x200_0000 (omega (arith, f.0)), d, e)
case_told (compound_case a n) f =
    let code = compound_code a n in
    let d : code / 256 % 0x1_0000 ≡ a = omega (arith, f.0, f.1) in
    let e : code % 256 ≡ n = omega (arith, f.1) in
    rw (le-ltb code 0x200_0000 (omega arith), lt-ltb code 0x300_0000 (omega (arith, f.0, f.1)), d, e)
case_told (numbers_case l h) f =
    let d : number_code l % 0x100_0000 ≡ l = omega (arith, f.0) in
    let e : number_code h % 0x100_0000 ≡ h = omega (arith, f.1) in
    rw (le-ltb (number_code l) 0x200_0000 (omega arith), le-ltb (number_code l) 0x300_0000 (omega arith), d, e)

-- The case of the codes of a case is this case.
pub case_of_run : (ws : List Want) → All SoundWant ws → All (λ (c : Case). run_case (case_low c) (case_high c) ≡ c) (cases_of ws)
case_of_run ws sound =
    all_map CaseFields (λ (c : Case). run_case (case_low c) (case_high c) ≡ c) case_told (cases_of ws)
    (cases_fields ws sound)
