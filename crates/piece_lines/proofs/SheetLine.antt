-- What the line of a sheet says, from what is known of it; and that a built graph is opened.
use Prim.Native.Nat.{ℕ}
use mathlib.Core.Path.{◌≡◌, sym, ap, ◌∙◌}
use mathlib.Core.List.{List}
use native.Mathlib.Omega.{arith}
use lib.ListN.{length, length-map}
use Rattle.records.specs.Reading.{refused}
use Rattle.sheet_tests.specs.CheckSheet.{SheetValues, accept_sheet, sheet_values}
use Rattle.graph_check.specs.CheckGraph.{graph_reading}
use Rattle.piece_lines.specs.views.GraphFor.{GraphFor}
use Rattle.tables.specs.views.Planes.{tests_in}
use Rattle.rule_masks.specs.views.TestNumbers.{code_test}
use Rattle.rule_masks.specs.views.Kept.{listed_codes}
use Rattle.rule_masks.proofs.CodeNumbers.{listed_length}
use Rattle.walk.specs.views.Ready.{AcceptedKept}

-- Arity, rules and tests of a sheet that was accepted and whose tests are listed.
pub Known-values
    : {s kept : List ℕ} {arity rules tests : ℕ} → AcceptedKept s kept arity rules → tests ≡ tests_in kept
    → ◌≡◌ {A = SheetValues} (record { refusal = 0; arity = arity; rules = rules; tests = tests }) (sheet_values (accept_sheet s))
Known-values {kept = kept} t counted =
    let listed = length-map (listed_codes kept) code_test ∙ listed_length kept t.counted in
    let tests = counted ∙ sym listed ∙ ap length t.tests in
    (λ i. record { refusal = 0; arity = sym t.read.arity_is i; rules = sym t.count_is i; tests = tests i })
    ∙ sym (ap sheet_values t.read.accepted)

-- A graph that the check accepts is not refused.
pub graph_opened : {s g : List ℕ} {nodes q : ℕ} → GraphFor s g nodes → graph_reading s g ≡ refused q → ⊥
graph_opened f e = let no = sym e ∙ f.read in let z : ◌≡◌ {A = ℕ} 0 1 = cc in omega arith
