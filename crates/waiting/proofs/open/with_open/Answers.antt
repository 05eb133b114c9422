-- `waiting::open::with_open` meets its contract: the test is not known, or known.
use mathlib.Core.Bool.{Bool}
use mathlib.Core.Path.{sym, ap, ◌∙◌}
use native.Mathlib.Omega.{arith}
use Rattle.rule_masks.specs.views.TestNumbers.{test_number, code_test, with_if}
use Rattle.rule_masks.specs.views.Kept.{listed_tests}
use Rattle.rule_masks.proofs.Numbers.{number_there}
use Rattle.rule_masks.proofs.CodeNumbers.{listed_few}
use Rattle.waiting.proofs.open.with_open.Goals as goal

pub is_open-requires : goal.is_open-requires
is_open-requires c = (c.requires.1.0, c.requires.2)

pub test_number-requires : goal.test_number-requires
test_number-requires c = c.requires.0.counted

pub insert-requires : goal.insert-requires
insert-requires c =
    let kept = c.args.kept.now in
    let tests = listed_tests kept in
    omega (arith, c.test_number.ensures, number_there (code_test c.args.code) tests c.requires.1.1, listed_few kept c.requires.0.counted)

pub returns-then-is_open : goal.returns-then-is_open
returns-then-is_open c = c.insert.ensures
    ∙ (λ i. with_if ((sym c.if-is_open.true ∙ c.is_open.ensures) i) c.args.set (c.test_number.ensures i))

pub returns : goal.returns
returns c =
    let a = c.args in
    ap (λ (b : Bool). with_if b a.set (test_number (listed_tests a.kept.now) (code_test a.code))) (sym c.if-is_open.false ∙ c.is_open.ensures)
