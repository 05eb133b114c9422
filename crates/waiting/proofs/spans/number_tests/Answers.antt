-- `waiting::spans::number_tests` meets its contract: the tests before the current one are numbered, the others as they were.
use Prim.Native.Nat.{ℕ, ◌<◌}
use mathlib.Core.List.{map}
use mathlib.Core.Path.{◌≡◌, sym, ap, ◌∙◌}
use native.Mathlib.Omega.{arith}
use lib.ListN.{length, take, get_or}
use Rattle.rule_masks.proofs.CodeNumbers.{listed_few}
use Rattle.rule_masks.specs.views.TestNumbers.{test_number, code_test}
use Rattle.rule_masks.specs.views.Kept.{listed_tests}
use Rattle.waiting.proofs.AlongTests.{number_most, changed_none, changed_more}
use Rattle.waiting.proofs.spans.number_tests.Goals as goal

pub loop-i-init : goal.loop-i-init
loop-i-init c =
    changed_none _ c.args.met.now

pub test_number-requires : goal.test_number-requires
test_number-requires c =
    c.requires.0

pub overflow_cast-met-in-loop-i : goal.overflow_cast-met-in-loop-i
overflow_cast-met-in-loop-i c =
    let kept = c.args.kept.now in
    let inside = number_most (listed_tests kept) (code_test (get_or c.loop-i.met c.loop-i.i 0)) in
    omega (arith, c.test_number.ensures, inside, listed_few kept c.requires.0)

pub loop-i-preserved : goal.loop-i-preserved
loop-i-preserved c =
    let a = c.args in
    let loop = c.loop-i in
    let f : ℕ → ℕ = λ k. test_number (listed_tests a.kept.now) (code_test k) in
    let inside : loop.i < length a.met.now =
    omega (arith, c.requires.1, c.requires.2) in
    changed_more f a.met.now loop.i loop.met loop.invariant inside c.test_number.result c.test_number.ensures

pub returns : goal.returns
returns c =
    let a = c.args in
    let inv = c.loop-i.invariant in
    let done : c.loop-i.i ≡ a.edges = omega arith in
    let f : ℕ → ℕ = λ k. test_number (listed_tests a.kept.now) (code_test k) in (
      (λ j. take (sym done j) c.loop-i.met) ∙ inv.changed ∙ (λ j. map f (take (done j) a.met.now)),
      omega (arith, inv.entries, c.requires.1),
    )
