-- `rule_masks::number::test_number` meets its contract: what is left to search gives the same number.
use Prim.Native.Nat.{◌<◌}
use mathlib.Core.Path.{◌≡◌, sym, ◌∙◌}
use native.Mathlib.Omega.{arith}
use lib.ListN.{length}
use Rattle.tables.specs.views.Planes.{tests_in}
use Rattle.rule_masks.specs.views.Kept.{listed_codes}
use Rattle.rule_masks.proofs.CodeNumbers.{search_here, search_next, search_ends, listed_length, listed_at}
use Rattle.rule_masks.proofs.number.test_number.Goals as goal

pub loop-t-init : goal.loop-t-init
loop-t-init c = omega arith

pub test-requires : goal.test-requires
test-requires c =
    omega (arith, c.tests-tests.ensures, c.requires.few, c.loop-t-test.true)

pub returns-then-test-code : goal.returns-then-test-code
returns-then-test-code c =
    let kept = c.args.kept.now in
    let turn = c.loop-t in
    let more : turn.t < tests_in kept = omega (arith, c.tests-tests.ensures, c.loop-t-test.true) in
    let there = listed_at kept c.requires turn.t more ∙ sym c.test.ensures ∙ c.if-test-code.true in
    sym
    (turn.invariant
    ∙ sym
    (search_here (listed_codes kept) c.args.code turn.t (omega (arith, listed_length kept c.requires, more)) there))

pub loop-t-preserved : goal.loop-t-preserved
loop-t-preserved c =
    let kept = c.args.kept.now in
    let turn = c.loop-t in
    let more : turn.t < tests_in kept = omega (arith, c.tests-tests.ensures, c.loop-t-test.true) in
    let there = listed_at kept c.requires turn.t more ∙ sym c.test.ensures in
    turn.invariant
    ∙ search_next (listed_codes kept) c.args.code turn.t (omega (arith, listed_length kept c.requires, more))
    (λ e. c.if-test-code.false (sym there ∙ e))

pub returns : goal.returns
returns c =
    let kept = c.args.kept.now in
    let turn = c.loop-t in
    let size = listed_length kept c.requires in
    let done : length (listed_codes kept) ≡ turn.t = omega (arith, size, c.tests-tests.ensures, c.loop-t-test.false) in
    c.tests-tests.ensures
    ∙ sym size
    ∙ search_ends (listed_codes kept) c.args.code turn.t done
    ∙ sym turn.invariant
