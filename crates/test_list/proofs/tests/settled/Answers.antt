-- A loop over the place tests from t on: of those passed, the settled ones are in the set.
use mathlib.Core.Path.{◌∙◌}
use native.Mathlib.Omega.{arith}
use Rattle.masks.proofs.Loops.{turn_yes, turn_no, turns_done}
use Rattle.tables.specs.views.Planes.{place_tests_in}
use Rattle.test_list.specs.views.Tests.{is_settled, settled_below}
use Rattle.test_list.proofs.SettledTests.{settled_start, settled_here}
use Rattle.test_list.proofs.tests.settled.Goals as goal
use Rattle.test_list.proofs.tests.settled.Goals.{then-is_inside, else-is_inside}

pub test-requires : goal.test-requires
test-requires c = omega (arith, c.requires.0.few, c.requires.0.places)

pub loop-u-init : goal.loop-u-init
loop-u-init c =
    (omega arith, omega arith, settled_start c.args.s.now c.args.t)

pub test-requires-in-loop-u : goal.test-requires-in-loop-u
test-requires-in-loop-u c =
    let pre = c.requires.0 in
    omega (arith, c.place_tests-count.ensures, pre.few, pre.places)

pub overflow_shl-all : goal.overflow_shl-all
overflow_shl-all c =
    let pre = c.requires.0 in
    omega (arith, c.place_tests-count.ensures, pre.few, pre.places)

pub loop-u-preserved : goal.loop-u-preserved
loop-u-preserved c =
    let turn = c.loop-u in
    let s = c.args.s.now in
    let t = c.args.t in
    let count = c.place_tests-count.ensures in
    let few = c.requires.0.few in
    let places = c.requires.0.places in
    let test =
    settled_here s t turn.u turn.invariant.0 c.test.ensures c.below_end-end.ensures c.test-in-loop-u.ensures
    c.is_inside.ensures in
    elim c.if-is_inside.branch [
      | then-is_inside w ↦ (
        omega arith,
        omega (arith, count),
        w.all-is ∙ turn_yes 64 turn.u (is_settled s t) turn.invariant.2 (omega (arith, count)) (test ∙ w.if-is_inside.true),
      )
      | else-is_inside w ↦ (
        omega arith,
        omega (arith, count),
        w.all-is ∙ turn_no turn.u (is_settled s t) turn.invariant.2 (test ∙ w.if-is_inside.false),
      )
    ]

pub returns : goal.returns
unfolding settled_below
returns c =
    let turn = c.loop-u in
    turns_done (place_tests_in c.args.s.now) turn.u (is_settled c.args.s.now c.args.t) turn.invariant.2
    (omega (arith, c.place_tests-count.ensures))
