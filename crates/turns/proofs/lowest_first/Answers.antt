-- A loop over the tests: those passed have the lower ones before them.
use Prim.Native.Nat.{ℕ, ◌+◌}
use mathlib.Core.Path.{◌≡◌, refl, sym, ap, ◌∙◌}
use native.Mathlib.Omega.{arith}
use lib.ListN.{length, length-map}
use Rattle.basics.specs.Lists.{count_from}
use Rattle.basics.proofs.Counting.{count_length}
use Rattle.test_list.specs.views.Tests.{put_all}
use Rattle.test_list.proofs.PutLists.{putting_start, putting_turn, putting_done, row_at}
use Rattle.turns.specs.views.Turned.{lower_tests}
use Rattle.turns.proofs.lowest_first.Goals as goal
use Rattle.turns.proofs.lowest_first.Invariants.{lower}

many : (count : ℕ) → length (lower count) ≡ count
many count = length-map (count_from 0 count) lower_tests ∙ count_length 0 count

pub loop-t-init : goal.loop-t-init
loop-t-init c = putting_start 260 (lower c.tests-count.result) c.args.s.now

pub bounds-s-t : goal.bounds-s-t
bounds-s-t c = omega (arith, c.tests-count.ensures, c.requires.1)

pub loop-t-preserved : goal.loop-t-preserved
unfolding lower_tests
loop-t-preserved c =
    let turn = c.loop-t in
    let count = c.tests-count.result in
    let inside = c.loop-t-test.true in
    putting_turn 260 (lower count) _ turn.s turn.t turn.invariant _ refl (omega (arith, many count, inside))
    (c.full.ensures ∙ ap lower_tests (let z : turn.t ≡ 0 + turn.t = omega arith in z) ∙ sym (row_at lower_tests 0 0 count turn.t inside))

pub returns : goal.returns
returns c =
    let turn = c.loop-t in
    let count = c.tests-count.result in
    putting_done 260 (lower count) _ turn.s turn.t turn.invariant (omega (arith, many count, c.loop-t-test.false))
    ∙ ap (λ (n : ℕ). put_all 260 (lower n) c.args.s.now) c.tests-count.ensures
