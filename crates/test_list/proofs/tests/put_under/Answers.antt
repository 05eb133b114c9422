-- A loop over the place tests: what an unknown at those passed settles is written down.
use Prim.Native.Nat.{ℕ, ◌<◌}
use mathlib.Core.Path.{◌≡◌, refl, sym, ap, ◌∙◌}
use mathlib.Core.List.{List}
use native.Mathlib.Omega.{arith}
use lib.ListN.{length, get_or, length-map}
use Rattle.basics.specs.Lists.{count_from}
use Rattle.basics.proofs.Counting.{count_length}
use Rattle.tables.specs.views.Planes.{place_tests_in}
use Rattle.test_list.specs.views.Tests.{settled_below, under_put}
use Rattle.test_list.proofs.PutLists.{putting_start, putting_turn, putting_done, row_at}
use Rattle.test_list.proofs.SameTests.{same_counted, same_settled}
use Rattle.test_list.proofs.tests.put_under.Invariants.{sets}
use Rattle.test_list.proofs.tests.put_under.Goals as goal

many : (s : List ℕ) → length (sets s) ≡ place_tests_in s
many s = length-map (count_from 0 (place_tests_in s)) (settled_below s) ∙ count_length 0 (place_tests_in s)

pub loop-t-init : goal.loop-t-init
loop-t-init c = putting_start 196 (sets c.args.s.now) c.args.s.now

pub settled-requires : goal.settled-requires
settled-requires c =
    let turn = c.loop-t in
    let s = c.args.s.now in
    let counted = same_counted s turn.s turn.invariant.entries (λ k h. turn.invariant.below k (omega arith)) c.requires in
    (counted, omega (arith, c.place_tests-count.ensures, turn.invariant.below 2 (omega arith)))

pub overflow_add-s : goal.overflow_add-s
overflow_add-s c =
    let pre = c.requires in
    omega (arith, c.place_tests-count.ensures, pre.places, pre.few)

pub offset_bounds-s-t : goal.offset_bounds-s-t
offset_bounds-s-t c =
    let pre = c.requires in
    omega (arith, c.place_tests-count.ensures, pre.places, pre.few)

pub bounds-s-t : goal.bounds-s-t
bounds-s-t c =
    let pre = c.requires in
    omega (arith, c.place_tests-count.ensures, pre.places, pre.few, c.loop-t.invariant.entries, pre.entries)

pub loop-t-preserved : goal.loop-t-preserved
loop-t-preserved c =
    let turn = c.loop-t in
    let s = c.args.s.now in
    let pre = c.requires in
    let count = c.place_tests-count.ensures in
    let inside : turn.t < place_tests_in s = omega (arith, count) in
    let same : (k : ℕ) → k < 68 → get_or turn.s k 0 ≡ get_or s k 0 = λ k h. turn.invariant.below k (omega arith) in
    putting_turn 196 (sets s) s turn.s turn.t turn.invariant _ refl (omega (arith, many s))
    (c.settled.ensures
    ∙ same_settled s turn.s turn.invariant.entries same pre turn.t (omega (arith, pre.places, pre.few))
    ∙ sym (row_at (settled_below s) 0 0 (place_tests_in s) turn.t inside ∙ ap (settled_below s) (omega arith)))

pub returns : goal.returns
unfolding under_put
returns c =
    let s = c.args.s.now in
    let turn = c.loop-t in
    putting_done 196 (sets s) s turn.s turn.t turn.invariant (omega (arith, many s, c.place_tests-count.ensures))
