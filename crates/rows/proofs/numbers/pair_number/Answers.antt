-- A search: each pair passed comes before the pair.
use Prim.Native.Nat.{ℕ, ◌+◌, ◌-◌, ◌≤◌, ◌<◌}
use mathlib.Core.Path.{◌≡◌, sym, ap, ◌∙◌}
use native.Mathlib.Omega.{arith}
use lib.ListN.{length, get_or, drop, length-drop}
use lib.Seq.{get_or-drop}
use Rattle.pairs.specs.views.KeptPairs.{pair_code}
use Rattle.pairs.proofs.Slots.{slot_end, slot_found, slot_further}
use Rattle.tables.specs.views.Planes.{tests_in, place_tests_in}
use Rattle.rows.proofs.numbers.pair_number.Goals as goal

pub overflow_sub-pairs : goal.overflow_sub-pairs
overflow_sub-pairs c =
    omega (arith, c.tests.ensures, c.place_tests-count.ensures, c.requires.0.places)

pub loop-i-init : goal.loop-i-init
loop-i-init c = (omega arith, omega arith)

pub returns-then-code-test : goal.returns-then-code-test
returns-then-code-test c =
    let turn = c.loop-i in
    let s = c.args.s.now in
    let pre = c.requires.0 in
    let count = place_tests_in s in
    let l = drop (4 + count) s in
    let within : tests_in s - count ≤ length l = omega (arith, length-drop (4 + count) s, pre.entries, pre.few) in
    let code = pair_code c.args.p c.args.q in
    let first = c.place_tests-count.ensures in
    let inside : turn.i < tests_in s - count = omega (arith, first, c.tests.ensures) in
    let same : 4 + count + turn.i ≡ 4 + (c.place_tests-count.result + turn.i) = omega (arith, first) in
    let here : get_or l turn.i 0 ≡ c.test.result =
    get_or-drop (4 + count) s turn.i 0 ∙ ap (λ (k : ℕ). get_or s k 0) same ∙ sym c.test.ensures in
    let found = slot_found code l (tests_in s - count) turn.i within turn.invariant.1 inside (omega (arith, here, c.if-code-test.true)) in
    λ j. first j + found j

pub loop-i-preserved : goal.loop-i-preserved
loop-i-preserved c =
    let turn = c.loop-i in
    let s = c.args.s.now in
    let pre = c.requires.0 in
    let count = place_tests_in s in
    let l = drop (4 + count) s in
    let within : tests_in s - count ≤ length l = omega (arith, length-drop (4 + count) s, pre.entries, pre.few) in
    let code = pair_code c.args.p c.args.q in
    let first = c.place_tests-count.ensures in
    let inside : turn.i < tests_in s - count = omega (arith, first, c.tests.ensures) in
    let same : 4 + count + turn.i ≡ 4 + (c.place_tests-count.result + turn.i) = omega (arith, first) in
    let here : get_or l turn.i 0 ≡ c.test.result =
    get_or-drop (4 + count) s turn.i 0 ∙ ap (λ (k : ℕ). get_or s k 0) same ∙ sym c.test.ensures in (
      omega arith,
      slot_further code l (tests_in s - count) turn.i within turn.invariant.1 inside (omega (arith, here, c.if-code-test.false)),
    )

pub returns : goal.returns
returns c =
    let turn = c.loop-i in
    let s = c.args.s.now in
    let pre = c.requires.0 in
    let count = place_tests_in s in
    let l = drop (4 + count) s in
    let within : tests_in s - count ≤ length l = omega (arith, length-drop (4 + count) s, pre.entries, pre.few) in
    let code = pair_code c.args.p c.args.q in
    let first = c.place_tests-count.ensures in
    let past : tests_in s - count ≤ turn.i = omega (arith, first, c.tests.ensures) in
    let end = slot_end code l (tests_in s - count) turn.i within turn.invariant.1 past in
    omega (arith, first, end, c.tests.ensures)
