-- A loop over the listed places: those passed have their numbers.
use Prim.Native.Nat.{ℕ, ◌+◌}
use mathlib.Core.Path.{refl, sym, ap, ◌∙◌}
use native.Mathlib.Omega.{arith}
use lib.ListN.{length, take, drop, set, length-set}
use Rattle.test_list.specs.views.Numbers.{number_all}
use Rattle.test_list.proofs.PlaceNumbers.{number_turn, number_skip, number_end}
use Rattle.test_list.proofs.numbers.number_places.Goals as goal
use Rattle.test_list.proofs.numbers.number_places.Goals.{then-place-lt680, else-place-lt680}

pub loop-t-init : goal.loop-t-init
loop-t-init c = (c.requires.2, refl)

pub loop-t-preserved : goal.loop-t-preserved
loop-t-preserved c =
    let turn = c.loop-t in
    let places = c.args.places.now in
    let count = c.args.count in
    let t = c.loop-t.t in
    let numbers = c.loop-t.numbers in
    elim c.if-place-lt680.branch [
      | then-place-lt680 w ↦ (
        ap length w.numbers-is ∙ length-set numbers _ t ∙ turn.invariant.0,
        ap (number_all (drop (t + 1) (take count places)) (t + 1)) w.numbers-is
            ∙ number_turn places count t (omega arith) (omega arith) numbers
            ∙ turn.invariant.1,
      )
      | else-place-lt680 w ↦ (
        ap length w.numbers-is ∙ turn.invariant.0,
        ap (number_all (drop (t + 1) (take count places)) (t + 1)) w.numbers-is
            ∙ number_skip places count t (omega arith) (omega arith) numbers (omega (arith, w.if-place-lt680.false, turn.invariant.0))
            ∙ turn.invariant.1,
      )
    ]

pub returns : goal.returns
returns c =
    let turn = c.loop-t in
    sym (number_end c.args.places.now c.args.count turn.t (omega arith) (omega arith) turn.numbers)
    ∙ turn.invariant.1
