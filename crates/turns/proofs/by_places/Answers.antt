-- A loop over the places: those passed have asked their tests.
use Prim.Native.Nat.{ℕ, ◌<◌}
use mathlib.Core.Path.{◌≡◌, refl, sym, ◌∙◌}
use mathlib.Core.List.{List}
use native.Mathlib.Omega.{arith}
use lib.ListN.{length, get_or}
use Rattle.basics.specs.Lists.{All}
use Rattle.basics.proofs.ListLaws.{all_at}
use Rattle.basics.proofs.Positions.{mem_at}
use Rattle.turns.specs.views.Turned.{with_asked}
use Rattle.turns.proofs.Turning.{turning_start, turning_asks, turning_stays, turning_done}
use Rattle.turns.proofs.by_places.Goals as goal
use Rattle.turns.proofs.by_places.Goals.{then-is_test_of, else-is_test_of}

-- Each place of the list is below 680.
place_inside : (places : List ℕ) → All (λ (p : ℕ). p < 680) places → (i : ℕ) → i < length places → {p : ℕ} → p ≡ get_or places i 0 → p < 680
place_inside places all i inside e = omega (arith, e, all_at (λ (p : ℕ). p < 680) (mem_at 0 places i inside) all)

pub loop-place-init : goal.loop-place-init
loop-place-init c = turning_start c.args.numbers.now c.args.places.now c.args.s.now

pub bounds-numbers-p : goal.bounds-numbers-p
bounds-numbers-p c =
    place_inside c.args.places.now c.requires.1 _ (omega arith) refl

pub is_test_of-requires : goal.is_test_of-requires
is_test_of-requires c =
    omega (arith, c.requires.3 (get_or c.args.places.now c.loop-place.place-index 0))

pub overflow_add-s : goal.overflow_add-s
overflow_add-s c = omega (arith, c.requires.3 (get_or c.args.places.now c.loop-place.place-index 0))

pub offset_bounds-s-t : goal.offset_bounds-s-t
offset_bounds-s-t c = omega (arith, c.requires.3 (get_or c.args.places.now c.loop-place.place-index 0))

pub bounds-s-t : goal.bounds-s-t
bounds-s-t c = omega (arith, c.requires.3 (get_or c.args.places.now c.loop-place.place-index 0))

pub insert-asked-requires : goal.insert-asked-requires
insert-asked-requires c = omega (arith, c.requires.3 (get_or c.args.places.now c.loop-place.place-index 0))

pub loop-place-preserved : goal.loop-place-preserved
unfolding with_asked
loop-place-preserved c =
    let turn = c.loop-place in
    let numbers = c.args.numbers.now in
    let places = c.args.places.now in
    let p = get_or places turn.place-index 0 in
    let t = get_or numbers p 0 in
    let short : turn.place-index < length places = omega arith in
    elim c.if-is_test_of.branch [
      | then-is_test_of w ↦
          turning_asks numbers places c.args.s.now turn.s turn.asked turn.place-index p t turn.invariant short
          refl refl
          (sym c.is_test_of.ensures ∙ w.if-is_test_of.true) w.s-is (w.asked-is ∙ w.insert-asked.ensures)
      | else-is_test_of w ↦
          turning_stays numbers places c.args.s.now turn.s turn.asked turn.place-index p t turn.invariant short
          refl refl
          (sym c.is_test_of.ensures ∙ w.if-is_test_of.false) w.s-is w.asked-is
    ]

pub returns : goal.returns
returns c =
    let turn = c.loop-place in
    turning_done c.args.numbers.now c.args.places.now c.args.s.now turn.s turn.asked turn.place-index
    turn.invariant (omega arith)
