-- A loop over the listed places: those passed are written down.
use mathlib.Core.Path.{◌≡◌, refl, sym, ap, ◌∙◌}
use mathlib.Core.List.{map}
use native.Mathlib.Omega.{arith}
use lib.ListN.{length, take, length-map, get_or-map}
use lib.Seq.{length-take-le, get_or-take}
use Rattle.test_list.specs.views.Tests.{spot_code}
use Rattle.test_list.proofs.PutLists.{putting_start, putting_turn, putting_done}
use Rattle.test_list.proofs.tests.put_places.Goals as goal

pub loop-t-init : goal.loop-t-init
loop-t-init c =
    putting_start 4 (map spot_code (take c.args.count c.args.places.now)) c.args.s.now

pub overflow_add-s : goal.overflow_add-s
overflow_add-s c = omega arith

pub offset_bounds-s-t : goal.offset_bounds-s-t
offset_bounds-s-t c = omega arith

pub bounds-s-t : goal.bounds-s-t
bounds-s-t c = omega (arith, c.loop-t.invariant.entries)

pub loop-t-preserved : goal.loop-t-preserved
loop-t-preserved c =
    let turn = c.loop-t in
    let l = take c.args.count c.args.places.now in
    let many : length (map spot_code l) ≡ c.args.count =
    length-map l spot_code ∙ length-take-le c.args.count c.args.places.now (omega (arith, c.requires)) in
    putting_turn 4 (map spot_code l) _ turn.s turn.t turn.invariant _ refl (omega arith)
    (c.spot.ensures
    ∙ ap spot_code (sym (get_or-take c.args.count c.args.places.now turn.t 0 (omega arith)))
    ∙ sym (get_or-map spot_code l turn.t 0))

pub returns : goal.returns
returns c =
    let turn = c.loop-t in
    let l = take c.args.count c.args.places.now in
    let many : length (map spot_code l) ≡ c.args.count =
    length-map l spot_code ∙ length-take-le c.args.count c.args.places.now (omega (arith, c.requires)) in
    putting_done 4 (map spot_code l) _ turn.s turn.t turn.invariant (omega arith)
