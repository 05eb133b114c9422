-- A loop over the pairs: those passed are written down.
use Prim.Native.Nat.{◌+◌}
use mathlib.Core.Path.{◌≡◌, refl, sym, ◌∙◌}
use native.Mathlib.Omega.{arith}
use lib.ListN.{length, take}
use lib.Seq.{length-take-le, get_or-take}
use Rattle.test_list.proofs.PutLists.{putting_start, putting_turn, putting_done}
use Rattle.test_list.proofs.tests.put_pairs.Goals as goal

pub loop-t-init : goal.loop-t-init
loop-t-init c = putting_start (4 + c.args.count) (take c.args.pairs c.args.codes.now) c.args.s.now

pub bounds-s-count : goal.bounds-s-count
bounds-s-count c = omega (arith, c.loop-t.invariant.entries)

pub loop-t-preserved : goal.loop-t-preserved
loop-t-preserved c =
    let turn = c.loop-t in
    let a = c.args in
    let many : length (take a.pairs a.codes.now) ≡ a.pairs =
    length-take-le a.pairs a.codes.now (omega (arith, c.requires)) in
    putting_turn (4 + a.count) (take a.pairs a.codes.now) _ turn.s turn.t turn.invariant _ refl (omega arith)
    (sym (get_or-take a.pairs a.codes.now turn.t 0 (omega arith)))

pub returns : goal.returns
returns c =
    let turn = c.loop-t in
    let a = c.args in
    let many : length (take a.pairs a.codes.now) ≡ a.pairs =
    length-take-le a.pairs a.codes.now (omega (arith, c.requires)) in
    putting_done (4 + a.count) (take a.pairs a.codes.now) _ turn.s turn.t turn.invariant (omega arith)
