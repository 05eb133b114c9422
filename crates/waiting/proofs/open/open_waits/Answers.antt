-- `waiting::open::open_waits` meets its contract: a loop over the tests met that builds the set.
use Prim.Native.Nat.{ℕ}
use mathlib.Core.Path.{◌≡◌, ap, ◌∙◌}
use native.Mathlib.Omega.{arith}
use lib.ListN.{take}
use Rattle.rule_masks.specs.views.Kept.{listed_tests}
use Rattle.waiting.specs.views.OpenTests.{met_waits}
use Rattle.waiting.proofs.MetTests.{met_none, met_at_lem, met_turn}
use Rattle.waiting.proofs.open.open_waits.Goals as goal

pub loop-i-init : goal.loop-i-init
loop-i-init c =
    let a = c.args in
    let pre = c.requires in
    let cells = c.args.cells.now in
    let met = c.args.met.now in
    (met_none (listed_tests a.kept.now) cells)

pub with_open-set-requires : goal.with_open-set-requires
with_open-set-requires c =
    let a = c.args in
    let pre = c.requires in
    let cells = c.args.cells.now in
    let met = c.args.met.now in
    (pre.listed.0, met_at_lem a.kept.now pre.listed.0 cells met a.edges c.loop-i.i pre.all (omega arith) (omega (arith, pre.listed.1, pre.listed.2)), pre.listed.3)

pub loop-i-preserved : goal.loop-i-preserved
loop-i-preserved c =
    let a = c.args in
    let pre = c.requires in
    let cells = c.args.cells.now in
    let met = c.args.met.now in
    (c.with_open-set.ensures ∙ met_turn a.kept.now pre.listed.0 cells met a.edges c.loop-i.i pre.all (omega arith) (omega (arith, pre.listed.1, pre.listed.2)) c.loop-i.invariant)

pub returns : goal.returns
returns c =
    let a = c.args in
    let pre = c.requires in
    let cells = c.args.cells.now in
    let met = c.args.met.now in
    let done : c.loop-i.i ≡ a.edges = omega arith in
    c.loop-i.invariant ∙ ap (λ (n : ℕ). met_waits (listed_tests a.kept.now) cells (take n met)) done
