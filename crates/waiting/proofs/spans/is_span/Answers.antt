-- `waiting::spans::is_span` meets its contract: an unknown, or a run that goes on or not.
use Prim.Native.Nat.{◌/◌}
use mathlib.Core.Bool.{Bool, false, cond}
use mathlib.Core.Path.{sym, ap}
use borrow.Author.Tests.{eq-eqb, ne_eqb}
use lib.ListN.{get_or}
use lib.Dec.{leb}
use Rattle.codes.specs.views.Codes.{unknown_run}
use Rattle.waiting.proofs.spans.is_span.Goals as goal

pub returns-then-run-eq-UNKNOWN : goal.returns-then-run-eq-UNKNOWN
returns-then-run-eq-UNKNOWN c =
    let run = get_or c.args.cells.now (c.args.code / 0x1_0000) 0 in
    sym (ap (λ (b : Bool). cond b false (leb 0x100000000 run)) (eq-eqb run unknown_run c.if-run-eq-UNKNOWN.true))

pub returns : goal.returns
returns c =
    let run = get_or c.args.cells.now (c.args.code / 0x1_0000) 0 in
    sym (ap (λ (b : Bool). cond b false (leb 0x100000000 run)) (ne_eqb run unknown_run c.if-run-eq-UNKNOWN.false))
