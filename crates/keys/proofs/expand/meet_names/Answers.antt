-- `expand::meet_names` meets its contract. The loop's invariant: the cases from case k on are still to come.
use mathlib.Core.Path.{ap, ◌∙◌}
use mathlib.Core.List.{map}
use native.Mathlib.Omega.{arith}
use lib.ListN.{length}
use Rattle.decision.specs.Key.{Key}
use Rattle.cuts.specs.views.Runs.{run_at}
use Rattle.cuts.proofs.CaseRuns.{from_first_lem, from_some, from_none}
use Rattle.edges.specs.views.NodeIn.{run_edge}
use Rattle.met.specs.views.KeysMet.{meet, keys_in}
use Rattle.keys.proofs.EdgesInTurn.{cases_start, cases_next, cases_many, cases_end}
use Rattle.keys.proofs.expand.meet_names.Goals as goal

pub loop-k-init : goal.loop-k-init
loop-k-init c =
    let a = c.args in (
      omega arith,
      c.requires.0,
      cases_start (ap (map (run_edge a.s.now a.asked)) (from_first_lem a.runs.now a.count)) a.keys.now,
    )

pub meet-requires : goal.meet-requires
meet-requires c = c.loop-k.invariant.1

pub returns-then-meet-ge1024 : goal.returns-then-meet-ge1024
returns-then-meet-ge1024 c =
    let at = c.loop-k in
    let test = c.loop-k-test.true in
    let a = c.args in
    let behind = c.by_run.ensures in
    let met = c.meet.ensures in record {
      cases_met = cases_many (run_edge a.s.now a.asked (run_at a.runs.now at.k))
          (ap (map (run_edge a.s.now a.asked)) (from_some a.runs.now a.count at.k test)) at.invariant.2
          (omega (arith, met.t_after.1 c.if-meet-ge1024.true, ap (λ (key : Key). length (meet (keys_in at.keys) key)) behind));
      chained = (met.chained, tt);
    }

pub overflow_add-bytes : goal.overflow_add-bytes
overflow_add-bytes c =
    let at = c.loop-k in
    omega (arith, at.invariant.0, c.case_length-bytes.ensures.1)

pub loop-k-preserved : goal.loop-k-preserved
loop-k-preserved c =
    let at = c.loop-k in
    let test = c.loop-k-test.true in
    let a = c.args in
    let behind = c.by_run.ensures in
    let met = c.meet.ensures in (
      omega (arith, at.invariant.0, c.case_length-bytes.ensures.1),
      met.chained,
      cases_next (run_edge a.s.now a.asked (run_at a.runs.now at.k))
          (ap (map (run_edge a.s.now a.asked)) (from_some a.runs.now a.count at.k test)) at.invariant.2
          (met.t_after.0 c.if-meet-ge1024.false ∙ ap (λ (key : Key). meet (keys_in at.keys) key) behind)
          (c.case_length-bytes.ensures.0 _),
    )

pub returns : goal.returns
returns c =
    let at = c.loop-k in
    let a = c.args in record {
      cases_met = cases_end
          (ap (map (run_edge a.s.now a.asked)) (from_none a.runs.now a.count at.k c.loop-k-test.false))
          at.invariant.2;
      chained = (at.invariant.1, omega (arith, at.invariant.0));
    }
