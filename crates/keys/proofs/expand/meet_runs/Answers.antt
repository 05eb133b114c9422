-- `expand::meet_runs` meets its contract: the keys behind the names are met, then those behind the pairs.
use mathlib.Core.List.{map}
use native.Mathlib.Omega.{arith}
use Rattle.cuts.specs.views.Runs.{runs_in}
use Rattle.edges.specs.views.NodeIn.{run_edge}
use Rattle.keys.proofs.EdgesInTurn.{bytes_most, first_many, then_many, both_met}
use Rattle.keys.proofs.RowsInTurn.{gauges_left, cases_both}
use Rattle.keys.proofs.expand.meet_runs.Goals as goal

pub returns-in_err-bytes-clause-cases_met : goal.returns-in_err-bytes-clause-cases_met
returns-in_err-bytes-clause-cases_met c =
    let a = c.args in
    let s = c.args.s.now in
    let runs = c.args.runs.now in
    let names = c.args.framed.names in
    let first = c.meet_names in
    rw c.from_residual.ensures
    (first_many (map (run_edge s a.asked) (runs_in runs names))
    (gauges_left s a.asked runs a.framed.count names)
    (cases_both s a.asked runs a.framed.count names c.requires.1) a.keys.now first.result
    first.new.keys first.ensures.cases_met c.in_err-bytes.was)

pub returns-in_err-more-clause-cases_met : goal.returns-in_err-more-clause-cases_met
returns-in_err-more-clause-cases_met c =
    let a = c.args in
    let s = c.args.s.now in
    let runs = c.args.runs.now in
    let names = c.args.framed.names in
    let first = c.meet_names in
    let some = c.in_ok-bytes.was in
    let second = c.meet_gauges in
    let many = c.in_err-more.was in
    rw c.from_residual-in_err-more.ensures
    (then_many (map (run_edge s a.asked) (runs_in runs names))
    (gauges_left s a.asked runs a.framed.count names)
    (cases_both s a.asked runs a.framed.count names c.requires.1) a.keys.now first.result
    first.new.keys first.ensures.cases_met some second.result second.new.keys
    second.ensures.cases_met many)

pub overflow_add-result : goal.overflow_add-result
overflow_add-result c =
    let first = c.meet_names in
    let few = bytes_most c.in_ok-bytes.was first.ensures.chained.1 in
    let more = bytes_most c.in_ok-more.was c.meet_gauges.ensures.chained.1 in
    omega (arith, few, more, c.requires.1, c.requires.2)

pub returns : goal.returns
returns c =
    let a = c.args in
    let s = c.args.s.now in
    let runs = c.args.runs.now in
    let names = c.args.framed.names in
    let first = c.meet_names in
    let some = c.in_ok-bytes.was in
    let second = c.meet_gauges in
    let others = c.in_ok-more.was in
    let few = bytes_most some first.ensures.chained.1 in
    let more = bytes_most others second.ensures.chained.1 in record {
      cases_met = both_met (map (run_edge s a.asked) (runs_in runs names))
          (gauges_left s a.asked runs a.framed.count names)
          (cases_both s a.asked runs a.framed.count names c.requires.1) a.keys.now first.result
          first.new.keys first.ensures.cases_met some second.result second.new.keys
          second.ensures.cases_met others;
      chained = (second.ensures.chained.0, omega (arith, few, more, c.requires.1, c.requires.2));
    }
