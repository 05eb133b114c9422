-- `node::put_runs` meets its contract: the runs that are cases by themselves, and the pairs behind them.
use native.Mathlib.Omega.{arith}
use Rattle.cuts.specs.views.Runs.{runs_in}
use Rattle.cuts.specs.views.CaseRuns.{gauge_pairs, runs_from}
use Rattle.met.specs.views.KeysMet.{keys_in}
use Rattle.emit.specs.views.Laid.{run_bytes}
use Rattle.emit.proofs.WritingOn.{first_room, second_room, both_wrote}
use Rattle.emit.proofs.InTurn.{cases_bytes_lem}
use Rattle.emit.proofs.node.put_runs.Goals as goal

pub put_names-at-requires : goal.put_names-at-requires
put_names-at-requires c =
    let a = c.args in
    let s = c.args.s.now in
    let keys = keys_in a.keys.now in
    let runs = c.args.runs.now in
    let count = c.args.framed.count in
    let names = c.args.framed.names in
    let first = run_bytes s keys a.asked (runs_in runs names) in
    let second = run_bytes s keys a.asked (gauge_pairs (runs_from runs count names)) in
    let joined = cases_bytes_lem s keys a.asked runs count names c.requires.1 in
    let room = first_room a.buf.now a.start first second joined c.requires.4 in
    (c.requires.0, omega (arith, c.requires.1, c.requires.2), room)

pub put_gauges-requires : goal.put_gauges-requires
put_gauges-requires c =
    let a = c.args in
    let s = c.args.s.now in
    let keys = keys_in a.keys.now in
    let runs = c.args.runs.now in
    let count = c.args.framed.count in
    let names = c.args.framed.names in
    let first = run_bytes s keys a.asked (runs_in runs names) in
    let second = run_bytes s keys a.asked (gauge_pairs (runs_from runs count names)) in
    let joined = cases_bytes_lem s keys a.asked runs count names c.requires.1 in
    let names-put = c.put_names-at.ensures in
    let room = second_room a.buf.now a.start first second joined c.requires.4 names-put in
    (c.requires.0, c.requires.1, c.requires.2, c.requires.3, room)

pub returns : goal.returns
returns c =
    let a = c.args in
    let s = c.args.s.now in
    let keys = keys_in a.keys.now in
    let runs = c.args.runs.now in
    let count = c.args.framed.count in
    let names = c.args.framed.names in
    let first = run_bytes s keys a.asked (runs_in runs names) in
    let second = run_bytes s keys a.asked (gauge_pairs (runs_from runs count names)) in
    let joined = cases_bytes_lem s keys a.asked runs count names c.requires.1 in
    let names-put = c.put_names-at.ensures in
    both_wrote a.buf.now a.start first second joined c.requires.4 names-put c.put_gauges.ensures
