-- `node::put_names` meets its contract. The loop's invariant: the cases from case k on are left to be written.
use Prim.Native.Nat.{◌+◌}
use mathlib.Core.Path.{refl, ap, ◌∙◌}
use native.Mathlib.Omega.{arith}
use Rattle.graph.specs.views.WriteNode.{case_record_bytes}
use Rattle.cuts.specs.views.Runs.{run_at, runs_in}
use Rattle.cuts.specs.views.CaseRuns.{runs_from}
use Rattle.cuts.proofs.CaseRuns.{from_first_lem, from_some, from_none}
use Rattle.met.specs.views.KeysMet.{key_number, keys_in}
use Rattle.emit.specs.views.Laid.{run_bytes}
use Rattle.emit.proofs.WritingOn.{left_start, left_room, left_next, left_end}
use Rattle.emit.proofs.AskedBytes.{case_next}
use Rattle.emit.proofs.node.put_names.Goals as goal

pub loop-k-init : goal.loop-k-init
loop-k-init c =
    let a = c.args in
    let s = c.args.s.now in
    let keys = keys_in a.keys.now in
    let runs = c.args.runs.now in (
      refl,
      left_start a.buf.now a.start (run_bytes s keys a.asked (runs_in runs a.count))
          (run_bytes s keys a.asked (runs_from runs a.count 0)) (ap (run_bytes s keys a.asked) (from_first_lem runs a.count)),
    )

pub put_case-at-requires : goal.put_case-at-requires
put_case-at-requires c =
    let at = c.loop-k in
    let case = c.case_record in
    let loop-test = c.loop-k-test in
    let node_of_lem = c.node_of-node in
    let by-run = c.by_run in
    let a = c.args in
    let s = c.args.s.now in
    let keys = keys_in a.keys.now in
    let runs = c.args.runs.now in
    left_room c.requires.2 at.invariant.1 (case_record_bytes case.result)
    (run_bytes s keys a.asked (runs_from runs a.count (at.k + 1)))
    (case_next s keys a.asked (run_at runs at.k) (from_some runs a.count at.k loop-test.true) case.result
    case.ensures (node_of_lem.ensures ∙ ap (key_number keys) by-run.ensures))

pub loop-k-preserved : goal.loop-k-preserved
loop-k-preserved c =
    let at = c.loop-k in
    let case = c.case_record in
    let loop-test = c.loop-k-test in
    let node_of_lem = c.node_of-node in
    let by-run = c.by_run in
    let put-case = c.put_case-at in
    let a = c.args in
    let s = c.args.s.now in
    let keys = keys_in a.keys.now in
    let runs = c.args.runs.now in (
      omega arith,
      left_next c.requires.2 at.invariant.1 (case_record_bytes case.result)
          (run_bytes s keys a.asked (runs_from runs a.count (at.k + 1)))
          (case_next s keys a.asked (run_at runs at.k) (from_some runs a.count at.k loop-test.true) case.result
          case.ensures (node_of_lem.ensures ∙ ap (key_number keys) by-run.ensures)) put-case.ensures,
    )

pub returns : goal.returns
returns c =
    let at = c.loop-k in
    let loop-test = c.loop-k-test in
    let a = c.args in
    left_end c.requires.2 at.invariant.1
    (ap (run_bytes a.s.now (keys_in a.keys.now) a.asked)
    (from_none a.runs.now a.count at.k loop-test.false))
