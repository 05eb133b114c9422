-- `node::put_row` meets its contract. The loop's invariant: the pairs from last run k on are left to be written, and the node is
-- that of the union so far.
use Prim.Native.Nat.{ℕ, ◌+◌}
use mathlib.Core.Path.{◌≡◌, refl, sym, ap, ◌∙◌}
use native.Mathlib.Omega.{arith}
use lib.Bits.{bit_or}
use Rattle.graph.specs.views.WriteNode.{case_record_bytes}
use Rattle.cuts.specs.views.Runs.{Run, run_at}
use Rattle.cuts.specs.views.CaseRuns.{union_row, runs_from, pairs_row}
use Rattle.cuts.proofs.CaseRuns.{row_begun, row_some, row_none}
use Rattle.edges.specs.views.KeysBehind.{run_behind}
use Rattle.met.specs.views.KeysMet.{key_number, keys_in}
use Rattle.emit.specs.views.Laid.{run_bytes}
use Rattle.emit.proofs.WritingOn.{left_start, left_room, left_next, left_end}
use Rattle.emit.proofs.AskedBytes.{case_next}
use Rattle.emit.proofs.node.put_row.Goals as goal
use Rattle.emit.proofs.node.put_row.Goals.{then-more-set, else-more-set}

pub loop-k-init : goal.loop-k-init
loop-k-init c =
    let a = c.args in
    let s = c.args.s.now in
    let keys = keys_in a.keys.now in
    let runs = c.args.runs.now in
    let count = c.args.row.count in
    let low = (run_at runs a.row.first).low in
    let set = (run_at runs a.row.first).set in
    let by-run = c.by_run in
    let node_of_lem = c.node_of-node in (
      refl,
      node_of_lem.ensures ∙ ap (key_number keys) by-run.ensures,
      left_start a.buf.now a.start (run_bytes s keys a.asked (pairs_row runs count a.row.first))
          (run_bytes s keys a.asked (union_row low set (runs_from runs count a.row.first)))
          (ap (run_bytes s keys a.asked) (row_begun runs count a.row.first c.requires.1)),
    )

pub put_case-at-requires : goal.put_case-at-requires
put_case-at-requires c =
    let a = c.args in
    let s = c.args.s.now in
    let keys = keys_in a.keys.now in
    let runs = c.args.runs.now in
    let count = c.args.row.count in
    let low = (run_at runs a.row.first).low in
    let at = c.loop-k in
    let case = c.case_record in
    let more = bit_or at.set (run_at runs at.k).set in
    let test = c.loop-k-test.true in
    let if1 = c.if-more-set in
    let node_is : if1.node ≡ key_number keys (run_behind s a.asked more) =
    elim if1.branch [
      | then-more-set w ↦ w.node-is ∙ w.node_of-node-then-more-set.ensures ∙ ap (key_number keys) w.by_run-then-more-set.ensures
      | else-more-set w ↦ w.node-is
          ∙ at.invariant.1
          ∙ ap (λ (set : ℕ). key_number keys (run_behind s a.asked set)) (sym w.if-more-set.false)
    ] in
    let run : Run = record { low = low; high = (run_at runs at.k).high; set = more } in
    let next = case_next s keys a.asked run (row_some runs count low at.set at.k test) case.result
    case.ensures node_is in
    left_room c.requires.3 at.invariant.2 (case_record_bytes case.result)
    (run_bytes s keys a.asked (union_row low more (runs_from runs count (at.k + 1)))) next

pub loop-k-preserved : goal.loop-k-preserved
loop-k-preserved c =
    let a = c.args in
    let s = c.args.s.now in
    let keys = keys_in a.keys.now in
    let runs = c.args.runs.now in
    let count = c.args.row.count in
    let low = (run_at runs a.row.first).low in
    let at = c.loop-k in
    let case = c.case_record in
    let more = bit_or at.set (run_at runs at.k).set in
    let test = c.loop-k-test.true in
    let if1 = c.if-more-set in
    let node_is : if1.node ≡ key_number keys (run_behind s a.asked more) =
    elim if1.branch [
      | then-more-set w ↦ w.node-is ∙ w.node_of-node-then-more-set.ensures ∙ ap (key_number keys) w.by_run-then-more-set.ensures
      | else-more-set w ↦ w.node-is
          ∙ at.invariant.1
          ∙ ap (λ (set : ℕ). key_number keys (run_behind s a.asked set)) (sym w.if-more-set.false)
    ] in
    let run : Run = record { low = low; high = (run_at runs at.k).high; set = more } in
    let next = case_next s keys a.asked run (row_some runs count low at.set at.k test) case.result
    case.ensures node_is in (
      omega arith,
      node_is,
      left_next c.requires.3 at.invariant.2 (case_record_bytes case.result)
          (run_bytes s keys a.asked (union_row low more (runs_from runs count (at.k + 1)))) next
          c.put_case-at.ensures,
    )

pub returns : goal.returns
returns c =
    let a = c.args in
    let s = c.args.s.now in
    let keys = keys_in a.keys.now in
    let runs = c.args.runs.now in
    let count = c.args.row.count in
    let low = (run_at runs a.row.first).low in
    let at = c.loop-k in
    left_end c.requires.3 at.invariant.2
    (ap (run_bytes s keys a.asked) (row_none runs count low at.set at.k c.loop-k-test.false))
