-- `node::put_switch` meets its contract: the record, and the cases behind it.
use Prim.Native.Nat.{ℕ, ◌%◌, ◌<◌}
use mathlib.Core.Path.{sym, ap, subst, ◌∙◌}
use mathlib.Core.List.{List}
use native.Mathlib.Omega.{arith}
use lib.ListN.{length}
use Rattle.graph.specs.declared.NodeRecord.TheVariants.{Switch}
use Rattle.graph.specs.views.WriteNode.{node_record_bytes}
use Rattle.cuts.specs.views.Cuts.{part_at, count_at, cut_at}
use Rattle.cuts.specs.views.Runs.{Run, runs_in}
use Rattle.cuts.specs.views.CaseRuns.{case_runs}
use Rattle.met.specs.views.KeysMet.{keys_in}
use Rattle.keys.proofs.SwitchParts.{part_room}
use Rattle.emit.specs.views.Laid.{run_bytes}
use Rattle.emit.proofs.WritingOn.{first_room, second_room, both_wrote}
use Rattle.emit.proofs.AskedBytes.{switch_bytes}
use Rattle.emit.proofs.node.put_switch.Goals as goal

pub part-requires : goal.part-requires
part-requires c =
    let rules = c.rules in
    let parted = c.requires.chained.1 in
    (omega (arith, rules.ensures, parted.few_rules), omega (arith, c.requires.chained.2, parted.few_places))

pub cut_switch-framed-requires : goal.cut_switch-framed-requires
cut_switch-framed-requires c =
    let part = c.part in
    let rules = c.rules in
    let a = c.args in
    let is = part.ensures ∙ ap (λ (n : ℕ). part_at n a.asked.test) rules.ensures in
    let room = part_room c.requires.chained.1 a.asked.test c.requires.chained.2 is in record {
      from_in_bounds = (room.0, room.1, c.requires.chained.3);
      by_index = λ k h.
          subst
          (λ (from : ℕ).
          k < count_at a.c.now from
          → (0 < (cut_at a.c.now from k).code) × ((cut_at a.c.now from k).code < 0x1_0000_0000))
          (sym is) (c.requires.chained.1.coded a.asked.test k c.requires.chained.2) h;
    }

pub case_count-count-requires : goal.case_count-count-requires
case_count-count-requires c = (c.cut_switch-framed.ensures.2, c.cut_switch-framed.ensures.3, c.cut_switch-framed.ensures.4)

pub by_unknown-requires : goal.by_unknown-requires
by_unknown-requires c =
    omega (arith, c.requires.chained.2, c.requires.chained.1.few_places)

pub test-requires : goal.test-requires
test-requires c =
    omega (arith, c.requires.chained.2, c.requires.chained.1.few_places)

pub overflow_cast-count : goal.overflow_cast-count
overflow_cast-count c =
    let cut = c.cut_switch-framed in
    let count = c.case_count-count in
    let counted = count.ensures ∙ ap (λ (l : List Run). length l) cut.ensures.0 in
    omega (arith, counted, cut.ensures.1)

pub put_node-behind-requires : goal.put_node-behind-requires
put_node-behind-requires c =
    let part = c.part in
    let rules = c.rules in
    let cut = c.cut_switch-framed in
    let count = c.case_count-count in
    let test = c.test in
    let node_of_lem = c.node_of-neither in
    let by_none_lem = c.by_none in
    let node-of2 = c.node_of-unknown in
    let by_unknown_lem = c.by_unknown in
    let a = c.args in
    let is = part.ensures ∙ ap (λ (n : ℕ). part_at n a.asked.test) rules.ensures in
    let runs = c.cut_switch-framed.new.runs in
    let cases = case_runs cut.result.names (runs_in runs cut.result.count) in
    let keys = keys_in a.keys.now in
    let joined =
    switch_bytes a.s.now keys a.asked a.c.now c.requires.chained.2 cases is cut.ensures.0 count.ensures
    test.ensures node_of_lem.ensures by_none_lem.ensures node-of2.ensures by_unknown_lem.ensures in
    let head =
    node_record_bytes (Switch (test.result % 0x1_0000) count.result node_of_lem.result node-of2.result) in
    let tail = run_bytes a.s.now keys a.asked cases in
    first_room a.buf.now a.at head tail joined c.requires.room

pub put_runs-requires : goal.put_runs-requires
put_runs-requires c =
    let part = c.part in
    let rules = c.rules in
    let cut = c.cut_switch-framed in
    let count = c.case_count-count in
    let test = c.test in
    let node_of_lem = c.node_of-neither in
    let by_none_lem = c.by_none in
    let node-of2 = c.node_of-unknown in
    let by_unknown_lem = c.by_unknown in
    let a = c.args in
    let is = part.ensures ∙ ap (λ (n : ℕ). part_at n a.asked.test) rules.ensures in
    let runs = c.cut_switch-framed.new.runs in
    let cases = case_runs cut.result.names (runs_in runs cut.result.count) in
    let keys = keys_in a.keys.now in
    let joined =
    switch_bytes a.s.now keys a.asked a.c.now c.requires.chained.2 cases is cut.ensures.0 count.ensures
    test.ensures node_of_lem.ensures by_none_lem.ensures node-of2.ensures by_unknown_lem.ensures in
    let head =
    node_record_bytes (Switch (test.result % 0x1_0000) count.result node_of_lem.result node-of2.result) in
    let tail = run_bytes a.s.now keys a.asked cases in
    let record-put = c.put_node-behind.ensures in
    let room = second_room a.buf.now a.at head tail joined c.requires.room record-put in
    (c.requires.chained.0, cut.ensures.2, cut.ensures.3, cut.ensures.4, room)

pub returns : goal.returns
returns c =
    let part = c.part in
    let rules = c.rules in
    let cut = c.cut_switch-framed in
    let count = c.case_count-count in
    let test = c.test in
    let node_of_lem = c.node_of-neither in
    let by_none_lem = c.by_none in
    let node-of2 = c.node_of-unknown in
    let by_unknown_lem = c.by_unknown in
    let a = c.args in
    let is = part.ensures ∙ ap (λ (n : ℕ). part_at n a.asked.test) rules.ensures in
    let runs = c.cut_switch-framed.new.runs in
    let cases = case_runs cut.result.names (runs_in runs cut.result.count) in
    let keys = keys_in a.keys.now in
    let joined =
    switch_bytes a.s.now keys a.asked a.c.now c.requires.chained.2 cases is cut.ensures.0 count.ensures
    test.ensures node_of_lem.ensures by_none_lem.ensures node-of2.ensures by_unknown_lem.ensures in
    let head =
    node_record_bytes (Switch (test.result % 0x1_0000) count.result node_of_lem.result node-of2.result) in
    let tail = run_bytes a.s.now keys a.asked cases in
    let record-put = c.put_node-behind.ensures in
    let cases-put = c.put_runs.ensures in record {
      wrote = both_wrote a.buf.now a.at head tail joined c.requires.room record-put cases-put;
      runs_len = cut.ensures.4;
    }
