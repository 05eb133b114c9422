-- `node_check::check::check_node` meets its contract, for each kind of node.
use Rattle.node_check.proofs.NodeHeads.{refused_asked, leaf_asked, pair_asked}
use Rattle.node_check.proofs.Switches.{switch_asked}
use Rattle.node_check.specs.views.CheckNode.{kept_test, bytes_read, switch_check}
use Rattle.graph.specs.ReadGraph.{ask_range_and_order}
use Rattle.graph.specs.views.NodeRecord.{switch_length}
use Rattle.graph.proofs.ByKinds.{node_read_by}
use Rattle.records.proofs.Parts.{rest}
use Rattle.std.specs.Prelude.{Ok}
use Rattle.std.proofs.lemmas.Result.{err_from_is_err_and}
use borrow.Author.Tests.{lt-ltb, le-ltb}
use lib.Dec.{ltb}
use mathlib.Core.Bool.{true, false, ◌&&◌}
use mathlib.Core.Path.{sym, ap, ◌∙◌}
use Rattle.node_check.proofs.check.check_node.Goals as goal
use Rattle.node_check.proofs.check.check_node.Goals.{else-has_pair-via-then-has_pair+then-differ-nodes+else-other-nodes, else-has_pair-via-then-has_pair+else-differ-nodes, else-has_pair-via-else-has_pair}

pub returns-in_err-node : goal.returns-in_err-node
returns-in_err-node c =
    let a = c.args in
    let p = err_from_is_err_and c.from_residual.result c.from_residual.ensures.1 in
    rw (p.1, p.2) (refused_asked (kept_test a.words.now a.codes.now a.count) a.rules a.nodes a.s.now (sym c.in_err-node.ensures))

pub returns-in-End : goal.returns-in-End
returns-in-End c =
    let a = c.args in
    c.check_leaf.ensures
    ∙ leaf_asked (kept_test a.words.now a.codes.now a.count) a.rules a.nodes a.s.now (sym c.in_ok-node.ensures ∙ ap Ok c.in-End.is)

pub returns-in-Switch : goal.returns-in-Switch
returns-in-Switch c =
    let a = c.args in
    let own = c.in-Switch in
    let test = kept_test a.words.now a.codes.now a.count in
    c.check_switch.ensures
    ∙ ap (λ l. switch_check (c.has_place.result && ltb own.neither a.nodes && ltb own.unknown a.nodes) own.cases a.nodes l) (rest a.s.now switch_length)
    ∙ switch_asked test a.rules a.nodes a.s.now own.place own.cases own.neither own.unknown (ap (λ b. b && ltb own.neither a.nodes && ltb own.unknown a.nodes) c.has_place.ensures)
    ∙ ap (λ r. bytes_read (ask_range_and_order test a.rules a.nodes r)) (sym (node_read_by a.s.now (sym c.in_ok-node.ensures ∙ ap Ok own.is)))

pub returns-then-other-nodes : goal.returns-then-other-nodes
returns-then-other-nodes c =
    let a = c.args in
    pair_asked (kept_test a.words.now a.codes.now a.count) a.rules a.nodes a.s.now true (sym c.in_ok-node.ensures ∙ ap Ok c.in-Pair.is)
    (simp (sym c.if-has_pair.ensures, lt-ltb _ _ c.if-differ-nodes.true, lt-ltb _ _ c.if-other-nodes.true))

pub returns-else-has_pair : goal.returns-else-has_pair
returns-else-has_pair c =
    let a = c.args in
    pair_asked (kept_test a.words.now a.codes.now a.count) a.rules a.nodes a.s.now false (sym c.in_ok-node.ensures ∙ ap Ok c.in-Pair.is)
    (elim c.else-has_pair.branch [
      | else-has_pair-via-then-has_pair+then-differ-nodes+else-other-nodes w ↦ simp (sym w.if-has_pair.ensures, lt-ltb _ _ w.if-differ-nodes.true, le-ltb _ _ w.if-other-nodes.false)
      | else-has_pair-via-then-has_pair+else-differ-nodes w ↦ simp (sym w.if-has_pair.ensures, le-ltb _ _ w.if-differ-nodes.false)
      | else-has_pair-via-else-has_pair w ↦ simp (sym w.if-has_pair.ensures)
    ])
