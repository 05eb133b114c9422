-- `steps::node::step_at` meets its contract, for each kind of node.
use Prim.Native.Nat.{ℕ}
use mathlib.Core.Path.{◌≡◌, sym, ap, subst, ◌∙◌}
use mathlib.Core.List.{List, []}
use lib.ListN.{drop}
use Rattle.outcomes.specs.views.Look.{look}
use Rattle.records.proofs.Parts.{rest}
use Rattle.graph.specs.declared.NodeRecord.TheVariants.{Switch, Pair}
use Rattle.std.specs.Prelude.{Ok}
use Rattle.graph.specs.views.Rewriting.{read_or}
use Rattle.graph.specs.ReadGraph.{read_cases}
use Rattle.graph.specs.views.NodeRecord.{node_head}
use Rattle.node_check.proofs.CopiedNodes.{node_there}
use Rattle.pairs.specs.views.KeptPairs.{pair_code}
use Rattle.number_search.specs.views.CodeCases.{CasesInOrder}
use Rattle.steps.specs.declared.Step.TheVariants.{Stop}
use Rattle.steps.specs.views.CodeSteps.{step_made, node_step, NearNode, OrderedNode, run_step}
use Rattle.steps.proofs.StepsMade.{leaf_back}
use Rattle.steps.proofs.NodeSteps.{leaf_node, pair_node_lem, switch_node, cases_inside_lem, cases_begin, cases_read}
use Rattle.steps.proofs.node.step_at.Goals as goal

pub returns-in_err-node : goal.returns-in_err-node
returns-in_err-node c =
    let a = c.args in
    let s = c.args.graph.now in
    let cells = c.args.cells.now in
    let read = ap node_head (sym (rest s a.at)) in
    absurd
    (node_there (drop a.at s) c.requires.0.whole
    (read ∙ sym c.in_err-node.ensures))

pub switch_step-requires : goal.switch_step-requires
switch_step-requires c =
    let a = c.args in
    let stands = c.requires.0 in
    let s = c.args.graph.now in
    let read = ap node_head (sym (rest s a.at)) in
    let switching : node_head (drop a.at s) ≡ Ok (Switch c.in-Switch.tested c.in-Switch.count c.in-Switch.neither c.in-Switch.unknown) =
    read ∙ sym c.in_ok-node.ensures ∙ ap Ok c.in-Switch.is in
    let node = sym (switch_node (drop a.at s) switching stands.whole) in (
      record {
        begins = cases_inside_lem s a.at stands.begins switching;
        whole = cases_read s a.at stands.begins switching stands.whole;
        ordered = subst (λ (l : List ℕ). CasesInOrder (read_or [] (read_cases c.in-Switch.count l)))
            (cases_begin s a.at stands.begins switching) (subst OrderedNode node stands.ordered);
      },
      subst NearNode node stands.near,
    )

pub pair_step-requires : goal.pair_step-requires
pair_step-requires c =
    let a = c.args in
    let s = c.args.graph.now in
    let cells = c.args.cells.now in
    let read = ap node_head (sym (rest s a.at)) in
    let pairing : node_head (drop a.at s) ≡ Ok (Pair c.in-Pair.p c.in-Pair.q c.in-Pair.differ c.in-Pair.other) =
    read ∙ sym c.in_ok-node.ensures ∙ ap Ok c.in-Pair.is in
    let near = subst NearNode (sym (pair_node_lem (drop a.at s) pairing)) c.requires.0.near in (near.0, near.1, c.requires.1)

pub returns-in-End : goal.returns-in-End
returns-in-End c =
    let a = c.args in
    let s = c.args.graph.now in
    let cells = c.args.cells.now in
    let read = ap node_head (sym (rest s a.at)) in
    let ending = read ∙ sym c.in_ok-node.ensures ∙ ap Ok c.in-End.is in
    let leaf = leaf_node (drop a.at s) c.in-End.leaf ending in
    ap Ok (ap Stop (leaf_back c.in-End.leaf) ∙ ap (node_step cells) leaf)

pub returns-in-Switch : goal.returns-in-Switch
returns-in-Switch c =
    let a = c.args in
    let stands = c.requires.0 in
    let s = c.args.graph.now in
    let cells = c.args.cells.now in
    let read = ap node_head (sym (rest s a.at)) in
    let switching : node_head (drop a.at s) ≡ Ok (Switch c.in-Switch.tested c.in-Switch.count c.in-Switch.neither c.in-Switch.unknown) =
    read ∙ sym c.in_ok-node.ensures ∙ ap Ok c.in-Switch.is in
    let node = switch_node (drop a.at s) switching stands.whole in
    let same =
    ap (λ (l : List ℕ). run_step (read_or [] (read_cases c.in-Switch.count l)) c.in-Switch.neither c.in-Switch.unknown (look cells c.in-Switch.tested))
    (sym (cases_begin s a.at stands.begins switching)) in
    c.switch_step.ensures ∙ ap Ok (ap (step_made (pair_code c.in-Switch.tested c.in-Switch.tested)) same ∙ ap (node_step cells) node)

pub returns-in-Pair : goal.returns-in-Pair
returns-in-Pair c =
    let a = c.args in
    let s = c.args.graph.now in
    let cells = c.args.cells.now in
    let read = ap node_head (sym (rest s a.at)) in
    let pairing : node_head (drop a.at s) ≡ Ok (Pair c.in-Pair.p c.in-Pair.q c.in-Pair.differ c.in-Pair.other) =
    read ∙ sym c.in_ok-node.ensures ∙ ap Ok c.in-Pair.is in
    let node = pair_node_lem (drop a.at s) pairing in
    ap Ok (c.pair_step.ensures ∙ ap (node_step cells) node)
