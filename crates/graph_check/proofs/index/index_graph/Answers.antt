-- The header, the nodes, then question 25.
use mathlib.Core.Path.{sym, ap, ◌≡◌, ◌∙◌}
use mathlib.Core.Bool.{true}
use native.Mathlib.Omega.{arith}
use lib.ListN.{length}
use Rattle.records.specs.Fields.{wide_at}
use Rattle.records.specs.Reading.{refused}
use Rattle.std.proofs.lemmas.Result.{err_from_is_err_and}
use Rattle.graph.specs.ReadGraph.{has_header}
use Rattle.node_check.specs.views.CheckNode.{kept_test, checked_nodes}
use Rattle.graph_check.proofs.Indexing.{count_header, count_refused, header_known, header_refused, nodes_refused, bytes_left, graph_indexed}
use Rattle.graph_check.proofs.index.index_graph.Goals as goal
use Rattle.graph_check.proofs.index.index_graph.Goals.{In_ok-nodes}

pub returns-in_err-nodes : goal.returns-in_err-nodes
returns-in_err-nodes c =
    let a = c.args in
    let g = c.args.g.now in
    let test = kept_test a.words.now a.codes.now a.pairs in
    let no_header = count_refused (has_header a.arity a.rules g) (wide_at g 3) c.in_err-nodes.ensures in
    let p = err_from_is_err_and c.from_residual.result c.from_residual.ensures.1 in record {
      result_after = rw (p.1, p.2) (ap refused no_header.1 ∙ header_refused test a.arity a.rules g no_header.0);
      starts_len = c.requires.3;
    }

-- The header says so many nodes.
header
    : (c : In_ok-nodes)
    → (has_header c.args.arity c.args.rules c.args.g.now ≡ true) × (wide_at c.args.g.now 3 ≡ c.in_ok-nodes.nodes)
header c = count_header (has_header c.args.arity c.args.rules c.args.g.now) (wide_at c.args.g.now 3) c.in_ok-nodes.ensures

pub check_nodes-requires : goal.check_nodes-requires
check_nodes-requires c =
    let a = c.args in
    let own = header (goal.at.check_nodes-requires c).In_ok-nodes in
    let known = header_known a.arity a.rules a.g.now own.0 in
    let pre = c.requires in record {
      words_len = (pre.0, pre.1, pre.2);
      in_bounds = (known.0, omega (arith, known.2, own.1), pre.3);
    }

pub returns-in_err-end : goal.returns-in_err-end
returns-in_err-end c =
    let a = c.args in
    let test = kept_test a.words.now a.codes.now a.pairs in
    let own = header (goal.at.returns-in_err-end c).In_ok-nodes in
    let starts = c.check_nodes.new.starts in
    let told = sym (ap (λ r. checked_nodes c.in_ok-nodes.nodes r starts) c.in_err-end.was) ∙ c.check_nodes.ensures.starts_after in
    let p = err_from_is_err_and c.from_residual-in_err-end.result c.from_residual-in_err-end.ensures.1 in record {
      result_after = rw (p.1, p.2) (nodes_refused test a.arity a.rules a.g.now own.0 own.1 told);
      starts_len = c.check_nodes.ensures.starts_len;
    }

pub returns-then-end-g : goal.returns-then-end-g
returns-then-end-g c =
    let a = c.args in
    let test = kept_test a.words.now a.codes.now a.pairs in
    let own = header (goal.at.returns-then-end-g c).In_ok-nodes in
    let starts = c.check_nodes.new.starts in
    let told = sym (ap (λ r. checked_nodes c.in_ok-nodes.nodes r starts) c.in_ok-end.was) ∙ c.check_nodes.ensures.starts_after in record {
      result_after = bytes_left test a.arity a.rules a.g.now own.0 own.1 starts told c.if-end-g.true;
      starts_len = c.check_nodes.ensures.starts_len;
    }

pub returns : goal.returns
returns c =
    let a = c.args in
    let test = kept_test a.words.now a.codes.now a.pairs in
    let own = header (goal.at.returns c).In_ok-nodes in
    let starts = c.check_nodes.new.starts in
    let told = sym (ap (λ r. checked_nodes c.in_ok-nodes.nodes r starts) c.in_ok-end.was) ∙ c.check_nodes.ensures.starts_after in
    let few = (header_known a.arity a.rules a.g.now own.0).2 in record {
      result_after = graph_indexed test a.arity a.rules a.g.now own.0 own.1 starts told c.if-end-g.false
          (omega (arith, few, own.1, c.check_nodes.ensures.starts_len));
      starts_len = c.check_nodes.ensures.starts_len;
    }
