-- `node_check::check::check_nodes` meets its contract: where the passed nodes begin and what is still to be read give where all
-- begin.
use Rattle.node_check.proofs.NodesPass.{resume_at, nodes_left, nodes_start, nodes_end, nodes_refused, nodes_next, node_few, node_inside, start_stored}
use Rattle.node_check.specs.views.CheckNode.{kept_test, bytes_read, checked}
use Rattle.graph.specs.ReadGraph.{read_node}
use Rattle.records.specs.Reading.{took}
use Rattle.records.proofs.Parts.{rest}
use Rattle.std.proofs.lemmas.Result.{err_from_is_err_and}
use lib.ListN.{take, drop, length-set}
use Prim.Native.Nat.{◌+◌}
use native.Mathlib.Omega.{arith}
use mathlib.Core.Path.{◌≡◌, sym, ap, ◌∙◌}
use Rattle.records.proofs.ByteLists.{bytes_all}
use Rattle.node_check.proofs.check.check_nodes.Goals as goal
use Rattle.node_check.proofs.check.check_nodes.Goals.{After-check_node}

pub loop-i-init : goal.loop-i-init
loop-i-init c = let a = c.args in (c.requires.in_bounds.0, omega arith, c.requires.in_bounds.2, nodes_start (kept_test a.words.now a.codes.now a.count) a.rules a.nodes a.s.now)

-- What was told of the next node.
told
    : (c : After-check_node)
    → checked c.check_node.result
    ≡ bytes_read (read_node (kept_test c.args.words.now c.args.codes.now c.args.count) c.args.rules c.args.nodes (drop c.loop-i.at c.args.s.now))
told c =
    let a = c.args in
    c.check_node.ensures ∙ ap (λ l. bytes_read (read_node (kept_test a.words.now a.codes.now a.count) a.rules a.nodes l)) (rest a.s.now c.loop-i.at)

pub returns-in_err-bytes : goal.returns-in_err-bytes
returns-in_err-bytes c =
    let a = c.args in
    let s = c.args.s.now in
    let test = kept_test a.words.now a.codes.now a.count in
    let loop = c.loop-i in
    let h = bytes_all s (λ i. omega (arith, c.type_inv.s i)) in
    let own = told (goal.at.returns-in_err-bytes c).After-check_node in
    let p = err_from_is_err_and c.from_residual.result c.from_residual.ensures.1 in record {
      starts_after =
          rw (p.1, p.2)
          (sym (loop.invariant.3 ∙ nodes_refused test a.rules a.nodes s h loop.i loop.at (take loop.i loop.starts) (omega arith) (sym (ap checked c.in_err-bytes.was) ∙ own)));
      starts_len = loop.invariant.2;
    }

pub overflow_cast-starts : goal.overflow_cast-starts
overflow_cast-starts c = omega arith

pub overflow_add-at : goal.overflow_add-at
overflow_add-at c =
    let a = c.args in
    let s = c.args.s.now in
    let test = kept_test a.words.now a.codes.now a.count in
    let loop = c.loop-i in
    let h = bytes_all s (λ i. omega (arith, c.type_inv.s i)) in
    let own = sym (ap checked c.in_ok-bytes.was) ∙ told (goal.at.overflow_add-at c).After-check_node in
    let inside = node_inside test a.rules a.nodes s h loop.i loop.at (take loop.i loop.starts) (omega arith) own loop.invariant.0 in
    omega arith

pub loop-i-preserved : goal.loop-i-preserved
loop-i-preserved c =
    let a = c.args in
    let s = c.args.s.now in
    let test = kept_test a.words.now a.codes.now a.count in
    let loop = c.loop-i in
    let h = bytes_all s (λ i. omega (arith, c.type_inv.s i)) in
    let own = sym (ap checked c.in_ok-bytes.was) ∙ told (goal.at.loop-i-preserved c).After-check_node in
    let few = node_few test a.rules a.nodes s h loop.i loop.at (take loop.i loop.starts) (omega arith) own in
    let inside = node_inside test a.rules a.nodes s h loop.i loop.at (take loop.i loop.starts) (omega arith) own loop.invariant.0 in (
      inside,
      omega arith,
      length-set loop.starts loop.i loop.at ∙ loop.invariant.2,
      loop.invariant.3
          ∙ nodes_next test a.rules a.nodes s h loop.i loop.at (take loop.i loop.starts) (omega arith) own
          ∙ ap (λ l. resume_at test a.rules a.nodes s (loop.at + c.in_ok-bytes.bytes) l (nodes_left test a.rules a.nodes s (loop.i + 1) (loop.at + c.in_ok-bytes.bytes)))
          (start_stored loop.starts loop.i loop.at (omega (arith, loop.invariant.2))),
    )

pub returns : goal.returns
returns c =
    let a = c.args in
    let s = c.args.s.now in
    let test = kept_test a.words.now a.codes.now a.count in
    let loop = c.loop-i in record {
      starts_after = sym (loop.invariant.3 ∙ nodes_end test a.rules a.nodes s loop.i loop.at loop.starts (omega arith));
      starts_len = loop.invariant.2;
    }
