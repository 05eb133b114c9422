-- `walk::call::walk_nodes` meets its contract: the walk is refused on the way, or answered at its leaf.
use Prim.Native.Nat.{ℕ}
use mathlib.Core.List.{[]}
use mathlib.Core.Path.{sym, ap, subst, ◌∙◌}
use native.Mathlib.Omega.{arith}
use lib.ListN.{take, length-replicate}
use Rattle.records.specs.Reading.{took}
use Rattle.terms.specs.Answer as answers
use Rattle.sheet.specs.ReadSheet.{read_rules}
use Rattle.graph.specs.declared.Leaf.{Leaf}
use Rattle.graph.specs.views.NodeRecord.{leaf_of}
use Rattle.graph.specs.views.Rewriting.{read_or}
use Rattle.path.specs.views.Following.{reached, nodes_at, ended_of, edges_of}
use Rattle.rule_masks.specs.views.Kept.{listed_tests}
use Rattle.walk.specs.views.LeafWalks.{LeafIn, end_walk}
use Rattle.std.proofs.lemmas.Result.{err_from_is_err_and}
use Rattle.walk.proofs.LeafRules.{reached_leaf, reached_kept}
use Rattle.walk.proofs.call.walk_nodes.Goals as goal

pub follow_path-requires : goal.follow_path-requires
follow_path-requires c =
    let pre = c.requires.starts_len in record {
      narrow = (pre.1, pre.0, length-replicate {A = ℕ} 64 0);
      index = c.requires.ready.index;
    }

pub suspend_waits-requires : goal.suspend_waits-requires
suspend_waits-requires c =
    let a = c.args in
    let pre = c.requires.starts_len in
    let ready = c.requires.ready in
    let tests = listed_tests a.kept.now in
    let cells = c.args.cells.now in
    let sizes = c.args.sizes in
    let call = c.follow_path in
    let ends = sym (ap (ended_of c.follow_path.new.met) c.in_ok-end.was) ∙ c.follow_path.ensures.result_after in record {
      arity_bound = (ready.few_arguments, ready.rules_read, pre.3, ready.listed, pre.1);
      met_len = (
        call.ensures.met_len.0,
        omega (arith, call.ensures.met_len.1, ap edges_of c.in_ok-end.was),
        reached_kept tests (nodes_at a.graph.now a.starts.now sizes.nodes) ready.asked cells ends,
      );
    }

pub at_execute-requires : goal.at_execute-requires
at_execute-requires c =
    let a = c.args in
    let pre = c.requires.starts_len in
    let ready = c.requires.ready in
    let tests = listed_tests a.kept.now in
    let cells = c.args.cells.now in
    let sizes = c.args.sizes in
    let ends = sym (ap (ended_of c.follow_path.new.met) c.in_ok-end.was) ∙ c.follow_path.ensures.result_after in
    let inside =
    subst (λ (l : Leaf). LeafIn sizes.rules (leaf_of l)) c.in-Execute.is
    (reached_leaf sizes.rules (nodes_at a.graph.now a.starts.now sizes.nodes) cells ready.leaves ends) in (
      record { few_arguments = ready.few_arguments; from_one = inside.0; inside = inside.1; rules_read = ready.rules_read },
      pre.1,
      ready.listed.counted,
      pre.2,
      pre.3,
    )

pub returns-in_err-end : goal.returns-in_err-end
returns-in_err-end c =
    let a = c.args in
    let sizes = c.args.sizes in
    let no = err_from_is_err_and c.from_residual.result c.from_residual.ensures.1 in
    record {
      result_value =
          rw (no.1, no.2)
          (ap (end_walk (read_or [] (read_rules sizes.arity sizes.rules a.s.now)) (listed_tests a.kept.now) a.cells.now)
          (sym (ap (ended_of c.follow_path.new.met) c.in_err-end.was) ∙ c.follow_path.ensures.result_after));
      notes_len = c.requires.starts_len.3;
    }

pub returns-in-Fail : goal.returns-in-Fail
returns-in-Fail c =
    let a = c.args in
    let pre = c.requires.starts_len in
    let ready = c.requires.ready in
    let tests = listed_tests a.kept.now in
    let cells = c.args.cells.now in
    let sizes = c.args.sizes in
    let ends = sym (ap (ended_of c.follow_path.new.met) c.in_ok-end.was) ∙ c.follow_path.ensures.result_after in record {
      result_value = ap (end_walk (read_or [] (read_rules sizes.arity sizes.rules a.s.now)) tests cells) (ap (λ (l : Leaf). reached (leaf_of l) c.in_ok-end.end.edges (take c.in_ok-end.end.edges c.follow_path.new.met)) (sym c.in-Fail.is) ∙ ends);
      notes_len = pre.3;
    }

pub returns-in-Suspend : goal.returns-in-Suspend
returns-in-Suspend c =
    let a = c.args in
    let pre = c.requires.starts_len in
    let ready = c.requires.ready in
    let tests = listed_tests a.kept.now in
    let cells = c.args.cells.now in
    let sizes = c.args.sizes in
    let ends = sym (ap (ended_of c.follow_path.new.met) c.in_ok-end.was) ∙ c.follow_path.ensures.result_after in record {
      result_value = ap (λ (w : ℕ). took 0 (record { answer = answers.suspend; edges = c.in_ok-end.end.edges; waits = w })) c.suspend_waits.ensures.value
          ∙ ap (end_walk (read_or [] (read_rules sizes.arity sizes.rules a.s.now)) tests cells) (ap (λ (l : Leaf). reached (leaf_of l) c.in_ok-end.end.edges (take c.in_ok-end.end.edges c.follow_path.new.met)) (sym c.in-Suspend.is) ∙ ends);
      notes_len = c.suspend_waits.ensures.notes_len;
    }

pub returns-in-Execute : goal.returns-in-Execute
returns-in-Execute c =
    let a = c.args in
    let pre = c.requires.starts_len in
    let ready = c.requires.ready in
    let tests = listed_tests a.kept.now in
    let cells = c.args.cells.now in
    let sizes = c.args.sizes in
    let ends = sym (ap (ended_of c.follow_path.new.met) c.in_ok-end.was) ∙ c.follow_path.ensures.result_after in record {
      result_value = c.at_execute.ensures.result_value
          ∙ ap (end_walk (read_or [] (read_rules sizes.arity sizes.rules a.s.now)) tests cells) (ap (λ (l : Leaf). reached (leaf_of l) c.in_ok-end.end.edges (take c.in_ok-end.end.edges c.follow_path.new.met)) (sym c.in-Execute.is) ∙ ends);
      notes_len = c.at_execute.ensures.notes_len;
    }
