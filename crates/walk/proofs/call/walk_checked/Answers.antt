-- The nodes of an accepted graph are walked over.
use Prim.Native.Nat.{ℕ}
use mathlib.Core.Path.{sym, ap, subst, ◌∙◌}
use mathlib.Core.List.{List, []}
use native.Mathlib.Omega.{arith}
use Rattle.records.proofs.Parts.{rest}
use Rattle.records.proofs.ByteLists.{bytes_all}
use Rattle.sheet.specs.Sheet.{Sheet}
use Rattle.sheet.specs.ReadSheet.{read_rules}
use Rattle.plain.proofs.PiecesRead.{read_narrow}
use Rattle.graph.specs.views.Rewriting.{read_or}
use Rattle.rule_masks.specs.views.Kept.{listed_tests}
use Rattle.leaves.specs.views.Seeking.{Begins}
use Rattle.path.specs.views.Following.{cells_end, nodes_at}
use Rattle.walk.specs.views.LeafWalks.{end_walk}
use Rattle.walk.specs.views.Ready.{Ready}
use Rattle.walk.specs.Walking.{graph_reply}
use Rattle.walk.proofs.Replies.{same_sheet, ready_made, graph_walked}
use Rattle.walk.proofs.call.walk_checked.Goals as goal

pub slice_bounds-walk_nodes-count : goal.slice_bounds-walk_nodes-count
slice_bounds-walk_nodes-count c = c.requires.checked.sheet.read.whole

pub slice_bounds-walk_nodes-start : goal.slice_bounds-walk_nodes-start
slice_bounds-walk_nodes-start c = c.requires.checked.sheet.read.whole

pub walk_nodes-requires : goal.walk_nodes-requires
walk_nodes-requires c =
    let a = c.args in
    let s = c.args.sheet.now in
    let g = c.args.graph.now in
    let kept = c.args.kept.now in
    let starts = c.args.starts.now in
    let pre = c.requires.starts_len in
    let checked = c.requires.checked in
    let s-bytes = bytes_all s (λ i. omega (arith, c.type_inv.sheet i)) in
    let g-bytes = bytes_all g (λ i. omega (arith, c.type_inv.graph i)) in record {
      starts_len = (
        pre.0,
        read_narrow pre.1.read_as,
        subst (λ (l : List ℕ). Begins l a.sizes.arity a.sizes.rules kept) (sym (rest s 3)) pre.2,
        pre.3,
      );
      ready = subst (λ (l : List ℕ). Ready l g starts kept a.sizes.arity a.sizes.rules a.sizes.nodes) (sym (rest s 3))
          (ready_made s g kept checked.sheet s-bytes g-bytes starts checked.graph);
    }

pub returns : goal.returns
returns c =
    let a = c.args in
    let s = c.args.sheet.now in
    let g = c.args.graph.now in
    let kept = c.args.kept.now in
    let starts = c.args.starts.now in
    let cells = c.args.cells.now in
    let checked = c.requires.checked in
    let s-bytes = bytes_all s (λ i. omega (arith, c.type_inv.sheet i)) in
    let g-bytes = bytes_all g (λ i. omega (arith, c.type_inv.graph i)) in record {
      result_value = (λ t p k.
          c.walk_nodes.ensures.result_value
          ∙ ap (λ (l : List ℕ). end_walk (read_or [] (read_rules a.sizes.arity a.sizes.rules l)) (listed_tests kept) cells (cells_end (nodes_at g starts a.sizes.nodes) cells)) (rest s 3)
          ∙ graph_walked s g kept checked.sheet s-bytes g-bytes starts checked.graph p cells k
          ∙ ap (λ (x : Sheet). graph_reply x g k.piece.terms) (same_sheet checked.sheet.read t));
      notes_len = c.walk_nodes.ensures.notes_len;
    }
