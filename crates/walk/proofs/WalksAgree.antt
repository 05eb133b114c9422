-- The walk by cells over an accepted graph answers what the walk of the piece over its nodes does.
use Prim.Native.Nat.{ℕ, pred, ◌≤◌, zero, suc}
use mathlib.Core.Path.{◌≡◌, refl, sym, ap, subst, ◌∙◌}
use mathlib.Core.List.{List}
use native.Mathlib.Omega.{arith}
use lib.ListN.{length, take}
use Rattle.records.specs.Fields.{IsByte}
use Rattle.records.specs.Reading.{took, and_then, refused}
use Rattle.basics.specs.Lists.{All}
use Rattle.terms.specs.Term.{Terms}
use Rattle.terms.specs.Pattern.{Patterns}
use Rattle.terms.specs.Outcome.{rule_outcome}
use Rattle.terms.specs.Accepted.{AcceptedPiece}
use Rattle.terms.specs.Answer.{rule_at, only_rule}
use Rattle.terms.specs.Answer as answers
use Rattle.sheet.specs.Sheet.{Sheet, SoundSheet}
use Rattle.sheet.specs.views.Noted.{rule_notes}
use Rattle.sheet_tests.specs.SheetTests.{Test, sheet_tests}
use Rattle.piece.specs.views.LaidOut.{piece_cells}
use Rattle.decision.specs.Key.{fail_node, suspend_node, execute_node, Leaf}
use Rattle.decision.specs.Node.{Node}
use Rattle.decision.specs.Path.{Path, path, through, path_from, Step, stop, go_to, no_way, step_at, node_at, last_step, next_step, most_edges}
use Rattle.decision.specs.Walk.{execute_waits, at_end, walk, at_leaf}
use Rattle.graph.specs.ReadGraph.{read_graph}
use Rattle.graph.proofs.TestedPlaces.{tests_near}
use Rattle.node_check.specs.views.CheckNode.{starts_from}
use Rattle.path.specs.views.Following.{met_codes, end_of, cells_end, nodes_at}
use Rattle.rule_masks.specs.views.RuleMasks.{notes_masks}
use Rattle.leaves.specs.views.LeafAnswers.{RuleEnd, executed_by}
use Rattle.walk.specs.views.LeafWalks.{walk_after, end_walk, LeafIn, leaf_walk}
use Rattle.walk.specs.views.Ready.{AsksKept}
use Rattle.walk.specs.Walking.{graph_reply}
use Rattle.leaves.proofs.ExecutedRight.{executed_right}
use Rattle.path.proofs.PathsAgree.{paths_same}
use Rattle.waiting.specs.views.SpanTests.{span_list}
use Rattle.waiting.proofs.MetAsked.{Coded}
use Rattle.waiting.proofs.CellsSay.{cells_say}
use Rattle.waiting.proofs.SpanWaitsRight.{span_waits_right}
use Rattle.walk.proofs.Indexing.{near_test, nodes_near, nodes_fit, nodes_coded, nodes_asked, nodes_are, nodes_leaves}
use Rattle.walk.proofs.LeafRules.{LeafPath, cells_leaf}

-- A path takes no bytes.
abbrev NoBytes : Path → Type 0
NoBytes (took a w) = a ≡ 0
NoBytes (refused q) = Unit

through_none : (n : ℕ) (p : Path) → NoBytes p → NoBytes (through n p)
through_none n (took a w) h = h
through_none n (refused q) h = tt

no_bytes : (nodes : List (Node ℕ)) (piece : Terms) (more n : ℕ) → NoBytes (path_from nodes piece more n)
no_bytes nodes piece zero n = go (step_at piece (node_at nodes n))
  where
    go : (s : Step ℕ) → NoBytes (last_step n s)
    go (stop l) = refl
    go (go_to m) = tt
    go no_way = tt
no_bytes nodes piece (suc more) n = go (no_bytes nodes piece more) (step_at piece (node_at nodes n))
  where
    go : ((m : ℕ) → NoBytes (path_from nodes piece more m)) → (s : Step ℕ) → NoBytes (next_step (path_from nodes piece more) n s)
    go h (stop l) = refl
    go h (go_to m) = through_none n (path_from nodes piece more m) (h m)
    go h no_way = tt

module _ (sheet : Sheet) (sound : SoundSheet sheet) where
  module _ (tests : List Test) (are : tests ≡ sheet_tests sheet.rules) (few_tests : length tests ≤ 64) (piece : Terms)
      (ok : AcceptedPiece sheet.arity piece) (nodes : List (Node ℕ)) where
    abbrev cells : List ℕ
    cells = piece_cells piece

    abbrev rules : List Patterns
    rules = sheet.rules

    few_tests_lem : length (sheet_tests rules) ≤ 64
    few_tests_lem = subst (λ (ts : List Test). length ts ≤ 64) are few_tests

    -- What an execute of a rule comes to,
    abbrev meant : ℕ → RuleEnd
    meant i = record {
      answer = only_rule i (rule_outcome (rule_at rules i) piece);
      waits = execute_waits rules piece i (rule_outcome (rule_at rules i) piece);
    }

    rule_agrees
        : (i : ℕ) → LeafIn (length rules) (execute_node i)
        → executed_by i (notes_masks tests cells (rule_notes (rule_at rules i))) ≡ meant i
    rule_agrees i inside =
        let number : suc (pred i) ≡ i = omega (arith, inside.0) in
        ap (λ (ts : List Test). executed_by i (notes_masks ts cells (rule_notes (rule_at rules i)))) are
        ∙ subst (λ (k : ℕ). executed_by k (notes_masks (sheet_tests rules) cells (rule_notes (rule_at rules k))) ≡ meant k) number
        (executed_right sheet.arity rules sound.few_arguments sound.accepted_rules few_tests_lem piece ok (pred i) (omega (arith, inside.0, inside.1)))

    -- what is answered at a leaf,
    leaf_agrees
        : All Coded nodes → All (AsksKept (sheet_tests rules)) nodes → (walked : List ℕ) (l : Leaf) → LeafIn (length rules) l
        → leaf_walk rules tests cells l (pred (length walked)) (met_codes nodes walked) ≡ at_leaf rules nodes piece walked l
    leaf_agrees coded asked walked fail_node inside = refl
    leaf_agrees coded asked walked suspend_node inside =
        ap (λ (w : ℕ). record { answer = answers.suspend; edges = pred (length walked); waits = w })
        (ap (λ (ts : List Test). span_list ts cells rules (met_codes nodes walked)) are
        ∙ span_waits_right rules few_tests_lem piece cells
        (cells_say sheet.arity rules sound.few_arguments sound.accepted_rules few_tests_lem
        (λ t m. near_test t (tests_near sheet sound t m)) piece ok) nodes coded asked walked)
    leaf_agrees coded asked walked (execute_node i) inside = ap (walk_after (pred (length walked))) (rule_agrees i inside)

    -- and at the end of a path that takes no bytes.
    end_agrees
        : All Coded nodes → All (AsksKept (sheet_tests rules)) nodes → (p : Path) → LeafPath (length rules) p → NoBytes p
        → end_walk rules tests cells (end_of nodes p) ≡ at_end rules nodes piece p
    end_agrees coded asked (took a w) inside none = λ i. took (sym none i) (leaf_agrees coded asked w.walked w.last inside i)
    end_agrees coded asked (refused q) inside none = refl

    module _ (g : List ℕ) (bytes : All IsByte g) {size : ℕ} (read : read_graph sheet g ≡ took size nodes) where
      -- The walk by cells, over the nodes at the starts, is the walk of the piece.
      pub walk_agrees
          : (starts : List ℕ) → take (length nodes) starts ≡ starts_from 5 nodes
          → end_walk rules tests cells (cells_end (nodes_at g starts (length nodes)) cells)
          ≡ graph_reply sheet g piece
      walk_agrees starts are =
          let near = nodes_near sheet sound g bytes read in
          let fit = nodes_fit sheet sound g bytes read in
          let few = sound.few_arguments in
          let same = paths_same sheet.arity piece ok few nodes near fit 64 0 in
          let leaf =
          subst (LeafPath (length rules)) same
          (cells_leaf (length rules) nodes cells (nodes_leaves sheet sound g bytes read)) in
          ap (λ (ns : List (Node ℕ)). end_walk rules tests cells (cells_end ns cells))
          (nodes_are sheet sound g bytes read starts are)
          ∙ ap (λ (p : Path). end_walk rules tests cells (end_of nodes p)) same
          ∙ end_agrees (nodes_coded sheet sound g bytes read) (nodes_asked sheet sound g bytes read (sheet_tests rules) refl)
          (path nodes piece) leaf (no_bytes nodes piece most_edges 0)
          ∙ sym (ap (λ r. and_then r (λ _ ns. walk rules ns piece)) read)
