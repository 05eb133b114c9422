-- In the cells of an accepted piece, the path is that of the piece.
use Prim.Native.Nat.{ℕ, zero, suc, ◌≤◌}
use mathlib.Core.Path.{◌≡◌, refl, ap, ◌∙◌}
use mathlib.Core.List.{List, [], ◌∷◌}
use lib.ListN.{get_or}
use Rattle.basics.specs.Lists.{All}
use Rattle.terms.specs.Term.{Terms}
use Rattle.terms.specs.Accepted.{AcceptedPiece}
use Rattle.piece.specs.views.LaidOut.{piece_cells}
use Rattle.decision.specs.Key.{fail_node}
use Rattle.decision.specs.Node.{Node, end}
use Rattle.decision.specs.Path.{Step, stop, go_to, no_way, Path, through, step_at, last_step, next_step, path_from, path_by}
use Rattle.steps.specs.views.CodeSteps.{step_cells, NearNode}
use Rattle.steps.proofs.StepsAgree.{FieldsFit, step_agrees}

-- What is said of each node of a list is said of each number's, where it is said of the node that stands for no number.
pub nodes_each
    : (Q : Node ℕ → Type 0) (nodes : List (Node ℕ)) → Q (end fail_node) → All Q nodes → (n : ℕ) → Q (get_or nodes n (end fail_node))
nodes_each Q [] none h n = none
nodes_each Q (x ∷ nodes) none h zero = h.0
nodes_each Q (x ∷ nodes) none h (suc n) = nodes_each Q nodes none h.1 n

module _ (arity : ℕ) (piece : Terms) (accepted : AcceptedPiece arity piece) (few : arity ≤ 8) (nodes : List (Node ℕ))
    (near : All NearNode nodes) (fit : All FieldsFit nodes) where
  abbrev cells : List ℕ
  cells = piece_cells piece

  step_same : (n : ℕ) → step_cells cells (get_or nodes n (end fail_node)) ≡ step_at piece (get_or nodes n (end fail_node))
  step_same n =
      step_agrees arity piece accepted few (get_or nodes n (end fail_node)) (nodes_each NearNode nodes tt near n)
      (nodes_each FieldsFit nodes tt fit n)

  pub paths_same
      : (more n : ℕ) → path_by (λ k. step_cells cells (get_or nodes k (end fail_node))) more n ≡ path_from nodes piece more n
  paths_same zero n = ap (last_step n) (step_same n)
  paths_same (suc more) n =
      ap (next_step (path_by (λ k. step_cells cells (get_or nodes k (end fail_node))) more) n) (step_same n)
      ∙ next_same (paths_same more) (step_at piece (get_or nodes n (end fail_node)))
    where
      next_same
          : {f g : ℕ → Path} → ((m : ℕ) → f m ≡ g m) → (s : Step ℕ) → next_step f n s ≡ next_step g n s
      next_same h (stop l) = refl
      next_same h (go_to m) = ap (through n) (h m)
      next_same h no_way = refl
