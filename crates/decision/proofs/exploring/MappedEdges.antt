-- The edges of a node with other targets.
use mathlib.Core.Path.{◌≡◌, refl, ap}
use mathlib.Core.List.{List, [], ◌∷◌, ◌++◌, map}
use Rattle.decision.specs.Node.{Node, CaseEdge, end, switch, pair_node, edges, map_case, map_node}

-- They lead to these targets.
pub edges_mapped : {A B : Type 0} (f : A → B) (node : Node A) → edges (map_node f node) ≡ map f (edges node)
edges_mapped f (end l) = refl
edges_mapped {A} {B} f (switch n cs x y) = go cs
  where
    go
        : (cs : List (CaseEdge A))
        → map (λ (c : CaseEdge B). c.target) (map (map_case f) cs) ++ f x ∷ f y ∷ []
        ≡ map f (map (λ (c : CaseEdge A). c.target) cs ++ x ∷ y ∷ [])
    go [] = refl
    go (c ∷ cs) = ap (λ (l : List B). f c.target ∷ l) (go cs)
edges_mapped f (pair_node p q x y) = refl
