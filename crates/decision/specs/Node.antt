-- Nodes (document 01, "Records", "Graph"), and where a term leads at a switch (document 02, request 4).
use Rattle.std.specs.Prelude.{ℕ, List, [], ◌∷◌, ◌++◌, map}
use Rattle.std.proofs.Math.Option.{Option, some, none}
use Rattle.terms.specs.Term.{Term}
use Rattle.decision.specs.Key.{Leaf}
use Rattle.decision.specs.Cases.{Case, takes}
use Rattle.decision.specs.Narrowest.{narrower, best}

-- A case of a switch and where it leads.
pub record CaseEdge (A : Type 0) : Type 0 where
  pub case : Case
  pub target : A

-- "40 fail, 41 suspend, no bodies. 42 execute (rule, from 1)": a leaf; a switch with its place, cases, neither and unknown; a pair
-- with its places, no and other.
-- Edges lead to an A: to a vertex while the graph is laid out, to a node's number in the graph.
pub data Node (A : Type 0) : Type 0 where
  end : Leaf → Node A
  switch : ℕ → List (CaseEdge A) → A → A → Node A
  pair_node : ℕ → ℕ → A → A → Node A

-- "A switch's edges are taken as cases, neither, unknown, a pair's as no, other."
abbrev pub edges : {A : Type 0} → Node A → List A
edges (end l) = []
edges {A} (switch n cs x y) = map (λ (c : CaseEdge A). c.target) cs ++ x ∷ y ∷ []
edges (pair_node p q x y) = x ∷ y ∷ []

-- The same node with other targets.
abbrev pub map_case : {A B : Type 0} → (A → B) → CaseEdge A → CaseEdge B
map_case f c = record { case = c.case; target = f c.target }

abbrev pub map_node : {A B : Type 0} → (A → B) → Node A → Node B
map_node f (end l) = end l
map_node f (switch n cs x y) = switch n (map (map_case f) cs) (f x) (f y)
map_node f (pair_node p q x y) = pair_node p q (f x) (f y)

-- Where a case leads, or where none does.
abbrev pub leads_or : {A : Type 0} → A → Option (CaseEdge A) → A
leads_or neither none = neither
leads_or neither (some c) = c.target

-- Where a known term leads at a switch: "Of the cases that contain it, a number or span follows the one with the highest low, then
-- the lowest high; else neither."
abbrev pub follow : {A : Type 0} → List (CaseEdge A) → A → Term → A
follow {A} cs neither t =
    leads_or neither
    (best (λ (c : CaseEdge A). takes c.case t) (λ (c d : CaseEdge A). narrower c.case d.case) cs)
