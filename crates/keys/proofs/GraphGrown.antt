-- What is grown is the graph: where the node of a key, off the tables and cuts of a sheet, is the book's node of its vertex,
-- breadth first over keys meets the keys of the vertices, and the nodes of the keys are those of the vertices.
use Prim.Native.Nat.{ℕ, zero, suc, ◌≤◌}
use mathlib.Core.Path.{◌≡◌, refl, sym, ap, subst, ◌∙◌}
use mathlib.Core.Bool.{Bool}
use mathlib.Core.List.{List, [], ◌∷◌, ◌++◌, map}
use mathlib.Core.Option.{Option, some, none}
use lib.Dec.{T}
use lib.ListN.{length}
use Rattle.basics.specs.Lists.{All}
use Rattle.basics.proofs.ListLaws.{all_join, all_at, all_from, all_map}
use Rattle.terms.specs.Pattern.{Patterns}
use Rattle.decision.specs.Key.{Key, Vertex, root_key, vertex_of, same_key, same_vertex}
use Rattle.decision.specs.Node.{Node, edges, map_node}
use Rattle.decision.specs.Edges.{node_of}
use Rattle.decision.specs.Graph.{new_ones, explore, number_in, most_nodes, next_vertices, vertices, numbered, numbered_if, graph_in}
use Rattle.decision.proofs.exploring.BreadthFirst.{some_none, new_from}
use Rattle.decision.proofs.exploring.ExploreMap.{named, explore_named, number_named}
use Rattle.decision.proofs.keys.SameVertex.{same_vertex_lem, vertex_same}
use Rattle.edges.specs.views.VertexKey.{vertex_key, vertex_in, Fits}
use Rattle.edges.specs.views.KeysBehind.{root_in}
use Rattle.edges.specs.views.NodeIn.{node_in}
use Rattle.met.specs.views.KeysMet.{key_number}
use Rattle.decision.proofs.exploring.MappedEdges.{edges_mapped}
use Rattle.keys.specs.views.Grown.{keys_from, nodes_from}
use Rattle.keys.proofs.Names.{named_vertex, told_apart}
use Rattle.keys.proofs.Occurring.{Occurs, edges_occur, root_occurs, occurs_fits}
use Rattle.keys.proofs.Targets.{nodes_same}

-- What holds along edges holds of all that is met.
all_explored
    : {A : Type 0} (same : A → A → Bool) (next : A → List A) (sound : (x y : A) → T (same x y) → x ≡ y)
    → (reflexive : (x : A) → T (same x x)) (Q : A → Type 0) → ((x : A) → Q x → All Q (next x))
    → (more : ℕ) (met queue all : List A) → All Q met → All Q queue → explore same next more met queue ≡ some all → All Q all
all_explored same next sound reflexive Q stays zero met [] all m q e = let k : met ≡ all = cc in subst (All Q) k m
all_explored same next sound reflexive Q stays zero met (x ∷ queue) all m q e = some_none e
all_explored same next sound reflexive Q stays (suc more) met [] all m q e = let k : met ≡ all = cc in subst (All Q) k m
all_explored {A} same next sound reflexive Q stays (suc more) met (x ∷ queue) all m q e =
    let new : List A = new_ones same met (next x) in
    let fresh : All Q new =
    all_from Q new (λ y k. all_at Q (new_from same next sound reflexive met (next x) y k) (stays x q.0)) in
    all_explored same next sound reflexive Q stays more (met ++ new) (queue ++ new) all (all_join Q met new m fresh)
    (all_join Q queue new q.1 fresh) e

-- Maps that agree on each thing in a list, after one another.
map_twice
    : {A B C : Type 0} (f : A → C) (g : B → C) (h : A → B) (xs : List A) → All (λ (x : A). f x ≡ g (h x)) xs
    → map f xs ≡ map g (map h xs)
map_twice f g h [] e = refl
map_twice f g h (x ∷ xs) e =
    let rest = map_twice f g h xs e.1 in
    λ i. e.0 i ∷ rest i

module _ (rules : List Patterns) (few : length rules ≤ 64) (order s c : List ℕ)
    (nodeIs : (key : Key) → Fits rules key → node_in s c key ≡ map_node vertex_key (node_of rules order (vertex_in key)))
    (rootIs : root_in s ≡ vertex_key (vertex_of rules (root_key rules))) where
  abbrev root : Vertex
  root = vertex_of rules (root_key rules)

  abbrev next_in : Key → List Key
  next_in key = edges (node_in s c key)

  -- The node of a vertex's key leads to the keys of what the vertex leads to,
  node_named : (v : Vertex) → Occurs rules v → node_in s c (vertex_key v) ≡ map_node vertex_key (node_of rules order v)
  node_named v o =
      nodeIs (vertex_key v) (occurs_fits rules v o)
      ∙ ap (λ (u : Vertex). map_node vertex_key (node_of rules order u)) (named_vertex rules few v o.0)

  leads : (v : Vertex) → Occurs rules v → next_in (vertex_key v) ≡ map vertex_key (next_vertices rules order v)
  leads v o = ap edges (node_named v o) ∙ edges_mapped vertex_key (node_of rules order v)

  apart : (v w : Vertex) → Occurs rules v → Occurs rules w → same_key (vertex_key v) (vertex_key w) ≡ same_vertex v w
  apart v w p q = told_apart rules few v w p.0 q.0

  -- so breadth first over keys meets the keys of the vertices.
  keys_explored : keys_from s c ≡ named vertex_key (vertices rules order)
  keys_explored =
      ap (λ (k : Key). explore same_key next_in most_nodes (k ∷ []) (k ∷ [])) rootIs
      ∙ explore_named same_vertex (next_vertices rules order) same_key next_in vertex_key (Occurs rules) apart leads
      (edges_occur rules order) most_nodes (root ∷ []) (root ∷ []) (root_occurs rules, tt) (root_occurs rules, tt)

  -- All vertices met occur.
  met_occur : (vs : List Vertex) → vertices rules order ≡ some vs → All (Occurs rules) vs
  met_occur vs e =
      all_explored same_vertex (next_vertices rules order) same_vertex_lem vertex_same (Occurs rules) (edges_occur rules order) most_nodes
      (root ∷ []) (root ∷ []) vs (root_occurs rules, tt) (root_occurs rules, tt) e

  module _ (vs : List Vertex) (occur : All (Occurs rules) vs) where
    -- A key's number is that of its vertex.
    key_number_lem : (w : Vertex) → Occurs rules w → number_in same_vertex vs w ≡ key_number (map vertex_key vs) (vertex_key w)
    key_number_lem w o =
        sym (number_named same_vertex (next_vertices rules order) same_key next_in vertex_key (Occurs rules) apart leads
        (edges_occur rules order) vs w occur o)

    -- The node of a vertex is that of its key.
    key_node_lem
        : (v : Vertex) → Occurs rules v
        → map_node (number_in same_vertex vs) (node_of rules order v)
        ≡ map_node (key_number (map vertex_key vs)) (node_in s c (vertex_key v))
    key_node_lem v o =
        let f : Vertex → ℕ = number_in same_vertex vs in
        let g : Key → ℕ = key_number (map vertex_key vs) in
        nodes_same f g vertex_key (node_of rules order v)
        (all_map (Occurs rules) (λ (w : Vertex). f w ≡ g (vertex_key w)) key_number_lem (next_vertices rules order v)
        (edges_occur rules order v o))
        ∙ ap (map_node g) (sym (node_named v o))

    -- The nodes of the vertices are those of their keys.
    nodes_keyed : numbered rules order vs ≡ nodes_from s c (map vertex_key vs)
    nodes_keyed =
        let f : Vertex → Node ℕ = λ v. map_node (number_in same_vertex vs) (node_of rules order v) in
        let g : Key → Node ℕ = λ key. map_node (key_number (map vertex_key vs)) (node_in s c key) in
        map_twice f g vertex_key vs (all_map (Occurs rules) (λ (v : Vertex). f v ≡ g (vertex_key v)) key_node_lem vs occur)

  -- The nodes of the keys met are the graph,
  pub graph_grown : {keys : List Key} → keys_from s c ≡ some keys → graph_in rules order ≡ some (nodes_from s c keys)
  graph_grown {keys} e = go (vertices rules order) refl (sym keys_explored ∙ e)
    where
      go
          : (x : Option (List Vertex)) → vertices rules order ≡ x → named vertex_key x ≡ some keys
          → numbered_if rules order x ≡ some (nodes_from s c keys)
      go none d k = some_none k
      go (some vs) d k =
          let same : map vertex_key vs ≡ keys = cc in
          ap some (nodes_keyed vs (met_occur vs d)) ∙ ap (λ (l : List Key). some (nodes_from s c l)) same

  -- and where they are too many, there is none.
  pub graph_none : keys_from s c ≡ none → graph_in rules order ≡ none
  graph_none e = go (vertices rules order) (sym keys_explored ∙ e)
    where
      go : (x : Option (List Vertex)) → named vertex_key x ≡ none → numbered_if rules order x ≡ none
      go none d = refl
      go (some vs) d = some_none (sym d)
