-- The nodes of a built graph: the root has number 0, and at the number of a vertex stands its node, whose edges lead to
-- the numbers of vertices met.
use Prim.Native.Nat.{ℕ, zero, suc}
use mathlib.Core.Path.{◌≡◌, refl, ap, sym, subst, ◌∙◌}
use mathlib.Core.Logic.{inl, ◌↔◌}
use mathlib.Core.List.{List, [], ◌∷◌, map}
use mathlib.Core.Option.{some, none}
use lib.ListN.{get_or}
use Rattle.basics.specs.Lists.{Mem, here}
use Rattle.terms.specs.Term.{Terms}
use Rattle.terms.specs.Pattern.{Patterns}
use Rattle.basics.proofs.Booleans.{cond_true}
use Rattle.decision.specs.Key.{fail_node, Vertex, leaf, root_key, vertex_of, same_vertex}
use Rattle.decision.specs.Node.{Node, map_node}
use Rattle.decision.specs.Edges.{node_of}
use Rattle.decision.specs.Graph.{number_in, most_nodes, next_vertices, vertices, numbered}
use Rattle.decision.specs.Path.{node_at}
use Rattle.decision.proofs.exploring.BreadthFirst.{explore_closed}
use Rattle.decision.proofs.exploring.MetOnce.{explore_first, number_right}
use Rattle.decision.proofs.keys.SameVertex.{same_vertex_lem, vertex_same}
use Rattle.decision.proofs.exploring.Explored.{look_all, MoreThan, none_exactly, breadth_first}

-- What stands at a number of a mapped list.
get_map : {A B : Type 0} (f : A → B) (d : A) (xs : List A) (n : ℕ) → get_or (map f xs) n (f d) ≡ f (get_or xs n d)
get_map f d [] n = refl
get_map f d (x ∷ xs) zero = refl
get_map f d (x ∷ xs) (suc n) = get_map f d xs n

module _ (rules : List Patterns) (order : List ℕ) where
  -- The vertex of the root,
  abbrev pub root_vertex : Vertex
  root_vertex = vertex_of rules (root_key rules)

  -- the number of a vertex among those met,
  abbrev pub number_of : List Vertex → Vertex → ℕ
  number_of vs v = number_in same_vertex vs v

  -- and its node, with edges to numbers.
  abbrev numbered_node : List Vertex → Vertex → Node ℕ
  numbered_node vs v = map_node (number_of vs) (node_of rules order v)

  -- There is no graph exactly where more than 1,024 vertices can be reached from the root.
  pub no_graph
      : (vertices rules order ≡ none)
      ↔ MoreThan same_vertex (next_vertices rules order) same_vertex_lem vertex_same root_vertex most_nodes
  no_graph = none_exactly same_vertex (next_vertices rules order) same_vertex_lem vertex_same root_vertex most_nodes

  module _ (vs : List Vertex) (built : vertices rules order ≡ some vs) where
    -- "Nodes are numbered breadth first from root 0."
    pub numbers_breadth_first : look_all same_vertex (next_vertices rules order) (root_vertex ∷ []) vs ≡ vs
    numbers_breadth_first = breadth_first same_vertex (next_vertices rules order) most_nodes root_vertex vs built

    -- The edges of a vertex that is met lead to vertices that are met.
    pub edges_met : (v : Vertex) → Mem v vs → (w : Vertex) → Mem w (next_vertices rules order v) → Mem w vs
    edges_met =
        explore_closed same_vertex (next_vertices rules order) same_vertex_lem vertex_same most_nodes
        (root_vertex ∷ []) (root_vertex ∷ []) vs (λ v m. inl m) built

    -- At the number of a vertex stands its node.
    pub node_at_lem
        : (piece : Terms) (v : Vertex) → Mem v vs
        → node_at (numbered rules order vs) (number_of vs v) ≡ numbered_node vs v
    node_at_lem piece v m =
        let there-is = number_right same_vertex (next_vertices rules order) same_vertex_lem vertex_same (leaf fail_node) v vs m in
        get_map (numbered_node vs) (leaf fail_node) vs (number_of vs v) ∙ ap (numbered_node vs) there-is.1

    -- The root is met first.
    root_first_lem : (rest : List Vertex) × (vs ≡ root_vertex ∷ rest)
    root_first_lem =
        explore_first same_vertex (next_vertices rules order) same_vertex_lem vertex_same most_nodes
        root_vertex [] (root_vertex ∷ []) vs built

    -- So it is met,
    pub root_met : Mem root_vertex vs
    root_met = subst (Mem root_vertex) (sym root_first_lem.1) here

    -- and its number is 0.
    pub root_number : number_of vs root_vertex ≡ 0
    root_number =
        ap (λ (l : List Vertex). number_of l root_vertex) root_first_lem.1
        ∙ cond_true (same_vertex root_vertex root_vertex) _ _ (vertex_same root_vertex)
