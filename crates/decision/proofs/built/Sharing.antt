-- Sharing in a built graph (document 01, "Nodes"): "A key met before leads to the node that already has it." The
-- vertices listed for a graph are closed under edges, each stands once, and each but the root is an edge of one with a
-- smaller number. Two keys are one node exactly when they are equal or the same leaf: only equal keys share a node.
use Prim.Native.Nat.{ℕ, ◌<◌}
use mathlib.Core.Path.{◌≡◌, refl, ap, sym, subst, ◌∙◌}
use mathlib.Core.Logic.{◌↔◌, ◌⊎◌, inl, inr}
use mathlib.Core.List.{List, [], ◌∷◌}
use mathlib.Core.Option.{some}
use lib.ListN.{length}
use Rattle.basics.specs.Lists.{Mem}
use Rattle.terms.specs.Pattern.{Patterns}
use Rattle.basics.proofs.ListLaws.{all_at, mem_cases, mem_none}
use Rattle.decision.specs.Key.{Key, Leaf, Vertex, leaf, asking, vertex_of, same_vertex}
use Rattle.decision.specs.Graph.{most_nodes, next_vertices, vertices}
use Rattle.decision.specs.Sharing.{SameLeaf}
use Rattle.decision.proofs.exploring.MetOnce.{Distinct, explore_distinct, explore_reached, number_right, number_one}
use Rattle.decision.proofs.keys.Vertices.{Means, vertex_means}
use Rattle.decision.proofs.keys.SameVertex.{same_vertex_lem, vertex_same}
use Rattle.decision.proofs.built.BuiltNodes.{root_vertex, number_of, edges_met, root_met, root_number}
use Rattle.decision.proofs.keys.EdgeKeys.{LedTo, led_key, edges_led, root_led}

-- A key is a leaf, or asks as itself.
leaf_or_itself
    : (rules : List Patterns) (key : Key)
    → ((m : Leaf) × (vertex_of rules key ≡ leaf m)) ⊎ (vertex_of rules key ≡ asking key)
leaf_or_itself rules key = go (vertex_of rules key) refl (vertex_means rules key)
  where
    go
        : (v : Vertex) → vertex_of rules key ≡ v → Means rules key v
        → ((m : Leaf) × (vertex_of rules key ≡ leaf m)) ⊎ (vertex_of rules key ≡ asking key)
    go (leaf m) e means = inl (m, e)
    go (asking k) e means = inr (e ∙ ap asking means.0)

module _ (rules : List Patterns) (order : List ℕ) (vs : List Vertex) where
  abbrev root : Vertex
  root = root_vertex rules order

  abbrev number : Vertex → ℕ
  number v = number_of rules order vs v

  -- What is so of the vertices listed for a graph: the root has number 0, what an edge of a listed vertex leads to is
  -- listed, each stands once, and each but the root is an edge of one with a smaller number.
  pub record Listing : Type 0 where
    pub root_first : Mem root vs × (number root ≡ 0)
    pub closed : (v w : Vertex) → Mem v vs → Mem w (next_vertices rules order v) → Mem w vs
    pub once : Distinct vs
    pub reached
        : (v : Vertex) → Mem v vs
        → (v ≡ root) ⊎ ((u : Vertex) × Mem u vs × Mem v (next_vertices rules order u) × (number u < number v))

  module _ (listed : vertices rules order ≡ some vs) where
    -- It is so of the vertices of every graph.
    pub listing : Listing
    listing = record {
      root_first = (root_met rules order vs listed, root_number rules order vs listed);
      closed = λ v w m e. edges_met rules order vs listed v m w e;
      once = explore_distinct same_vertex (next_vertices rules order) same_vertex_lem vertex_same most_nodes (root ∷ [])
          (root ∷ []) vs (λ m. mem_none m, tt) listed;
      reached = explore_reached same_vertex (next_vertices rules order) same_vertex_lem vertex_same most_nodes root (root ∷ [])
          (root ∷ []) vs (λ x h. h) (λ x h. elim (mem_cases h) [ inl e ↦ inl e | inr k ↦ absurd (mem_none k) ]) listed;
    }

    -- Each listed vertex, and so each that an edge leads to, is the vertex of a key.
    pub listed_led : (v : Vertex) → Mem v vs → LedTo rules v
    listed_led v m =
        elim (listing.reached v m) [
          | inl e ↦ subst (LedTo rules) (sym e) (root_led rules)
          | inr r ↦ all_at (LedTo rules) r.2 (edges_led rules order r.0)
        ]

    -- That key.
    pub listed_key : (v : Vertex) → Mem v vs → (k : Key) × (v ≡ vertex_of rules k)
    listed_key v m = let r = listed_led v m in (led_key rules r, r.is)

    -- Its number is that of a node.
    pub number_inside : (v : Vertex) → Mem v vs → number v < length vs
    number_inside v m = (number_right same_vertex (next_vertices rules order) same_vertex_lem vertex_same v v vs m).0

    -- Two listed vertices are one node exactly when they are equal.
    pub one_node : (v w : Vertex) → Mem v vs → Mem w vs → (number v ≡ number w) ↔ (v ≡ w)
    one_node v w m k = (number_one same_vertex (next_vertices rules order) same_vertex_lem vertex_same v w vs m k, ap number)

    -- Two keys are one node exactly when they are equal or the same leaf.
    pub one_node_exactly
        : (k l : Key) → Mem (vertex_of rules k) vs → Mem (vertex_of rules l) vs
        → (number (vertex_of rules k) ≡ number (vertex_of rules l)) ↔ ((k ≡ l) ⊎ SameLeaf rules k l)
    one_node_exactly k l m n = (λ e. forth ((one_node (vertex_of rules k) (vertex_of rules l) m n).0 e), back)
      where
        forth : vertex_of rules k ≡ vertex_of rules l → (k ≡ l) ⊎ SameLeaf rules k l
        forth e =
            elim (leaf_or_itself rules k) [
              | inl r ↦ inr (r.0, r.1, sym e ∙ r.1)
              | inr d ↦ elim (leaf_or_itself rules l) [
                | inl r ↦ inr (r.0, e ∙ r.1, r.1)
                | inr c ↦ inl (cc)
              ]
            ]

        back : (k ≡ l) ⊎ SameLeaf rules k l → number (vertex_of rules k) ≡ number (vertex_of rules l)
        back (inl e) = ap (λ (j : Key). number (vertex_of rules j)) e
        back (inr r) = ap number (r.1 ∙ sym r.2)

    -- So two edges of listed vertices, each to the vertex of a key, lead to one node exactly when their keys are equal or
    -- the same leaf.
    pub edges_share
        : (u v : Vertex) → Mem u vs → Mem v vs
        → (k l : Key)
        → Mem (vertex_of rules k) (next_vertices rules order u) → Mem (vertex_of rules l) (next_vertices rules order v)
        → (number (vertex_of rules k) ≡ number (vertex_of rules l)) ↔ ((k ≡ l) ⊎ SameLeaf rules k l)
    edges_share u v p q k l m n =
        one_node_exactly k l (listing.closed u (vertex_of rules k) p m) (listing.closed v (vertex_of rules l) q n)
