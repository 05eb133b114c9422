-- The graph that is built is one that the graph check accepts (document 01, "Questions at the counter", 21 to 24), in
-- whatever order its tests are asked.
use Prim.Native.Nat.{ℕ, zero, suc, ◌≤◌, ◌<◌}
use mathlib.Core.Path.{◌≡◌, refl, sym, subst}
use mathlib.Core.Bool.{Bool, true, false, cond}
use mathlib.Core.List.{List, [], ◌∷◌}
use mathlib.Core.Option.{Option, some, none}
use native.Mathlib.Omega.{arith}
use lib.Dec.{T}
use lib.ListN.{length, length-map}
use Rattle.masks.specs.Mask.{has}
use Rattle.basics.specs.Lists.{All, Mem}
use Rattle.terms.specs.Pattern.{Patterns}
use Rattle.terms.specs.Accepted.{AcceptedRule}
use Rattle.basics.proofs.ListLaws.{all_from}
use Rattle.sheet.specs.Sheet.{Sheet}
use Rattle.sheet_tests.specs.CheckSheet.{AcceptedSheet}
use Rattle.sheet_tests.specs.SheetTests.{place, sheet_tests}
use Rattle.decision.specs.Rules.{test_at}
use Rattle.decision.specs.Key.{Key, fail_node, suspend_node, execute_node, Vertex, leaf, asking, same_vertex, is_held}
use Rattle.decision.specs.Node.{Node, edges, map_node}
use Rattle.decision.specs.Edges.{first_in, ask_first, node_of}
use Rattle.decision.specs.Graph.{most_nodes, next_vertices, vertices, numbered, numbered_if, graph_in}
use Rattle.decision.specs.AcceptedGraph.{AcceptedNode, AcceptedGraph}
use Rattle.decision.proofs.exploring.BreadthFirst.{some_none}
use Rattle.decision.proofs.exploring.MetOnce.{explore_few}
use Rattle.basics.proofs.Filters.{mem_length, all_mapped}
use Rattle.decision.proofs.keys.Vertices.{held_by, pending_in, Means}
use Rattle.decision.proofs.keys.SameVertex.{same_vertex_lem, vertex_same}
use Rattle.decision.proofs.built.BuiltNodes.{root_vertex, number_of, edges_met, root_met}
use Rattle.decision.proofs.keys.EdgeKeys.{LedTo, led_key, led_means}
use Rattle.decision.proofs.built.Sharing.{listed_led, number_inside}
use Rattle.decision.proofs.built.BuiltSwitch.{asking_accepted}
use Rattle.basics.proofs.Positions.{mem_at}

-- The test that is asked is pending.
first_pending : (pending : ℕ) (order : List ℕ) (t : ℕ) → first_in pending order ≡ some t → T (has pending t)
first_pending pending [] t e = some_none e
first_pending pending (u ∷ order) t e = go (has pending u) refl (first_pending pending order t) e
  where
    go
        : (b : Bool) → has pending u ≡ b → (first_in pending order ≡ some t → T (has pending t))
        → cond b (some u) (first_in pending order) ≡ some t → T (has pending t)
    go true d f k = let same : u ≡ t = cc in subst (λ (x : ℕ). T (has pending x)) same (subst T (sym d) tt)
    go false d f k = f k

module _ (rules : List Patterns) where
  -- An edge that leads to execute i leads to a rule of the sheet.
  execute_rule : (i : ℕ) → LedTo rules (leaf (execute_node i)) → (1 ≤ i) × (i ≤ length rules)
  execute_rule i led = go i (led_means rules led)
    where
      go : (j : ℕ) → Means rules (led_key rules led) (leaf (execute_node j)) → (1 ≤ j) × (j ≤ length rules)
      go zero m = absurd m
      go (suc j) m = (omega arith, omega (arith, m.0))

  -- A pending test of a key that an edge leads to is a test of the sheet, and a live rule has it.
  pending_held
      : (key : Key) → LedTo rules (asking key) → (t : ℕ) → T (has key.pending t)
      → (t < length (sheet_tests rules)) × T (is_held rules key.live t)
  pending_held key led t h =
      let same : key ≡ led_key rules led = (led_means rules led).0 in
      let r = pending_in rules led.live led.is_left t (subst (λ (l : Key). T (has l.pending t)) same h) in
      (r.0, subst (λ (l : Key). T (is_held rules l.live t)) (sym same) r.2)

module _ (arity : ℕ) (rules : List Patterns) (accepted : All (AcceptedRule arity) rules) (few : length rules ≤ 64)
    (order : List ℕ) (vs : List Vertex) (listed : vertices rules order ≡ some vs) where
  abbrev number : Vertex → ℕ
  number v = number_of rules order vs v

  abbrev root : Vertex
  root = root_vertex rules order

  -- Each edge leads to a node in range.
  edge_inside : (v w : Vertex) → Mem v vs → Mem w (next_vertices rules order v) → number w < length vs
  edge_inside v w m e = number_inside rules order vs listed w (edges_met rules order vs listed v m w e)

  -- The node of each listed vertex is accepted.
  node_accepted : (v : Vertex) → Mem v vs → AcceptedNode rules (length vs) (map_node number (node_of rules order v))
  node_accepted (leaf fail_node) m = tt
  node_accepted (leaf suspend_node) m = tt
  node_accepted (leaf (execute_node i)) m = execute_rule rules i (listed_led rules order vs listed (leaf (execute_node i)) m)
  node_accepted (asking key) m = go (first_in key.pending order) refl
    where
      go
          : (x : Option ℕ) → first_in key.pending order ≡ x
          → AcceptedNode rules (length vs) (map_node number (ask_first rules key x))
      go none e = tt
      go (some t) e =
          let led = listed_led rules order vs listed (asking key) m in
          let p = pending_held rules key led t (first_pending key.pending order t e) in
          asking_accepted arity rules accepted few number (length vs) key t (test_at rules t)
          (mem_at (place 0) (sheet_tests rules) t p.0) (held_by rules key.live t p.1)
          (λ w k. edge_inside (asking key) w m
          (subst (λ (y : Option ℕ). Mem w (edges (ask_first rules key y))) (sym e) k))

  -- The graph has a node, and at most as many as are allowed.
  numbered_accepted : AcceptedGraph rules (numbered rules order vs)
  numbered_accepted =
      let long : length (numbered rules order vs) ≡ length vs = length-map vs node_at in
      record {
        some_node = omega (arith, mem_length (root_met rules order vs listed));
        few_nodes = omega (
          arith,
          explore_few same_vertex (next_vertices rules order) same_vertex_lem vertex_same most_nodes (root ∷ []) (root ∷ []) vs
              listed,
        );
        accepted_nodes = subst (λ (n : ℕ). All (AcceptedNode rules n) (numbered rules order vs)) (sym long)
            (all_mapped (AcceptedNode rules (length vs)) node_at vs
            (all_from (λ (v : Vertex). AcceptedNode rules (length vs) (node_at v)) vs node_accepted));
      }
    where
      node_at : Vertex → Node ℕ
      node_at v = map_node number (node_of rules order v)

-- The graph built for accepted rules, with its tests asked in any order, is one that the graph check accepts.
pub built_accepted
    : (arity : ℕ) (rules : List Patterns) → All (AcceptedRule arity) rules → length rules ≤ 64
    → (order : List ℕ) (nodes : List (Node ℕ)) → graph_in rules order ≡ some nodes
    → AcceptedGraph rules nodes
built_accepted arity rules accepted few order nodes e = go (vertices rules order) refl e
  where
    go
        : (x : Option (List Vertex)) → vertices rules order ≡ x → numbered_if rules order x ≡ some nodes
        → AcceptedGraph rules nodes
    go none d k = some_none k
    go (some vs) d k =
        let same : numbered rules order vs ≡ nodes = cc in
        subst (AcceptedGraph rules) same (numbered_accepted arity rules accepted few order vs d)

-- The graph built for an accepted sheet is one that the graph check accepts.
pub built_graph_accepted
    : (sheet : Sheet) → AcceptedSheet sheet
    → (order : List ℕ) (nodes : List (Node ℕ)) → graph_in sheet.rules order ≡ some nodes
    → AcceptedGraph sheet.rules nodes
built_graph_accepted sheet accepted =
    let few : length sheet.rules ≤ 64 = omega (arith, accepted.sound.few_rules) in
    built_accepted sheet.arity sheet.rules accepted.sound.accepted_rules few
