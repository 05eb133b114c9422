-- The keys behind the numbers of a graph's nodes: each number has one, and two numbers are equal exactly when the keys are equal or
-- the same leaf.
use Prim.Native.Nat.{ℕ, zero, suc, ◌<◌}
use mathlib.Core.Path.{◌≡◌, refl, sym, ap, subst, ◌∙◌}
use mathlib.Core.Logic.{◌↔◌, ◌⊎◌, inl, inr}
use mathlib.Core.List.{List, [], ◌∷◌, map}
use mathlib.Core.Option.{Option, some, none}
use native.Mathlib.Omega.{arith}
use lib.ListN.{length, get_or, length-map}
use Rattle.basics.specs.Lists.{Mem}
use Rattle.basics.proofs.ListLaws.{all_at}
use Rattle.basics.proofs.Positions.{mem_at, number_of_lem}
use Rattle.terms.specs.Term.{nil}
use Rattle.terms.specs.Pattern.{Patterns}
use Rattle.decision.specs.Key.{Key, fail_node, Vertex, leaf, root_key, vertex_of, same_vertex}
use Rattle.decision.specs.Node.{Node, end, edges, map_node}
use Rattle.decision.specs.Edges.{node_of}
use Rattle.decision.specs.Graph.{next_vertices, vertices, numbered, numbered_if, graph_in}
use Rattle.decision.specs.Sharing.{SameLeaf, KeyBehind, root, along}
use Rattle.decision.proofs.built.BuiltNodes.{number_of, edges_met, node_at_lem, root_met, root_number}
use Rattle.decision.proofs.keys.EdgeKeys.{LedTo, led_key, edges_led}
use Rattle.decision.proofs.exploring.MetOnce.{number_right}
use Rattle.decision.proofs.exploring.MappedEdges.{edges_mapped}
use Rattle.decision.proofs.keys.SameVertex.{same_vertex_lem, vertex_same}
use Rattle.decision.proofs.built.Sharing.{listing, one_node_exactly}
use Rattle.decision.proofs.built.OneLeaf.{one_number}

get_map
    : {A B : Type 0} (f : A → B) (d : A) (e : B) (xs : List A) (i : ℕ) → i < length (map f xs)
    → get_or (map f xs) i e ≡ f (get_or xs i d)
get_map f d e [] i h = absurd (let z : ⊥ = omega arith in z)
get_map f d e (x ∷ xs) zero h = refl
get_map f d e (x ∷ xs) (suc i) h = get_map f d e xs i (omega arith)

-- In a graph whose vertices are listed, the vertex of the key behind a number is listed with that number.
module _ (rules : List Patterns) (order : List ℕ) (vs : List Vertex) (listed : vertices rules order ≡ some vs) where
  abbrev nodes : List (Node ℕ)
  nodes = numbered rules order vs

  abbrev number : Vertex → ℕ
  number v = number_of rules order vs v

  -- The edges of its node are the numbers of the vertices that its edges lead to.
  listed_edges
      : (v : Vertex) {n : ℕ} → Mem v vs → number v ≡ n
      → edges (get_or nodes n (end fail_node)) ≡ map number (next_vertices rules order v)
  listed_edges v {n} member numbers =
      let at = node_at_lem rules order vs listed nil v member in
      let node = subst (λ (x : ℕ). get_or nodes x (end fail_node) ≡ map_node number (node_of rules order v)) numbers at in
      ap edges node ∙ edges_mapped number (node_of rules order v)

  behind : {n : ℕ} {key : Key} → KeyBehind rules order nodes n key → Mem (vertex_of rules key) vs × (number (vertex_of rules key) ≡ n)
  behind root = (root_met rules order vs listed, root_number rules order vs listed)
  behind (along {n} {m} {key} {next} before i inside carries leads) =
      let (member, numbers) = behind before in
      let v = vertex_of rules key in
      let same = listed_edges v member numbers in
      let short : i < length (map number (next_vertices rules order v)) = subst (λ (l : List ℕ). i < length l) same inside in
      let target = get_map number (leaf fail_node) 0 (next_vertices rules order v) i short in
      let met =
      mem_at (leaf fail_node) (next_vertices rules order v) i (omega (arith, short, length-map (next_vertices rules order v) number)) in (
        edges_met rules order vs listed v member (vertex_of rules next)
            (subst (λ (x : Vertex). Mem x (next_vertices rules order v)) leads met),
        ap number (sym leads) ∙ sym target ∙ ap (λ (l : List ℕ). get_or l i 0) (sym same) ∙ carries,
      )

  -- Each edge of its node has a key behind it.
  next_behind
      : {n : ℕ} {key : Key} → KeyBehind rules order nodes n key → (i : ℕ) → i < length (edges (get_or nodes n (end fail_node)))
      → (next : Key) × KeyBehind rules order nodes (get_or (edges (get_or nodes n (end fail_node))) i 0) next
  next_behind {n} {key} before i inside =
      let (member, numbers) = behind before in
      let next = next_vertices rules order (vertex_of rules key) in
      let short = subst (λ (l : List ℕ). i < length l) (listed_edges (vertex_of rules key) member numbers) inside in
      let at = mem_at (leaf fail_node) next i (omega (arith, short, length-map next number)) in
      let led = all_at (LedTo rules) at (edges_led rules order (vertex_of rules key)) in
      (led_key rules led, along before i inside refl led.is)

  -- Each listed vertex is that of a key behind its number: the root, or what an edge of a vertex with a smaller number leads to.
  vertex_behind
      : (most : ℕ) (v : Vertex) → Mem v vs → number v < most
      → (key : Key) × (vertex_of rules key ≡ v) × KeyBehind rules order nodes (number v) key
  vertex_behind zero v m less = absurd (let z : ⊥ = omega arith in z)
  vertex_behind (suc most) v m less =
      elim ((listing rules order vs listed).reached v m) [
        | inl e ↦ (
          root_key rules,
          sym e,
          subst (λ (n : ℕ). KeyBehind rules order nodes n (root_key rules))
              (sym (ap number e ∙ root_number rules order vs listed)) root,
        )
        | inr r ↦ from r.0 r.1 r.2 (vertex_behind most r.0 r.1 (omega (arith, r.3)))
      ]
    where
      from
          : (u : Vertex) → Mem u vs → Mem v (next_vertices rules order u)
          → ((key : Key) × (vertex_of rules key ≡ u) × KeyBehind rules order nodes (number u) key)
          → (key : Key) × (vertex_of rules key ≡ v) × KeyBehind rules order nodes (number v) key
      from u member edge (key, is, before) =
          let next = next_vertices rules order u in
          let (i, inside, at) = number_of_lem (leaf fail_node) next edge in
          let same = listed_edges u member refl in
          let short : i < length (map number next) = omega (arith, inside, length-map next number) in
          let carries = ap (λ (l : List ℕ). get_or l i 0) same ∙ get_map number (leaf fail_node) 0 next i short ∙ ap number at in
          let led = all_at (LedTo rules) edge (edges_led rules order u) in
          let leads = ap (λ (x : Vertex). get_or (next_vertices rules order x) i (leaf fail_node)) is ∙ at ∙ led.is in (
            led_key rules led,
            sym led.is,
            along before i (subst (λ (l : List ℕ). i < length l) (sym same) short) carries leads,
          )

  node_behind : (n : ℕ) → n < length nodes → (key : Key) × KeyBehind rules order nodes n key
  node_behind n inside =
      let short : n < length vs =
      omega (arith, inside, length-map vs (λ (x : Vertex). map_node number (node_of rules order x))) in
      let v = get_or vs n (leaf fail_node) in
      let member = mem_at (leaf fail_node) vs n short in
      let right = number_right same_vertex (next_vertices rules order) same_vertex_lem vertex_same (leaf fail_node) v vs member in
      let one = one_number (leaf fail_node) vs (listing rules order vs listed).once (number v) n right.0 short right.1 in
      let (key, is, behind) = vertex_behind (suc (number v)) v member (omega arith) in
      (key, subst (λ (m : ℕ). KeyBehind rules order nodes m key) one behind)

  numbers_share
      : {m n : ℕ} {k l : Key} → KeyBehind rules order nodes m k → KeyBehind rules order nodes n l
      → (m ≡ n) ↔ ((k ≡ l) ⊎ SameLeaf rules k l)
  numbers_share {m} {n} {k} {l} first second =
      let (first_met, is_m) = behind first in
      let (second_met, is-n) = behind second in
      let one = one_node_exactly rules order vs listed k l first_met second_met in
      (λ e. one.0 (is_m ∙ e ∙ sym is-n), λ h. sym is_m ∙ one.1 h ∙ is-n)

  -- At a number stands the node of the key behind it.
  key_node_lem
      : {n : ℕ} {key : Key} → KeyBehind rules order nodes n key
      → get_or nodes n (end fail_node) ≡ map_node number (node_of rules order (vertex_of rules key))
  key_node_lem {n} {key} before =
      let (member, numbers) = behind before in
      subst (λ (x : ℕ). get_or nodes x (end fail_node) ≡ map_node number (node_of rules order (vertex_of rules key))) numbers
      (node_at_lem rules order vs listed nil (vertex_of rules key) member)

-- What is so of the nodes of every graph, in whatever order it asks the tests.
pub record Shared (rules : List Patterns) (order : List ℕ) (nodes : List (Node ℕ)) : Type 0 where
  pub node_key : (n : ℕ) → n < length nodes → (key : Key) × KeyBehind rules order nodes n key
  pub edge_key
      : {n : ℕ} {key : Key} → KeyBehind rules order nodes n key → (i : ℕ) → i < length (edges (get_or nodes n (end fail_node)))
      → (next : Key) × KeyBehind rules order nodes (get_or (edges (get_or nodes n (end fail_node))) i 0) next
  pub equal_keys
      : {m n : ℕ} {key other : Key} → KeyBehind rules order nodes m key → KeyBehind rules order nodes n other
      → (m ≡ n) ↔ ((key ≡ other) ⊎ SameLeaf rules key other)
  pub number : Vertex → ℕ
  pub key_node
      : {n : ℕ} {key : Key} → KeyBehind rules order nodes n key
      → get_or nodes n (end fail_node) ≡ map_node number (node_of rules order (vertex_of rules key))

pub graph_shared
    : (rules : List Patterns) (order : List ℕ) (nodes : List (Node ℕ)) → graph_in rules order ≡ some nodes → Shared rules order nodes
graph_shared rules order nodes graph = go (vertices rules order) refl graph
  where
    go
        : (x : Option (List Vertex)) → vertices rules order ≡ x → numbered_if rules order x ≡ some nodes → Shared rules order nodes
    go none d e = let z : ◌≡◌ {A = ℕ} 0 1 = cc in absurd (omega arith)
    go (some vs) d e =
        let same : numbered rules order vs ≡ nodes = cc in
        subst (Shared rules order) same
        record {
          node_key = node_behind rules order vs d;
          edge_key = next_behind rules order vs d;
          equal_keys = numbers_share rules order vs d;
          number = number_of rules order vs;
          key_node = key_node_lem rules order vs d;
        }
