-- Leaves in a built graph (document 01, "Nodes"): "All fail nodes are one, all suspend nodes one, execute nodes one for
-- each rule."
use Prim.Native.Nat.{ℕ, zero, suc, ◌<◌}
use mathlib.Core.Path.{◌≡◌, refl, ap, sym, subst, ◌∙◌}
use mathlib.Core.List.{List, [], ◌∷◌}
use mathlib.Core.Option.{Option, some, none}
use native.Mathlib.Omega.{arith}
use lib.Dec.{T}
use lib.ListN.{length, get_or, length-map, get_or-map}
use Rattle.masks.specs.Mask.{has}
use Rattle.basics.specs.Lists.{Mem}
use Rattle.terms.specs.Pattern.{Patterns}
use Rattle.sheet_tests.specs.SheetTests.{Test, place, pair}
use Rattle.decision.specs.Rules.{test_at}
use Rattle.decision.specs.Key.{Key, Leaf, fail_node, Vertex, leaf, asking}
use Rattle.decision.specs.Node.{Node, end, map_node}
use Rattle.decision.specs.Edges.{first_in, ask_node, ask_first, node_of}
use Rattle.decision.specs.Graph.{vertices, numbered, numbered_if, graph_in}
use Rattle.decision.specs.AskingOrder.{AskingOrder}
use Rattle.basics.proofs.Clash.{clash}
use Rattle.decision.proofs.exploring.BreadthFirst.{some_none}
use Rattle.decision.proofs.exploring.MetOnce.{Distinct}
use Rattle.decision.proofs.keys.Vertices.{Means, asking_pending}
use Rattle.decision.proofs.keys.AskedFirst.{first_found}
use Rattle.decision.proofs.built.BuiltNodes.{number_of}
use Rattle.decision.proofs.keys.EdgeKeys.{LedTo, led_key, led_means}
use Rattle.decision.proofs.built.Sharing.{listing, listed_led}
use Rattle.basics.proofs.Positions.{mem_at}

-- In a list where nothing stands twice, a thing has one number.
pub one_number
    : {A : Type 0} (d : A) (xs : List A) → Distinct xs → (m n : ℕ) → m < length xs → n < length xs
    → get_or xs m d ≡ get_or xs n d → m ≡ n
one_number d [] once m n h k e = absurd (let z : ⊥ = omega arith in z)
one_number d (x ∷ xs) once zero zero h k e = refl
one_number {A} d (x ∷ xs) once zero (suc n) h k e =
    absurd (once.0 (subst (λ (y : A). Mem y xs) (sym e) (mem_at d xs n (omega arith))))
one_number {A} d (x ∷ xs) once (suc m) zero h k e =
    absurd (once.0 (subst (λ (y : A). Mem y xs) e (mem_at d xs m (omega arith))))
one_number d (x ∷ xs) once (suc m) (suc n) h k e = ap suc (one_number d xs once.1 m n (omega arith) (omega arith) e)

module _ (rules : List Patterns) (order : List ℕ) (asks : AskingOrder rules order) (number : Vertex → ℕ) where
  -- A node that asks is no leaf.
  asks_no_leaf
      : {C : Type 0} (key : Key) (t : ℕ) (test : Test) (l : Leaf)
      → map_node number (ask_node rules key t test) ≡ end l → C
  asks_no_leaf key t (place n) l e = clash (cc)
  asks_no_leaf key t (pair p q) l e = clash (cc)

  -- The node of a vertex is a leaf only if the vertex is that leaf.
  leaf_vertex : (v : Vertex) → LedTo rules v → (l : Leaf) → map_node number (node_of rules order v) ≡ end l → v ≡ leaf l
  leaf_vertex (leaf k) led l e = let same : k ≡ l = cc in ap leaf same
  leaf_vertex (asking key) led l e = go (first_in key.pending order) refl e
    where
      means : Means rules (led_key rules led) (asking key)
      means = led_means rules led

      go
          : (x : Option ℕ) → first_in key.pending order ≡ x → map_node number (ask_first rules key x) ≡ end l
          → asking key ≡ leaf l
      go none d k =
          let p = asking_pending rules (led_key rules led) means in
          let pending = subst (λ (j : Key). T (has j.pending p.0)) (sym means.0) p.2 in
          let inside = asks.whole p.0 p.1 in
          let first = first_found rules key.pending order asks.ordered p.0 inside pending in
          some_none (sym d ∙ first.1)
      go (some t) d k = asks_no_leaf key t (test_at rules t) l k

-- In a graph built in any asking order two nodes that are the same leaf are one.
pub one_leaf
    : (rules : List Patterns) (order : List ℕ) → AskingOrder rules order
    → (nodes : List (Node ℕ)) → graph_in rules order ≡ some nodes
    → (l : Leaf) (m n : ℕ) → m < length nodes → n < length nodes
    → get_or nodes m (end fail_node) ≡ end l → get_or nodes n (end fail_node) ≡ end l → m ≡ n
one_leaf rules order asks nodes built l m n = go (vertices rules order) refl built
  where
    Goal : List (Node ℕ) → Type 0
    Goal xs = m < length xs → n < length xs → get_or xs m (end fail_node) ≡ end l → get_or xs n (end fail_node) ≡ end l → m ≡ n

    listed_goal : (vs : List Vertex) → vertices rules order ≡ some vs → Goal (numbered rules order vs)
    listed_goal vs listed h k d e =
        one_number (leaf fail_node) vs (listing rules order vs listed).once m n (omega (arith, long)) (omega (arith, long))
        (at m (omega (arith, long)) d ∙ sym (at n (omega (arith, long)) e))
      where
        number : Vertex → ℕ
        number v = number_of rules order vs v

        node : Vertex → Node ℕ
        node v = map_node number (node_of rules order v)

        long : length (numbered rules order vs) ≡ length vs
        long = length-map vs node

        at
            : (i : ℕ) → i < length vs → get_or (numbered rules order vs) i (end fail_node) ≡ end l
            → get_or vs i (leaf fail_node) ≡ leaf l
        at i s c =
            leaf_vertex rules order asks number (get_or vs i (leaf fail_node))
            (listed_led rules order vs listed (get_or vs i (leaf fail_node)) (mem_at (leaf fail_node) vs i s)) l
            (sym (get_or-map node vs i (leaf fail_node)) ∙ c)

    go : (x : Option (List Vertex)) → vertices rules order ≡ x → numbered_if rules order x ≡ some nodes → Goal nodes
    go none d e = some_none e
    go (some vs) d e =
        let same : numbered rules order vs ≡ nodes = cc in
        subst Goal same (listed_goal vs d)
