-- The walk over the nodes of a built graph: the path ends at a leaf that is right with the tests met seen, with no
-- refusal, after at most as many edges as the sheet has tests. So the walk answers what demand 3 asks for, in every
-- asking order.
use Prim.Native.Nat.{ℕ, zero, suc, pred, ◌≤◌, ◌<◌}
use mathlib.Core.Path.{◌≡◌, refl, ap, sym, subst, ◌∙◌}
use mathlib.Core.Logic.{◌⊎◌, inl, inr}
use mathlib.Core.List.{List, ◌∷◌}
use mathlib.Core.Option.{Option, some, none}
use native.Mathlib.Omega.{arith}
use lib.Dec.{T}
use lib.ListN.{length}
use Rattle.basics.specs.Lists.{Mem, All}
use Rattle.basics.proofs.Booleans.{true_left, true_right}
use Rattle.terms.specs.Term.{Terms}
use Rattle.terms.specs.Pattern.{Patterns}
use Rattle.terms.specs.Accepted.{AcceptedRule, AcceptedPiece}
use Rattle.terms.specs.Right.{Right}
use Rattle.sheet_tests.specs.SheetTests.{sheet_tests}
use Rattle.decision.specs.Rules.{test_at}
use Rattle.decision.specs.Key.{Key, Leaf, fail_node, suspend_node, execute_node, Vertex, leaf, asking, root_key}
use Rattle.decision.specs.Node.{Node}
use Rattle.decision.specs.Edges.{first_in, node_of}
use Rattle.decision.specs.Graph.{vertices, numbered, numbered_if, graph_in}
use Rattle.decision.specs.AskingOrder.{AskingOrder}
use Rattle.decision.specs.Path.{Step, Path, ends, through}
use Rattle.decision.specs.Path.{node_at, last_step, next_step, path_from, path}
use Rattle.decision.specs.Walk.{Walk, asks_test, is_met, at_leaf, at_end, walk}
use Rattle.decision.proofs.exploring.BreadthFirst.{some_none}
use Rattle.decision.proofs.keys.Sets.{members_most}
use Rattle.decision.proofs.keys.Vertices.{vertex_means}
use Rattle.decision.proofs.elimination.RightKeys.{RightVertex, vertex_more, root_right}
use Rattle.decision.proofs.keys.EdgesLeft.{edges_left, left_pending}
use Rattle.decision.proofs.elimination.RightLeaves.{right_leaf}
use Rattle.decision.proofs.elimination.RightSteps.{right_step}
use Rattle.decision.proofs.rules.TestsOfRules.{test_same}
use Rattle.decision.proofs.walking.StepEdges.{map_step, step_edge}
use Rattle.decision.proofs.walking.BuiltSteps.{step_at_lem, asked_is}
use Rattle.decision.proofs.built.BuiltNodes.{root_vertex, number_of, edges_met, root_met, root_number}
use Rattle.records.specs.Reading.{took, refused}

-- The sheet's test t is met on the nodes walked.
abbrev pub MetOn : List Patterns → List (Node ℕ) → List ℕ → ℕ → Type 0
MetOn rules nodes walked t = (t < length (sheet_tests rules)) × T (is_met rules nodes walked t)

-- The path of the piece ends at a leaf, so the walk answers; the answer is right, the path has at most as many edges as
-- the sheet has tests, and the leaf is right with the tests met seen.
pub record WalksRight (rules : List Patterns) (nodes : List (Node ℕ)) (piece : Terms) : Type 0 where
  pub walked : List ℕ
  pub last : Leaf
  pub ended : path nodes piece ≡ ends walked last
  pub right : Right rules piece (at_leaf rules nodes piece walked last).answer
  pub short : pred (length walked) ≤ length (sheet_tests rules)
  pub ending : RightVertex rules piece (MetOn rules nodes walked) (leaf last)

-- The edges walked are the nodes walked less 1.
leaf_edges
    : (rules : List Patterns) (nodes : List (Node ℕ)) (piece : Terms) (walked : List ℕ) (l : Leaf)
    → (at_leaf rules nodes piece walked l).edges ≡ pred (length walked)
leaf_edges rules nodes piece walked fail_node = refl
leaf_edges rules nodes piece walked suspend_node = refl
leaf_edges rules nodes piece walked (execute_node i) = refl

module _ {rules : List Patterns} {nodes : List (Node ℕ)} {piece : Terms} (r : WalksRight rules nodes piece) where
  -- What the walk gives at its leaf.
  abbrev pub given : Walk
  given = at_leaf rules nodes piece r.walked r.last

  -- The walk answers this,
  pub walk_answers : walk rules nodes piece ≡ took 0 given
  walk_answers = ap (at_end rules nodes piece) r.ended

  -- so what it answers is right,
  pub answer_right : {w : Walk} → walk rules nodes piece ≡ took 0 w → Right rules piece w.answer
  answer_right {w} e =
      let same : given ≡ w = cc walk_answers in
      subst (λ (x : Walk). Right rules piece x.answer) same r.right

  -- and has few edges.
  pub answer_few : {w : Walk} → walk rules nodes piece ≡ took 0 w → w.edges ≤ length (sheet_tests rules)
  answer_few {w} e =
      let same : given ≡ w = cc walk_answers in
      let few : given.edges ≤ length (sheet_tests rules) =
      omega (arith, leaf_edges rules nodes piece r.walked r.last, r.short) in
      subst (λ (x : Walk). x.edges ≤ length (sheet_tests rules)) same few

module _ (arity : ℕ) (rules : List Patterns) (piece : Terms)
    (accepted : All (AcceptedRule arity) rules) (ok : AcceptedPiece arity piece)
    (order : List ℕ) (asks : AskingOrder rules order) where
  module _ (vs : List Vertex) (built : vertices rules order ≡ some vs) where
    -- The nodes, and the numbers of the vertices.
    abbrev nodes : List (Node ℕ)
    nodes = numbered rules order vs

    abbrev number : Vertex → ℕ
    number v = number_of rules order vs v

    -- The path ends at a leaf that is right with the tests met on it seen too, after at most so many edges.
    abbrev EndsRight : (ℕ → Type 0) → ℕ → Path → Type 0
    EndsRight Seen most (took a w) =
        RightVertex rules piece (λ t. Seen t ⊎ MetOn rules nodes w.walked t) (leaf w.last)
        × (length w.walked ≤ suc most) × (a ≡ 0)
    EndsRight Seen most (refused q) = ⊥

    -- A path with one edge more, from a node that asks test t, ends right too.
    through_right
        : (Seen : ℕ → Type 0) (n t most all : ℕ) → most < all → t < length (sheet_tests rules)
        → T (asks_test (test_at rules t) (node_at nodes n)) → (p : Path) → EndsRight (λ u. Seen u ⊎ (u ≡ t)) most p
        → EndsRight Seen all (through n p)
    through_right Seen n t most all l inside asked (took a w) h =
        (vertex_more rules piece met h.0, omega (arith, h.1), h.2)
      where
        -- What was met later is met on the longer path, and so is test t.
        met
            : (u : ℕ) → (Seen u ⊎ (u ≡ t)) ⊎ MetOn rules nodes w.walked u
            → Seen u ⊎ MetOn rules nodes (n ∷ w.walked) u
        met u (inl (inl s)) = inl s
        met u (inl (inr e)) =
            let now = true_left (asks_test (test_at rules t) (node_at nodes n)) (is_met rules nodes w.walked t) asked in
            inr (subst (MetOn rules nodes (n ∷ w.walked)) (sym e) (inside, now))
        met u (inr k) =
            inr (k.0, true_right (asks_test (test_at rules u) (node_at nodes n)) (is_met rules nodes w.walked u) k.1)
    through_right Seen n t most all l inside asked (refused q) h = h

    -- The node of a vertex that asks test t first asks it.
    asks_first
        : (key : Key) → Mem (asking key) vs → (t : ℕ) → first_in key.pending order ≡ some t
        → T (asks_test (test_at rules t) (node_at nodes (number (asking key))))
    asks_first key m t first =
        subst T (sym (asked_is rules order vs built piece key m t first (test_at rules t))) (test_same (test_at rules t))

    -- The path goes on as the step does.
    abbrev go_on : ℕ → Vertex → Step ℕ → Path
    go_on more v s = next_step (λ n. path_from nodes piece more n) (number v) s

    -- The path from a right vertex ends right, where as many edges may be walked as are left.
    path_right
        : {Seen : ℕ → Type 0} (more : ℕ) (v : Vertex) → Mem v vs → RightVertex rules piece Seen v → edges_left rules v ≤ more
        → EndsRight Seen (edges_left rules v) (path_from nodes piece more (number v))
    path_right {Seen = Seen} zero (leaf l) m right few =
        subst (λ s. EndsRight Seen 0 (last_step (number (leaf l)) s)) (sym (step_at_lem rules order vs built piece (leaf l) m))
        (vertex_more rules piece (λ t h. inl h) right, omega arith, refl)
    path_right {Seen = Seen} zero (asking key) m right few =
        let next = right_step arity rules piece accepted ok order asks key right in
        absurd (let z : ⊥ = omega (arith, next.fewer) in z)
    path_right {Seen = Seen} (suc more) (leaf l) m right few =
        subst (λ s. EndsRight Seen 0 (go_on more (leaf l) s)) (sym (step_at_lem rules order vs built piece (leaf l) m))
        (vertex_more rules piece (λ t h. inl h) right, omega arith, refl)
    path_right {Seen = Seen} (suc more) (asking key) m right few =
        let step = right_step arity rules piece accepted ok order asks key right in
        let v = step.next in
        let edge = step_edge piece (node_of rules order (asking key)) step.goes in
        let met = edges_met rules order vs built (asking key) m v edge in
        let rest = path_right {Seen = λ u. Seen u ⊎ (u ≡ step.test)} more v met step.right (omega (arith, step.fewer)) in
        let goes = step_at_lem rules order vs built piece (asking key) m ∙ ap (map_step number) step.goes in
        let all = edges_left rules (asking key) in
        let on = path_from nodes piece more (number v) in
        subst (λ s. EndsRight Seen all (go_on more (asking key) s)) (sym goes)
        (through_right Seen (number (asking key)) step.test (edges_left rules v) all step.fewer step.numbered
        (asks_first key m step.test step.asked) on rest)

    -- The root.
    abbrev root : Vertex
    root = root_vertex rules order

    -- The root has at most as many edges left as the sheet has tests.
    root_left : edges_left rules root ≤ length (sheet_tests rules)
    root_left =
        let key = root_key rules in
        omega (
          arith,
          left_pending rules key root (vertex_means rules key),
          members_most (length (sheet_tests rules)) key.pending,
        )

    -- So the path from node 0 ends right,
    root_path : length (sheet_tests rules) ≤ 64 → EndsRight (λ t. ⊥) (edges_left rules root) (path nodes piece)
    root_path few =
        let met = root_met rules order vs built in
        let ending = path_right 64 root met (root_right rules piece) (omega (arith, root_left)) in
        let zero = root_number rules order vs built in
        subst (λ n. EndsRight (λ t. ⊥) (edges_left rules root) (path_from nodes piece 64 n)) zero ending

    -- and the walk answers rightly.
    vertices_right : length (sheet_tests rules) ≤ 64 → WalksRight rules nodes piece
    vertices_right few = go (path nodes piece) refl (root_path few)
      where
        go
            : (p : Path) → path nodes piece ≡ p → EndsRight (λ t. ⊥) (edges_left rules root) p → WalksRight rules nodes piece
        go (took a w) e h = record {
          walked = w.walked;
          last = w.last;
          ended = e ∙ ap (λ (n : ℕ). took n w) h.2;
          right = right_leaf arity rules piece accepted ok nodes w.walked w.last h.0;
          short = omega (arith, h.1, root_left);
          ending = vertex_more rules piece (λ t seen. elim seen [ inl n ↦ absurd n | inr k ↦ k ]) h.0;
        }
        go (refused q) e h = absurd h

  -- The walk over a graph built in an asking order answers rightly.
  pub walks_right
      : length (sheet_tests rules) ≤ 64 → (nodes : List (Node ℕ)) → graph_in rules order ≡ some nodes
      → WalksRight rules nodes piece
  walks_right few nodes built = go (vertices rules order) refl built
    where
      go
          : (met : Option (List Vertex)) → vertices rules order ≡ met → numbered_if rules order met ≡ some nodes
          → WalksRight rules nodes piece
      go none e d = some_none d
      go (some vs) e d =
          let same : numbered rules order vs ≡ nodes = cc in
          subst (λ (ns : List (Node ℕ)). WalksRight rules ns piece) same (vertices_right vs e few)
