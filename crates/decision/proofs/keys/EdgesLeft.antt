-- How many edges there may still be at a vertex: as many as its pending tests. Each edge of a node that asks leads to a
-- vertex with fewer, whatever the piece.
use Prim.Native.Nat.{ℕ, ◌≤◌, ◌<◌}
use mathlib.Core.Path.{◌≡◌, refl, ap}
use mathlib.Core.Bool.{Bool, ◌&&◌, not}
use mathlib.Core.List.{List, [], ◌∷◌, map}
use native.Mathlib.Omega.{arith}
use lib.Dec.{eqb, T, T_not, eqb_refl}
use lib.ListN.{length}
use Rattle.places.proofs.Below.{at_or_below_refl}
use Rattle.masks.specs.Mask.{has, members}
use Rattle.basics.specs.Lists.{All}
use Rattle.terms.specs.Pattern.{Patterns}
use Rattle.basics.proofs.Booleans.{both_true, is_true}
use Rattle.basics.proofs.ListLaws.{all_join}
use Rattle.sheet_tests.specs.SheetTests.{Test, place, pair, sheet_tests}
use Rattle.decision.specs.Rules.{test_at}
use Rattle.decision.specs.Key.{Key, Vertex, leaf, asking, key_of, vertex_of}
use Rattle.decision.specs.Cases.{Case, cases_of}
use Rattle.decision.specs.Node.{CaseEdge, edges}
use Rattle.decision.specs.Edges.{settled_by_unknown, live_wants, leads_to, but_test}
use Rattle.decision.specs.Edges.{by_case, by_none, by_unknown, ask_node}
use Rattle.decision.proofs.cases.SwitchEdges.{edges_to}
use Rattle.decision.proofs.keys.Sets.{fewer_members}
use Rattle.decision.proofs.keys.Vertices.{Pending, Means, pending_in, vertex_means}

module _ (rules : List Patterns) where
  -- The number of a key's pending tests.
  abbrev pub pending_count : Key → ℕ
  pending_count key = length (members (length (sheet_tests rules)) key.pending)

  -- The most edges that there can be from a vertex to a leaf: at a leaf there are none.
  abbrev pub edges_left : Vertex → ℕ
  edges_left (leaf l) = 0
  edges_left (asking key) = pending_count key

  -- A vertex has at most as many edges left as its key has pending tests.
  pub left_pending : (key : Key) (v : Vertex) → Means rules key v → edges_left v ≤ pending_count key
  left_pending key (leaf l) means = omega arith
  left_pending key (asking k) means = omega (arith, ap pending_count means.0)

  module _ (key : Key) (t : ℕ) (inside : t < length (sheet_tests rules)) (pending : Pending key t) where
    -- There are fewer edges left at the vertex than at this key.
    abbrev Fewer : Vertex → Type 0
    Fewer v = edges_left v < pending_count key

    -- An edge that leaves only pending tests, and not test t, leads to a vertex with fewer edges left.
    fewer_left
        : (live : ℕ) (is_left : ℕ → Bool) → ((u : ℕ) → T (is_left u) → Pending key u) → (T (is_left t) → ⊥)
        → Fewer (leads_to rules live is_left)
    fewer_left live is_left among settled =
        let next = key_of rules live is_left in
        let most = left_pending next (vertex_of rules next) (vertex_means rules next) in
        let tests = length (sheet_tests rules) in
        omega (arith, fewer_members tests next.pending key.pending t part inside without pending)
      where
        part
            : (u : ℕ) → Pending (key_of rules live is_left) u → (u < length (sheet_tests rules)) × Pending key u
        part u h = let r = pending_in rules live is_left u h in (r.0, among u r.1)

        without : Pending (key_of rules live is_left) t → ⊥
        without h = settled (pending_in rules live is_left t h).1

    -- So does one that settles test t,
    fewer_but : (live : ℕ) → Fewer (leads_to rules live (but_test key t))
    fewer_but live =
        fewer_left live (but_test key t)
        (λ u h. (both_true (has key.pending u) (not (eqb u t)) h).0)
        (λ h. T_not (eqb t t) (both_true (has key.pending t) (not (eqb t t)) h).1 (eqb_refl t))

    -- and one that settles what an unknown at the place of test t does.
    fewer_unknown : (n : ℕ) → test_at rules t ≡ place n → Fewer (by_unknown rules key n)
    fewer_unknown n at =
        fewer_left key.live (λ u. has key.pending u && not (is_settled u))
        (λ u h. (both_true (has key.pending u) (not (is_settled u)) h).0)
        (λ h. T_not (is_settled t) (both_true (has key.pending t) (not (is_settled t)) h).1
        (rw at (is_true (at_or_below_refl n))))
      where
        is_settled : ℕ → Bool
        is_settled u = settled_by_unknown n (test_at rules u)

    -- What the edges of some cases lead to.
    abbrev targets : ℕ → List Case → List Vertex
    targets n cs = map (λ (e : CaseEdge Vertex). e.target) (edges_to (by_case rules key t n) cs)

    -- So does each case,
    cases_fewer : (n : ℕ) (cs : List Case) → All Fewer (targets n cs)
    cases_fewer n [] = tt
    cases_fewer n (c ∷ cs) = (fewer_but _, cases_fewer n cs)

    -- each edge of a switch at the place of test t,
    switch_fewer : (n : ℕ) → test_at rules t ≡ place n → All Fewer (edges (ask_node rules key t (place n)))
    switch_fewer n at =
        let cs = cases_of (live_wants rules key.live n) in
        all_join Fewer (targets n cs) (by_none rules key t ∷ by_unknown rules key n ∷ []) (cases_fewer n cs)
        (fewer_but _, (fewer_unknown n at, tt))

    -- each edge of a pair,
    pair_fewer : (p q : ℕ) → All Fewer (edges (ask_node rules key t (pair p q)))
    pair_fewer p q = (fewer_but _, (fewer_but _, tt))

    -- and so each edge of the node that asks test t.
    pub edges_fewer : All Fewer (edges (ask_node rules key t (test_at rules t)))
    edges_fewer = go (test_at rules t) refl
      where
        go : (x : Test) → test_at rules t ≡ x → All Fewer (edges (ask_node rules key t x))
        go (place n) e = switch_fewer n e
        go (pair p q) e = pair_fewer p q
