-- Each edge leads to the vertex of a key, whose pending tests are those left that a live rule has.
use Prim.Native.Nat.{ℕ}
use mathlib.Core.Path.{◌≡◌, refl, sym, subst}
use mathlib.Core.Bool.{Bool, true, ◌&&◌, not}
use mathlib.Core.List.{List, [], ◌∷◌, map}
use mathlib.Core.Option.{Option, some, none}
use Rattle.masks.specs.Mask.{has}
use Rattle.basics.specs.Lists.{All}
use Rattle.terms.specs.Pattern.{Patterns}
use Rattle.basics.proofs.ListLaws.{all_join}
use Rattle.sheet_tests.specs.SheetTests.{Test, place, pair}
use Rattle.decision.specs.Rules.{test_at, has_test, want_at, rules_where}
use Rattle.decision.specs.Key.{Key, Vertex, leaf, asking, key_of, root_key, vertex_of}
use Rattle.decision.specs.Cases.{Case, cases_of}
use Rattle.decision.specs.Node.{CaseEdge, edges}
use Rattle.decision.specs.Edges.{first_in, settled_by_unknown, case_keeps, live_wants, but_test, leads_to}
use Rattle.decision.specs.Edges.{by_case, by_none, by_unknown, by_other, ask_node, ask_first}
use Rattle.decision.specs.Graph.{next_vertices}
use Rattle.decision.proofs.keys.Vertices.{Means, vertex_means}
use Rattle.decision.proofs.cases.SwitchEdges.{edges_to}

module _ (rules : List Patterns) where
  -- The vertex is that of the key with these live rules where these tests are left.
  pub record LedTo (v : Vertex) : Type 0 where
    pub live : ℕ
    pub is_left : ℕ → Bool
    pub is : v ≡ leads_to rules live is_left

  -- That key, and what the vertex means of it.
  abbrev pub led_key : {v : Vertex} → LedTo v → Key
  led_key led = key_of rules led.live led.is_left

  pub led_means : {v : Vertex} (led : LedTo v) → Means rules (led_key led) v
  led_means led = subst (Means rules (led_key led)) (sym led.is) (vertex_means rules (led_key led))

  -- A case leads to such a vertex,
  case_led : (key : Key) (t n : ℕ) (c : Case) → LedTo (by_case rules key t n c)
  case_led key t n c = record {
    live = rules_where rules (λ i. has key.live i && case_keeps c (want_at rules i n));
    is_left = but_test key t;
    is = refl;
  }

  -- so does neither, or a pair's no,
  none_led : (key : Key) (t : ℕ) → LedTo (by_none rules key t)
  none_led key t = record {
    live = rules_where rules (λ i. has key.live i && not (has_test rules i t));
    is_left = but_test key t;
    is = refl;
  }

  -- so does unknown,
  unknown_led : (key : Key) (n : ℕ) → LedTo (by_unknown rules key n)
  unknown_led key n = record {
    live = key.live;
    is_left = λ u. has key.pending u && not (settled_by_unknown n (test_at rules u));
    is = refl;
  }

  -- and so does a pair's other.
  other_led : (key : Key) (t : ℕ) → LedTo (by_other rules key t)
  other_led key t = record { live = key.live; is_left = but_test key t; is = refl }

  -- What the edges of some cases lead to.
  abbrev targets : Key → ℕ → ℕ → List Case → List Vertex
  targets key t n cs = map (λ (e : CaseEdge Vertex). e.target) (edges_to (by_case rules key t n) cs)

  -- So do all cases,
  cases_led : (key : Key) (t n : ℕ) (cs : List Case) → All LedTo (targets key t n cs)
  cases_led key t n [] = tt
  cases_led key t n (c ∷ cs) = (case_led key t n c, cases_led key t n cs)

  -- all edges of a node that asks,
  asked_led : (key : Key) (t : ℕ) (test : Test) → All LedTo (edges (ask_node rules key t test))
  asked_led key t (place n) =
      let cs = cases_of (live_wants rules key.live n) in
      all_join LedTo (targets key t n cs) (by_none rules key t ∷ by_unknown rules key n ∷ []) (cases_led key t n cs)
      (none_led key t, (unknown_led key n, tt))
  asked_led key t (pair p q) = (none_led key t, (other_led key t, tt))

  -- and all edges of any vertex.
  pub edges_led : (order : List ℕ) (v : Vertex) → All LedTo (next_vertices rules order v)
  edges_led order (leaf l) = tt
  edges_led order (asking key) = go (first_in key.pending order)
    where
      go : (x : Option ℕ) → All LedTo (edges (ask_first rules key x))
      go none = tt
      go (some t) = asked_led key t (test_at rules t)

  -- The root is the vertex of such a key too.
  pub root_led : LedTo (vertex_of rules (root_key rules))
  root_led = record { live = rules_where rules (λ i. true); is_left = λ t. true; is = refl }
