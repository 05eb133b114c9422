-- The vertices of a sheet's graph: each is that of a key whose live rules are rules of the sheet, so its key fits the sheet.
use Prim.Native.Nat.{ℕ, zero, suc, ◌^◌, ◌<◌}
use mathlib.Core.Path.{refl, sym, ap, subst}
use mathlib.Core.Bool.{true, ◌&&◌, not}
use mathlib.Core.List.{List, [], ◌∷◌, map}
use mathlib.Core.Option.{Option, some, none}
use lib.ListN.{length}
use lib.Pow.{pow-lt, pow_pos}
use Rattle.basics.specs.Lists.{All}
use Rattle.basics.proofs.ListLaws.{all_join}
use Rattle.masks.specs.Mask.{has}
use Rattle.masks.proofs.Extensionality.{mask_of_lt}
use Rattle.terms.specs.Pattern.{Patterns}
use Rattle.sheet_tests.specs.SheetTests.{Test, place, pair, sheet_tests}
use Rattle.decision.specs.Rules.{test_at, has_test, want_at, rules_where}
use Rattle.decision.specs.Key.{Key, Vertex, leaf, asking, fail_node, suspend_node, execute_node, is_held, root_key, vertex_of}
use Rattle.decision.specs.Cases.{Case, cases_of}
use Rattle.decision.specs.Node.{CaseEdge, edges}
use Rattle.decision.specs.Edges.{first_in, settled_by_unknown, case_keeps, live_wants, but_test}
use Rattle.decision.specs.Edges.{by_case, by_none, by_unknown, by_other, ask_node, ask_first}
use Rattle.decision.specs.Graph.{next_vertices}
use Rattle.decision.proofs.keys.EdgeKeys.{LedTo, led_means}
use Rattle.edges.specs.views.VertexKey.{vertex_key, Fits}

module _ (rules : List Patterns) where
  -- An edge leads to the vertex with rules of the sheet live.
  abbrev pub Occurs : Vertex → Type 0
  Occurs v = (led : LedTo rules v) × (led.live < 2 ^ length rules)

  -- The live rules of a vertex that asks are rules of the sheet.
  asking_fits : (key : Key) → Occurs (asking key) → key.live < 2 ^ length rules
  asking_fits key o = rw (ap (λ (k : Key). k.live) (led_means rules o.0).0) o.1

  -- So it is by a case,
  case_occurs : (key : Key) (t n : ℕ) (c : Case) → Occurs (by_case rules key t n c)
  case_occurs key t n c =
      let live : ℕ = rules_where rules (λ i. has key.live i && case_keeps c (want_at rules i n)) in (
        record { live = live; is_left = but_test key t; is = refl },
        mask_of_lt (length rules) (λ i. has key.live i && case_keeps c (want_at rules i n)),
      )

  -- by neither, or a pair's no,
  none_occurs : (key : Key) (t : ℕ) → Occurs (by_none rules key t)
  none_occurs key t =
      let live : ℕ = rules_where rules (λ i. has key.live i && not (has_test rules i t)) in (
        record { live = live; is_left = but_test key t; is = refl },
        mask_of_lt (length rules) (λ i. has key.live i && not (has_test rules i t)),
      )

  -- by unknown,
  unknown_occurs : (key : Key) → key.live < 2 ^ length rules → (n : ℕ) → Occurs (by_unknown rules key n)
  unknown_occurs key fits n = (
    record {
      live = key.live;
      is_left = λ u. has key.pending u && not (settled_by_unknown n (test_at rules u));
      is = refl;
    },
    fits,
  )

  -- and by a pair's other.
  other_occurs : (key : Key) → key.live < 2 ^ length rules → (t : ℕ) → Occurs (by_other rules key t)
  other_occurs key fits t = (record { live = key.live; is_left = but_test key t; is = refl }, fits)

  abbrev edges_to : Key → ℕ → ℕ → List Case → List (CaseEdge Vertex)
  edges_to key t n cs = map (λ (c : Case). record { case = c; target = by_case rules key t n c }) cs

  cases_occur
      : (key : Key) (t n : ℕ) (cs : List Case)
      → All Occurs (map (λ (e : CaseEdge Vertex). e.target) (edges_to key t n cs))
  cases_occur key t n [] = tt
  cases_occur key t n (c ∷ cs) = (case_occurs key t n c, cases_occur key t n cs)

  asked_occur
      : (key : Key) → key.live < 2 ^ length rules → (t : ℕ) (test : Test) → All Occurs (edges (ask_node rules key t test))
  asked_occur key fits t (place n) =
      let cs = cases_of (live_wants rules key.live n) in
      all_join Occurs (map (λ (e : CaseEdge Vertex). e.target) (edges_to key t n cs))
      (by_none rules key t ∷ by_unknown rules key n ∷ []) (cases_occur key t n cs)
      (none_occurs key t, (unknown_occurs key fits n, tt))
  asked_occur key fits t (pair p q) = (none_occurs key t, (other_occurs key fits t, tt))

  -- So all edges lead to vertices that occur where they start at one,
  pub edges_occur : (order : List ℕ) (v : Vertex) → Occurs v → All Occurs (next_vertices rules order v)
  edges_occur order (leaf l) o = tt
  edges_occur order (asking key) o = go (first_in key.pending order)
    where
      go : (x : Option ℕ) → All Occurs (edges (ask_first rules key x))
      go none = tt
      go (some t) = asked_occur key (asking_fits key o) t (test_at rules t)

  -- and the root occurs.
  pub root_occurs : Occurs (vertex_of rules (root_key rules))
  root_occurs = (
    record { live = rules_where rules (λ i. true); is_left = λ t. true; is = refl },
    mask_of_lt (length rules) (λ i. true),
  )

  -- The live rules and pending tests of a vertex that occurs are the sheet's.
  pub occurs_fits : (v : Vertex) → Occurs v → Fits rules (vertex_key v)
  occurs_fits (leaf fail_node) o = record { lives = pow_pos (length rules); pends = λ n. absurd (n refl) }
  occurs_fits (leaf suspend_node) o = record { lives = pow_pos (length rules); pends = λ n. absurd (n refl) }
  occurs_fits (leaf (execute_node zero)) o = absurd (led_means rules o.0)
  occurs_fits (leaf (execute_node (suc i))) o = record {
    lives = pow-lt (led_means rules o.0).0;
    pends = λ n. pow_pos (length (sheet_tests rules));
  }
  occurs_fits (asking key) o = record {
    lives = asking_fits key o;
    pends = λ n.
        subst (λ (k : Key). k.pending < 2 ^ length (sheet_tests rules)) (sym (led_means rules o.0).0)
        (mask_of_lt (length (sheet_tests rules)) (λ t. o.0.is_left t && is_held rules o.0.live t));
  }
