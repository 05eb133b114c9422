-- A sheet's graph goes by the tests of its rules alone: two sheets whose rules have, one after another, the same place tests and
-- the same equality tests have one graph, in whatever order the tests are asked.
use Prim.Native.Nat.{ℕ}
use mathlib.Core.Path.{◌≡◌, refl, ap, ◌∙◌}
use mathlib.Core.Bool.{Bool, true, ◌&&◌, not, cond}
use mathlib.Core.List.{List, [], ◌∷◌, ◌++◌, map}
use mathlib.Core.Option.{Option, some, none}
use lib.ListN.{length}
use Rattle.masks.specs.Mask.{has, members}
use Rattle.basics.specs.Lists.{filter, any_below, count_from}
use Rattle.terms.specs.Pattern.{Patterns}
use Rattle.terms.specs.RuleTests.{place_tests, pair_tests}
use Rattle.sheet_tests.specs.SheetTests.{Test, place, pair, sheet_tests}
use Rattle.decision.specs.Rules.{same_test, test_at, has_test, want_at, rules_where, tests_where}
use Rattle.decision.specs.Key.{Key, Vertex, leaf, asking, suspend_node, two_or_more, same_vertex}
use Rattle.decision.specs.Key.{is_held, key_of, root_key, settled, vertex_with, vertex_of}
use Rattle.decision.specs.Cases.{Case, cases_of}
use Rattle.decision.specs.Node.{switch, pair_node, edges, map_node}
use Rattle.decision.specs.Edges.{first_in, settled_by_unknown, case_keeps, gather_wants, live_wants, leads_to, but_test}
use Rattle.decision.specs.Edges.{by_case, by_none, by_unknown, by_other, ask_node, ask_first, node_of}
use Rattle.decision.specs.Graph.{explore, number_in, most_nodes, vertices, numbered_if, graph_in, lowest_first, graph_of}
use Rattle.decision.specs.PlaceOrder.{is_pair, numbers_where, order_by}
use Rattle.decision.proofs.rules.SameTests.{same_tests_same_count, same_tests_same_tests, same_test_at, same_has_test}
use Rattle.decision.proofs.rules.SameTests.{same_want_at, same_rules_where, same_tests_where}

module _
    (rules others : List Patterns) (places : map place_tests rules ≡ map place_tests others)
    (pairs : map pair_tests rules ≡ map pair_tests others)
  where
    -- What the rules ask is the same, by numbers of rules and tests.
    count : length rules ≡ length others
    count = same_tests_same_count rules others places pairs

    tests : sheet_tests rules ≡ sheet_tests others
    tests = same_tests_same_tests rules others places pairs

    test_at_lem : test_at rules ≡ test_at others
    test_at_lem = same_test_at rules others places pairs

    has_test_lem : has_test rules ≡ has_test others
    has_test_lem = same_has_test rules others places pairs

    want_at_lem : want_at rules ≡ want_at others
    want_at_lem = same_want_at rules others places pairs

    rules_where_lem : rules_where rules ≡ rules_where others
    rules_where_lem = same_rules_where rules others places pairs

    tests_where_lem : tests_where rules ≡ tests_where others
    tests_where_lem = same_tests_where rules others places pairs

    -- So keys and vertices are the same,
    is_held_lem : is_held rules ≡ is_held others
    is_held_lem = λ i live t. any_below (count i) (λ n. has live n && has_test_lem i n t)

    key_of_lem : key_of rules ≡ key_of others
    key_of_lem = λ i live is_left. record { live = live; pending = tests_where_lem i (λ t. is_left t && is_held_lem i live t) }

    root_key_lem : root_key rules ≡ root_key others
    root_key_lem = λ i. key_of_lem i (rules_where_lem i (λ n. true)) (λ t. true)

    settled_same : settled rules ≡ settled others
    settled_same =
        λ i key. rules_where_lem i
        (λ n. has key.live n && not (any_below (length (tests i)) (λ t. has key.pending t && has_test_lem i n t)))

    vertex_with_lem : (l : List ℕ) (key : Key) → vertex_with rules l key ≡ vertex_with others l key
    vertex_with_lem [] key = refl
    vertex_with_lem (n ∷ []) key = refl
    vertex_with_lem (n ∷ (m ∷ l)) key =
        λ i. cond (two_or_more (members (count i) (settled_same i key))) (leaf suspend_node) (asking key)

    vertex_of_lem : vertex_of rules ≡ vertex_of others
    vertex_of_lem = λ i key. at key i
      where
        at : (key : Key) → vertex_of rules key ≡ vertex_of others key
        at key =
            ap (λ (n : ℕ). vertex_with rules (members n key.live) key) count
            ∙ vertex_with_lem (members (length others) key.live) key

    -- edges,
    live_wants_lem : live_wants rules ≡ live_wants others
    live_wants_lem = λ i live n. gather_wants (map (λ (m : ℕ). want_at_lem i m n) (members (count i) live))

    leads_to_lem : leads_to rules ≡ leads_to others
    leads_to_lem = λ i live is_left. vertex_of_lem i (key_of_lem i live is_left)

    by_case_lem : by_case rules ≡ by_case others
    by_case_lem =
        λ i key t n c. leads_to_lem i (rules_where_lem i (λ m. has key.live m && case_keeps c (want_at_lem i m n))) (but_test key t)

    by_none_lem : by_none rules ≡ by_none others
    by_none_lem = λ i key t. leads_to_lem i (rules_where_lem i (λ m. has key.live m && not (has_test_lem i m t))) (but_test key t)

    by_unknown_lem : by_unknown rules ≡ by_unknown others
    by_unknown_lem = λ i key n. leads_to_lem i key.live (λ u. has key.pending u && not (settled_by_unknown n (test_at_lem i u)))

    by_other_lem : by_other rules ≡ by_other others
    by_other_lem = λ i key t. leads_to_lem i key.live (but_test key t)

    -- nodes,
    ask_node_lem : (key : Key) (t : ℕ) (x : Test) → ask_node rules key t x ≡ ask_node others key t x
    ask_node_lem key t (place n) =
        λ i. switch n (map (λ (c : Case). record { case = c; target = by_case_lem i key t n c }) (cases_of (live_wants_lem i key.live n)))
        (by_none_lem i key t) (by_unknown_lem i key n)
    ask_node_lem key t (pair p q) = λ i. pair_node p q (by_none_lem i key t) (by_other_lem i key t)

    ask_first_lem : (key : Key) (t : Option ℕ) → ask_first rules key t ≡ ask_first others key t
    ask_first_lem key none = refl
    ask_first_lem key (some t) = ap (ask_node rules key t) (λ i. test_at_lem i t) ∙ ask_node_lem key t (test_at others t)

    node_of_lem : (order : List ℕ) (v : Vertex) → node_of rules order v ≡ node_of others order v
    node_of_lem order (leaf l) = refl
    node_of_lem order (asking key) = ask_first_lem key (first_in key.pending order)

    -- and the graph in any order.
    vertices_same : (order : List ℕ) → vertices rules order ≡ vertices others order
    vertices_same order =
        λ i. explore same_vertex (λ v. edges (node_of_lem order v i)) most_nodes (vertex_of_lem i (root_key_lem i) ∷ [])
        (vertex_of_lem i (root_key_lem i) ∷ [])

    numbered_if_lem : (order : List ℕ) (vs : Option (List Vertex)) → numbered_if rules order vs ≡ numbered_if others order vs
    numbered_if_lem order none = refl
    numbered_if_lem order (some vs) =
        λ i. some (map (λ (v : Vertex). map_node (number_in same_vertex vs) (node_of_lem order v i)) vs)

    pub same_tests_same_graph_in : (order : List ℕ) → graph_in rules order ≡ graph_in others order
    same_tests_same_graph_in order = ap (numbered_if rules order) (vertices_same order) ∙ numbered_if_lem order (vertices others order)

    -- The tests are numbered alike, and a list of places asks them in the same order.
    pub same_tests_same_numbers : lowest_first rules ≡ lowest_first others
    same_tests_same_numbers = λ i. count_from 0 (length (tests i))

    numbers_where_lem : (f : Test → Bool) → numbers_where f rules ≡ numbers_where f others
    numbers_where_lem f = λ i. filter (λ (t : ℕ). f (test_at_lem i t)) (same_tests_same_numbers i)

    pub same_tests_same_order : (asked : List ℕ) → order_by asked rules ≡ order_by asked others
    same_tests_same_order [] = numbers_where_lem is_pair
    same_tests_same_order (p ∷ asked) = λ i. numbers_where_lem (same_test (place p)) i ++ same_tests_same_order asked i

    pub same_tests_same_graph : graph_of rules ≡ graph_of others
    same_tests_same_graph =
        same_tests_same_graph_in (lowest_first rules) ∙ ap (graph_in others) same_tests_same_numbers
