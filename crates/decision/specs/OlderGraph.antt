-- Graphs from before there were gauges (document 02, request 7): "Graphs of older sheets gain a gauge of 0 in each number case, the
-- second supplier's too."
use Rattle.std.specs.Prelude.{ℕ, zero, suc, cond, List, [], ◌∷◌, ◌++◌, map, eqb, length, take, drop}
use Rattle.std.proofs.Math.Option.{Option, some, none}
use Rattle.basics.specs.Lists.{All}
use Rattle.records.specs.Fields.{wide_then}
use Rattle.records.specs.Kinds.{kinds, body_in}
use Rattle.terms.specs.Term.{Wide}
use Rattle.terms.specs.Pattern.{Pattern, Patterns, pnil, pcons}
use Rattle.terms.specs.Pattern.{anything, the_symbol, the_series, the_range, the_gauged, the_compound, variable, ranged_variable}
use Rattle.terms.specs.RuleTests.{Want, Range}
use Rattle.sheet_tests.specs.SheetTests.{Test, place, pair}
use Rattle.decision.specs.Rules.{test_at}
use Rattle.decision.specs.Key.{Key, Vertex, leaf, asking, suspend_node, same_vertex, root_key, vertex_of}
use Rattle.decision.specs.Runs.{runs, framed, run_pairs}
use Rattle.decision.specs.Cases.{Case, symbols_case, compound_case, numbers_case, series_of, functors_of, ranges_of}
use Rattle.decision.specs.Cases.{symbols_in, compound_of, numbers_in}
use Rattle.decision.specs.Node.{Node, CaseEdge, end, switch, pair_node, edges, map_node}
use Rattle.decision.specs.Edges.{first_in, live_wants, by_case, by_none, by_unknown, by_other}
use Rattle.decision.specs.Graph.{number_in, explore, most_nodes}
use Rattle.decision.specs.GraphBytes.{leaf_bytes, case_bytes}

-- A pattern, and a rule, of an older sheet: pattern 27 is in none.
abbrev mutual
  pub Older : Pattern → Type 0
  Older (the_gauged g l h) = ⊥
  Older (the_compound a ps) = Olders ps
  Older _ = Unit

  pub Olders : Patterns → Type 0
  Olders pnil = Unit
  Olders (pcons p ps) = Older p × Olders ps

-- The cases that a switch had: "Where a live rule has a range at a switch's place, all numbers are cut into maximal runs ..;
-- elsewhere a switch has no number case" (request 4), of the numbers that a wide field holds.
abbrev pub older_pairs : List Range → List Range
older_pairs [] = []
older_pairs (w ∷ ws) = run_pairs (framed 0 65536 (w ∷ ws))

abbrev pub older_cases : List Want → List Case
older_cases ws =
    map symbols_in (runs (series_of ws)) ++ map compound_of (functors_of ws) ++ map numbers_in (older_pairs (ranges_of ws))

-- The graph that rules had whose tests are asked in this order: each node as it is laid out now, with those cases.
module _ (rules : List Patterns) (order : List ℕ) where
  abbrev pub older_ask : Key → ℕ → Test → Node Vertex
  older_ask key t (place n) =
      let cases = older_cases (live_wants rules key.live n) in
      switch n (map (λ (c : Case). record { case = c; target = by_case rules key t n c }) cases) (by_none rules key t)
      (by_unknown rules key n)
  older_ask key t (pair p q) = pair_node p q (by_none rules key t) (by_other rules key t)

  abbrev pub older_first : Key → Option ℕ → Node Vertex
  older_first key none = end suspend_node
  older_first key (some t) = older_ask key t (test_at rules t)

  abbrev pub older_node_of : Vertex → Node Vertex
  older_node_of (leaf l) = end l
  older_node_of (asking key) = older_first key (first_in key.pending order)

  abbrev pub older_vertices : Option (List Vertex)
  older_vertices =
      explore same_vertex (λ (v : Vertex). edges (older_node_of v)) most_nodes (vertex_of rules (root_key rules) ∷ [])
      (vertex_of rules (root_key rules) ∷ [])

  abbrev pub older_numbered : Option (List Vertex) → Option (List (Node ℕ))
  older_numbered none = none
  older_numbered (some vs) = some (map (λ (v : Vertex). map_node (number_in same_vertex vs) (older_node_of v)) vs)

  abbrev pub older_graph_in : Option (List (Node ℕ))
  older_graph_in = older_numbered older_vertices

-- What the record of a number case could hold, and a node of any maker with such cases.
abbrev pub OlderCase : Case → Type 0
OlderCase (numbers_case x y) = Wide x × Wide y
OlderCase _ = Unit

abbrev pub OlderNode : Node ℕ → Type 0
OlderNode (switch n cs x y) = All (λ (c : CaseEdge ℕ). OlderCase c.case) cs
OlderNode _ = Unit

-- The bytes that a graph had: "46 numbers (wide low, wide high, wide node)"; the other records are as they were.
abbrev pub older_case_bytes : Case → ℕ → List ℕ
older_case_bytes (numbers_case l h) n = 0x46 ∷ wide_then l (wide_then h (wide_then n []))
older_case_bytes c n = case_bytes c n

abbrev pub older_cases_bytes : List (CaseEdge ℕ) → List ℕ
older_cases_bytes [] = []
older_cases_bytes (c ∷ cs) = older_case_bytes c.case c.target ++ older_cases_bytes cs

abbrev pub older_node_bytes : Node ℕ → List ℕ
older_node_bytes (end l) = leaf_bytes l
older_node_bytes (switch n cs x y) = 0x43 ∷ wide_then n (wide_then (length cs) (wide_then x (wide_then y (older_cases_bytes cs))))
older_node_bytes (pair_node p q x y) = 0x47 ∷ wide_then p (wide_then q (wide_then x (wide_then y [])))

abbrev pub older_nodes_bytes : List (Node ℕ) → List ℕ
older_nodes_bytes [] = []
older_nodes_bytes (n ∷ ns) = older_node_bytes n ++ older_nodes_bytes ns

abbrev pub older_graph_bytes : ℕ → ℕ → List (Node ℕ) → List ℕ
older_graph_bytes arity rules nodes = 0x12 ∷ arity ∷ rules ∷ wide_then (length nodes) (older_nodes_bytes nodes)

-- The body of a record of that kind, 6 bytes in a number case then, and the record with a gauge of 0 in a number case.
abbrev pub older_body : ℕ → ℕ
older_body b = cond (eqb b 0x46) 6 (body_in kinds b)

abbrev pub with_gauge : ℕ → List ℕ → List ℕ
with_gauge b body = cond (eqb b 0x46) (b ∷ 0 ∷ body) (b ∷ body)

-- "Gain a gauge of 0 in each number case": record by record, of at most so many. A byte that is no kind is a record without body.
abbrev pub lift_up_to : ℕ → List ℕ → List ℕ
lift_up_to zero s = []
lift_up_to (suc n) [] = []
lift_up_to (suc n) (b ∷ s) = with_gauge b (take (older_body b) s) ++ lift_up_to n (drop (older_body b) s)

abbrev pub lifted : List ℕ → List ℕ
lifted s = lift_up_to (length s) s
