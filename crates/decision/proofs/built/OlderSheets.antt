-- "Graphs of older sheets gain a gauge of 0 in each number case" (document 02, request 7): where no rule has pattern 27, a switch
-- has the cases of request 4, and each number case of the graph is on gauge 0.
use Prim.Native.Nat.{ℕ, suc, pred, ◌+◌, ◌<◌}
use mathlib.Core.Path.{◌≡◌, refl, ap, subst, ◌∙◌}
use mathlib.Core.List.{List, [], ◌∷◌, ◌++◌, map}
use mathlib.Core.Option.{Option, some, none}
use native.Mathlib.Omega.{arith}
use lib.ListN.{length}
use Rattle.places.specs.Numbering.{stride}
use Rattle.basics.specs.Lists.{Mem, All}
use Rattle.basics.proofs.ListLaws.{all_at, all_from, all_join, all-always}
use Rattle.basics.proofs.Filters.{all_mapped}
use Rattle.basics.proofs.Positions.{mem_at}
use Rattle.terms.specs.Term.{Wide}
use Rattle.terms.specs.Pattern.{Pattern, Patterns, pnil, pcons}
use Rattle.terms.specs.Pattern.{anything, the_symbol, the_series, the_range, the_gauged, the_compound, variable, ranged_variable}
use Rattle.terms.specs.RuleTests.{Want, a_symbol, a_number, a_compound, PlaceTest, Range}
use Rattle.terms.specs.RuleTests.{range_test, pattern_tests, patterns_tests, patterns_range, place_tests}
use Rattle.terms.specs.Accepted.{Sound, Sounds, InCommon, AcceptedRule}
use Rattle.terms.specs.Answer.{rule_at}
use Rattle.terms.proofs.Ranges.{WideRange, ranges_wide}
use Rattle.sheet_tests.specs.SheetTests.{Test, place, pair}
use Rattle.decision.specs.Rules.{test_at, want_at}
use Rattle.decision.specs.Key.{Key, Vertex, leaf, asking, same_vertex, root_key, vertex_of}
use Rattle.decision.specs.Cases.{Case, symbols_case, compound_case, numbers_case, ranges_of, numbers_in, cases_of}
use Rattle.decision.specs.Node.{Node, CaseEdge, switch, edges, map_case, map_node}
use Rattle.decision.specs.Edges.{first_in, live_wants, by_case, by_none, by_unknown, ask_node, ask_first, node_of}
use Rattle.decision.specs.Graph.{number_in, explore, most_nodes, vertices, numbered, numbered_if, graph_in}
use Rattle.decision.specs.OlderGraph.{Older, Olders, older_cases, OlderCase, OlderNode}
use Rattle.decision.specs.OlderGraph.{older_ask, older_first, older_node_of, older_numbered, older_graph_in}
use Rattle.decision.proofs.exploring.BreadthFirst.{some_none}
use Rattle.decision.proofs.rules.TestsOfRules.{want_test}
use Rattle.decision.proofs.rules.LiveWants.{IfWanted, wants_all}
use Rattle.decision.proofs.rules.SoundWants.{rule_accepted, wants_sound}
use Rattle.decision.proofs.cases.WantedRanges.{range_wanted}
use Rattle.decision.proofs.cases.CaseList.{name_cases}
use Rattle.decision.proofs.cases.OlderCases.{OnGauge0, older_cases_lem}
use Rattle.decision.proofs.cases.GaugesSentence.{no_other_gauge}
use Rattle.decision.proofs.built.BuiltNodes.{number_of}

-- What it wants is below 65,536, if it is a number.
abbrev OlderWant : Want → Type 0
OlderWant (a_symbol l h) = Unit
OlderWant (a_number l h) = Wide l
OlderWant (a_compound a n) = Unit

abbrev OlderTest : PlaceTest → Type 0
OlderTest x = OlderWant x.want

range_older : (n : ℕ) (x : Option Range) → InCommon x → WideRange x → All OlderTest (range_test n x)
range_older n none c w = tt
range_older n (some x) c w = (omega arith, tt)

module _ (range_of : ℕ → Option Range) (common : (v : ℕ) → InCommon (range_of v))
    (wide : (v : ℕ) → WideRange (range_of v)) where
  mutual
    tests_older : (p : Pattern) (r b : ℕ) → Sound p r → Older p → All OlderTest (pattern_tests range_of p r b)
    tests_older anything r b s o = tt
    tests_older (the_symbol a) r b s o = (tt, tt)
    tests_older (the_series l h) r b s o = (tt, tt)
    tests_older (the_range l h) r b s o = (omega (arith, s.1, s.2), tt)
    tests_older (the_gauged g l h) r b s o = absurd o
    tests_older (the_compound a ps) r b s o = (tt, all_tests_older ps (pred r) (suc b) s.4 o)
    tests_older (variable v) r b s o = range_older b (range_of v) (common v) (wide v)
    tests_older (ranged_variable v l h) r b s o = range_older b (range_of v) (common v) (wide v)

    all_tests_older : (ps : Patterns) (r b : ℕ) → Sounds ps r → Olders ps → All OlderTest (patterns_tests range_of ps r b)
    all_tests_older pnil r b s o = tt
    all_tests_older (pcons p ps) r b s o =
        all_join OlderTest (pattern_tests range_of p r b) (patterns_tests range_of ps r (b + stride r))
        (tests_older p r b s.0 o.0) (all_tests_older ps r (b + stride r) s.1 o.1)

rule_older : {arity : ℕ} (rule : Patterns) → AcceptedRule arity rule → Olders rule → All OlderTest (place_tests rule)
rule_older rule a o =
    all_tests_older (patterns_range rule) a.common (ranges_wide rule 4 a.sound) rule 4 0 a.sound o

module _ (arity : ℕ) (rules : List Patterns) (accepted : All (AcceptedRule arity) rules) (older : All Olders rules) where
  -- What the live rules want at a place is below 65,536,
  wants_older : (live n : ℕ) → All OlderWant (live_wants rules live n)
  wants_older live n = wants_all rules live n OlderWant (λ i l. go i l (want_at rules i n) refl)
    where
      go : (i : ℕ) → i < length rules → (x : Option Want) → want_at rules i n ≡ x → IfWanted OlderWant x
      go i l none e = tt
      go i l (some w) e =
          let rule = rule_at rules (suc i) in
          all_at OlderTest (want_test (place_tests rule) n w e)
          (rule_older rule (rule_accepted arity rules accepted i l) (all_at Olders (mem_at pnil rules i l) older))

  -- so a switch has the cases that it had before there were gauges,
  pub older_switch
      : (live n : ℕ)
      → cases_of (live_wants rules live n) ≡ older_cases (live_wants rules live n)
  older_switch live n =
      let ws = live_wants rules live n in
      ap (λ (xs : List Range). name_cases ws ++ map numbers_in xs)
      (older_cases_lem (ranges_of ws)
      (all_from OnGauge0 (ranges_of ws) (λ r m. all_at OlderWant (range_wanted ws r m) (wants_older live n))))

  cases_on_0 : (live n : ℕ) → All OlderCase (cases_of (live_wants rules live n))
  cases_on_0 live n = all_from OlderCase (cases_of ws) go
    where
      ws : List Want
      ws = live_wants rules live n

      go : (c : Case) → Mem c (cases_of ws) → OlderCase c
      go (symbols_case l h) m = tt
      go (compound_case a k) m = tt
      go (numbers_case x y) m =
          let own = no_other_gauge ws (wants_sound arity rules accepted live n) x y m in
          let low : Wide own.low = all_at OlderWant own.wanted (wants_older live n) in
          (omega (arith, own.low_on), omega (arith, own.high_on))

  module _ (number : Vertex → ℕ) where
    ask_on_0 : (key : Key) (t : ℕ) (test : Test) → OlderNode (map_node number (ask_node rules key t test))
    ask_on_0 key t (place n) =
        let cases = cases_of (live_wants rules key.live n) in
        let edge : Case → CaseEdge Vertex = λ c. record { case = c; target = by_case rules key t n c } in
        all_mapped (λ (e : CaseEdge ℕ). OlderCase e.case) (map_case number) (map edge cases)
        (all_mapped (λ (e : CaseEdge Vertex). OlderCase e.case) edge cases (cases_on_0 key.live n))
    ask_on_0 key t (pair p q) = tt

    first_on_0 : (key : Key) (x : Option ℕ) → OlderNode (map_node number (ask_first rules key x))
    first_on_0 key none = tt
    first_on_0 key (some t) = ask_on_0 key t (test_at rules t)

    node_on_0 : (order : List ℕ) (v : Vertex) → OlderNode (map_node number (node_of rules order v))
    node_on_0 order (leaf l) = tt
    node_on_0 order (asking key) = first_on_0 key (first_in key.pending order)

  -- and each node is the node that it was,
  module _ (order : List ℕ) where
    same_ask : (key : Key) (t : ℕ) (test : Test) → ask_node rules key t test ≡ older_ask rules order key t test
    same_ask key t (place n) =
        let edge : Case → CaseEdge Vertex = λ c. record { case = c; target = by_case rules key t n c } in
        ap (λ (cs : List Case). switch n (map edge cs) (by_none rules key t) (by_unknown rules key n)) (older_switch key.live n)
    same_ask key t (pair p q) = refl

    same_first : (key : Key) (x : Option ℕ) → ask_first rules key x ≡ older_first rules order key x
    same_first key none = refl
    same_first key (some t) = same_ask key t (test_at rules t)

    same_node : (v : Vertex) → node_of rules order v ≡ older_node_of rules order v
    same_node (leaf l) = refl
    same_node (asking key) = same_first key (first_in key.pending order)

    same_numbered : (x : Option (List Vertex)) → numbered_if rules order x ≡ older_numbered rules order x
    same_numbered none = refl
    same_numbered (some vs) = λ i. some (map (λ (v : Vertex). map_node (number_in same_vertex vs) (same_node v i)) vs)

    -- so that the graph is the graph of before.
    pub same_graph : graph_in rules order ≡ older_graph_in rules order
    same_graph =
        let root = vertex_of rules (root_key rules) ∷ [] in
        same_numbered (vertices rules order)
        ∙ (λ i. older_numbered rules order (explore same_vertex (λ (v : Vertex). edges (same_node v i)) most_nodes root root))

  -- Each number case of the graph is on gauge 0.
  pub older_graph : (order : List ℕ) (nodes : List (Node ℕ)) → graph_in rules order ≡ some nodes → All OlderNode nodes
  older_graph order nodes e = go (vertices rules order) e
    where
      go : (x : Option (List Vertex)) → numbered_if rules order x ≡ some nodes → All OlderNode nodes
      go none k = some_none k
      go (some vs) k =
          let same : numbered rules order vs ≡ nodes = cc in
          let node_at : Vertex → Node ℕ = λ v. map_node (number_of rules order vs) (node_of rules order v) in
          subst (All OlderNode) same
          (all_mapped OlderNode node_at vs
          (all-always (λ (v : Vertex). OlderNode (node_at v)) (λ v. node_on_0 (number_of rules order vs) order v) vs))
