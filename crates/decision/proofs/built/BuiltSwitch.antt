-- A node that asks a test which a live rule has is one that the graph check accepts: a switch has a case or more, not
-- too many, in order.
use Prim.Native.Nat.{ℕ, suc, ◌≤◌, ◌<◌}
use mathlib.Core.Path.{◌≡◌, refl, ap, sym, subst}
use mathlib.Core.List.{List, [], ◌∷◌, map}
use native.Mathlib.Omega.{arith}
use lib.Dec.{T}
use lib.ListN.{length}
use Rattle.masks.specs.Mask.{has}
use Rattle.basics.specs.Lists.{All, Mem, here, there}
use Rattle.terms.specs.Pattern.{Patterns}
use Rattle.terms.specs.RuleTests.{Want}
use Rattle.terms.specs.Accepted.{AcceptedRule}
use Rattle.terms.specs.Answer.{rule_at}
use Rattle.basics.proofs.ListLaws.{all_from}
use Rattle.sheet_tests.specs.SheetTests.{Test, place, pair, sheet_tests}
use Rattle.decision.specs.Key.{Key, Vertex}
use Rattle.decision.specs.Cases.{Case, cases_of}
use Rattle.decision.specs.Node.{CaseEdge, edges, map_case, map_node}
use Rattle.decision.specs.Edges.{live_wants, by_case, by_none, by_unknown, ask_node}
use Rattle.decision.specs.AcceptedGraph.{AcceptedSwitch, AcceptedNode}
use Rattle.decision.proofs.rules.TestsOfRules.{HasTest, has_want}
use Rattle.basics.proofs.Filters.{mem_length, mem_map, all_mapped, mem_left, mem_right}
use Rattle.decision.proofs.cases.SwitchEdges.{edges_to}
use Rattle.decision.proofs.cases.CasesAccepted.{AcceptedCases, cases_accepted}
use Rattle.decision.proofs.rules.LiveWants.{want_listed, wants_few}
use Rattle.decision.proofs.rules.SoundWants.{rule_accepted, wants_sound}

-- The edges of cases to vertices, each vertex numbered, are the edges to the numbers.
edges_numbered
    : (number : Vertex → ℕ) (f : Case → Vertex) (cs : List Case)
    → map (map_case number) (edges_to f cs) ≡ edges_to (λ c. number (f c)) cs
edges_numbered number f [] = refl
edges_numbered number f (c ∷ cs) =
    ap (λ (es : List (CaseEdge ℕ)). record { case = c; target = number (f c) } ∷ es) (edges_numbered number f cs)

module _ (arity : ℕ) (rules : List Patterns) (accepted : All (AcceptedRule arity) rules) (few : length rules ≤ 64) where
  -- A live rule of the key has the test.
  abbrev pub Held : Key → Test → Type 0
  Held key test = (i : ℕ) × (i < length rules) × T (has key.live i) × HasTest (rule_at rules (suc i)) test

  -- Where a live rule tests a place, something is wanted there.
  some_want : (key : Key) (n : ℕ) → Held key (place n) → 1 ≤ length (live_wants rules key.live n)
  some_want key n h =
      let i = h.0 in
      let w = has_want (rule_at rules (suc i)) (rule_accepted arity rules accepted i h.1).sound n h.3 in
      mem_length (want_listed rules key.live n i w.0 h.1 h.2 w.1)

  module _ (number : Vertex → ℕ) (count : ℕ) (key : Key) (t : ℕ) where
    -- Each edge of the node that asks the test leads to a node in range.
    abbrev pub Inside : Test → Type 0
    Inside test = (w : Vertex) → Mem w (edges (ask_node rules key t test)) → number w < count

    -- A switch that asks a place which a live rule tests is accepted,
    switch_accepted
        : (n : ℕ) → Mem (place n) (sheet_tests rules) → Held key (place n) → Inside (place n)
        → AcceptedNode rules count (map_node number (ask_node rules key t (place n)))
    switch_accepted n tested held inside =
        subst (λ (es : List (CaseEdge ℕ)). AcceptedSwitch rules count n es (number neither) (number unknown))
        (sym (edges_numbered number lead cases)) (record {
          tested = tested;
          some_case = right.some_case;
          few_cases = right.few_cases;
          cases_inside = all_mapped (λ (e : CaseEdge ℕ). e.target < count) edge cases
              (all_from (λ (c : Case). number (lead c) < count) cases case_inside);
          neither_inside = inside neither (mem_right targets here);
          unknown_inside = inside unknown (mem_right targets (there here));
          fields = right.fields;
          ordered = right.ordered;
          ascend = right.ascend;
        })
      where
        wants : List Want
        wants = live_wants rules key.live n

        cases : List Case
        cases = cases_of wants

        lead : Case → Vertex
        lead = by_case rules key t n

        neither : Vertex
        neither = by_none rules key t

        unknown : Vertex
        unknown = by_unknown rules key n

        case_edge : Case → CaseEdge Vertex
        case_edge c = record { case = c; target = lead c }

        edge : Case → CaseEdge ℕ
        edge c = record { case = c; target = number (lead c) }

        target : CaseEdge Vertex → Vertex
        target e = e.target

        targets : List Vertex
        targets = map target (map case_edge cases)

        case_inside : (c : Case) → Mem c cases → number (lead c) < count
        case_inside c m = inside (lead c) (mem_left (neither ∷ unknown ∷ []) (mem_map target (mem_map case_edge m)))

        right : AcceptedCases (map edge cases)
        right =
            let fewWants : length wants ≤ 64 = omega (arith, wants_few rules key.live n) in
            let sound = wants_sound arity rules accepted key.live n in
            cases_accepted (λ c. number (lead c)) wants sound (some_want key n held) fewWants

    -- and so is any node that asks a test which a live rule has.
    pub asking_accepted
        : (test : Test) → Mem test (sheet_tests rules) → Held key test → Inside test
        → AcceptedNode rules count (map_node number (ask_node rules key t test))
    asking_accepted (place n) tested held inside = switch_accepted n tested held inside
    asking_accepted (pair p q) tested held inside = (tested, inside _ here, inside _ (there here))
