-- A node is accepted by questions 22 to 24 exactly when the meaning accepts it, and it is read as it is written.
use Prim.Native.Nat.{ℕ, ◌≤◌, ◌<◌}
use mathlib.Core.Path.{◌≡◌, refl}
use mathlib.Core.Bool.{Bool, true, false, ◌&&◌}
use mathlib.Core.List.{List, [], ◌∷◌}
use native.Mathlib.Omega.{arith}
use lib.Dec.{T, leb, ltb, leb→le, le→leb, ltb→lt, lt→ltb}
use lib.ListN.{length}
use Rattle.records.specs.Reading.{Reading, took, refused, ask, and_then}
use Rattle.basics.specs.Lists.{All, Mem}
use Rattle.terms.specs.Pattern.{Patterns}
use Rattle.basics.proofs.Booleans.{both_true, true_both}
use Rattle.sheet_tests.specs.SheetTests.{Test, place, pair, sheet_tests}
use Rattle.decision.specs.Key.{fail_node, suspend_node, execute_node}
use Rattle.decision.specs.Node.{Node, CaseEdge, end, switch, pair_node}
use Rattle.decision.specs.Graph.{most_nodes}
use Rattle.decision.specs.GraphBytes.{node_bytes}
use Rattle.decision.specs.AcceptedGraph.{CaseFields, AcceptedNode}
use Rattle.graph.specs.ReadGraph.{is_sheet_test, all_inside, in_range, in_order, read_node, read_record}
use Rattle.graph.proofs.Spelling.{Begins, Reads, Spelled}
use Rattle.graph.proofs.SpelledCases.{EdgeFields}
use Rattle.graph.proofs.SpelledNodes.{NodeFields, node_spelled}
use Rattle.graph.proofs.CaseOrder.{ascend_true, true_ascend}
use Rattle.graph.proofs.TestedPlaces.{test_mem, mem_test}
use Rattle.decision.proofs.rules.NearTests.{Near}

abbrev Inside : ℕ → CaseEdge ℕ → Type 0
Inside nodes c = c.target < nodes

-- The test of the cases' nodes says whether all are in range.
inside_true : (nodes : ℕ) (cs : List (CaseEdge ℕ)) → T (all_inside nodes cs) → All (Inside nodes) cs
inside_true nodes [] h = tt
inside_true nodes (c ∷ cs) h =
    let both = both_true (ltb c.target nodes) (all_inside nodes cs) h in
    (ltb→lt c.target nodes both.0, inside_true nodes cs both.1)

true_inside : (nodes : ℕ) (cs : List (CaseEdge ℕ)) → All (Inside nodes) cs → T (all_inside nodes cs)
true_inside nodes [] h = tt
true_inside nodes (c ∷ cs) h =
    true_both (ltb c.target nodes) (all_inside nodes cs) (lt→ltb c.target nodes h.0) (true_inside nodes cs h.1)

-- Fields of cases that lead inside are those of cases that lead anywhere.
fields_with : (nodes : ℕ) → nodes ≤ most_nodes → (cs : List (CaseEdge ℕ)) → All (λ (c : CaseEdge ℕ). CaseFields c.case) cs
    → All (Inside nodes) cs → All EdgeFields cs
fields_with nodes few [] f i = tt
fields_with nodes few (c ∷ cs) f i = ((f.0, omega (arith, i.0)), fields_with nodes few cs f.1 i.1)

-- The cases' own fields.
pub fields_of_lem : (cs : List (CaseEdge ℕ)) → All EdgeFields cs → All (λ (c : CaseEdge ℕ). CaseFields c.case) cs
fields_of_lem [] f = tt
fields_of_lem (c ∷ cs) f = (f.0.0, fields_of_lem cs f.1)

module _ (rules : List Patterns) (nodes : ℕ) where
  -- What questions 22 to 24 ask of a node.
  pub record Asked (node : Node ℕ) : Type 0 where
    pub fields : NodeFields node
    pub range : T (in_range (is_sheet_test rules) (length rules) nodes node)
    pub order : T (in_order node)

  -- A node of which they got no no is accepted.
  pub asked_accepted : (node : Node ℕ) → Asked node → AcceptedNode rules nodes node
  asked_accepted (end fail_node) a = tt
  asked_accepted (end suspend_node) a = tt
  asked_accepted (end (execute_node i)) a =
      let both = both_true (leb 1 i) (leb i (length rules)) a.range in
      (leb→le 1 i both.0, leb→le i (length rules) both.1)
  asked_accepted (switch n cs x y) a =
      let f = a.fields in
      let b = both_true (is_sheet_test rules (place n) && ltb x nodes && ltb y nodes) (all_inside nodes cs) a.range in
      let c = both_true (is_sheet_test rules (place n) && ltb x nodes) (ltb y nodes) b.0 in
      let d = both_true (is_sheet_test rules (place n)) (ltb x nodes) c.0 in
      let up = ascend_true cs a.order in
      record {
        tested = test_mem rules (place n) d.0;
        some_case = f.3;
        few_cases = f.4;
        cases_inside = inside_true nodes cs b.1;
        neither_inside = ltb→lt x nodes d.1;
        unknown_inside = ltb→lt y nodes c.1;
        fields = fields_of_lem cs f.5;
        ordered = up.0;
        ascend = up.1;
      }
  asked_accepted (pair_node p q x y) a =
      let b = both_true (is_sheet_test rules (pair p q) && ltb x nodes) (ltb y nodes) a.range in
      let c = both_true (is_sheet_test rules (pair p q)) (ltb x nodes) b.0 in
      (test_mem rules (pair p q) c.0, ltb→lt x nodes c.1, ltb→lt y nodes b.1)

  module _ (near : (t : Test) → Mem t (sheet_tests rules) → Near t) (few : nodes ≤ most_nodes) where
    -- They get no no of an accepted node.
    pub accepted_asked : (node : Node ℕ) → AcceptedNode rules nodes node → Asked node
    accepted_asked (end fail_node) a = record { fields = tt; range = tt; order = tt }
    accepted_asked (end suspend_node) a = record { fields = tt; range = tt; order = tt }
    accepted_asked (end (execute_node i)) a =
        record {
          fields = tt;
          range = true_both (leb 1 i) (leb i (length rules)) (le→leb 1 i a.0) (le→leb i (length rules) a.1);
          order = tt;
        }
    accepted_asked (switch n cs x y) a =
        let test = is_sheet_test rules (place n) in
        let tested = mem_test rules (place n) a.tested in
        let x-inside = lt→ltb x nodes a.neither_inside in
        let y-inside = lt→ltb y nodes a.unknown_inside in
        record {
          fields = (
            omega (arith, near (place n) a.tested),
            omega (arith, a.neither_inside),
            omega (arith, a.unknown_inside),
            a.some_case,
            a.few_cases,
            fields_with nodes few cs a.fields a.cases_inside,
          );
          range =
              true_both (test && ltb x nodes && ltb y nodes) (all_inside nodes cs)
              (true_both (test && ltb x nodes) (ltb y nodes) (true_both test (ltb x nodes) tested x-inside) y-inside)
              (true_inside nodes cs a.cases_inside);
          order = true_ascend cs a.ordered a.ascend;
        }
    accepted_asked (pair_node p q x y) a =
        let test = is_sheet_test rules (pair p q) in
        let places = near (pair p q) a.0 in
        record {
          fields = (omega (arith, places.0), omega (arith, places.1), omega (arith, a.1), omega (arith, a.2));
          range =
              true_both (test && ltb x nodes) (ltb y nodes)
              (true_both test (ltb x nodes) (mem_test rules (pair p q) a.0) (lt→ltb x nodes a.1)) (lt→ltb y nodes a.2);
          order = tt;
        }

    -- What the questions are asked of.
    passes : (node : Node ℕ) (a : ℕ) → Asked node → ask 23 (in_range (is_sheet_test rules) (length rules) nodes node) (ask 24 (in_order node) (took a node)) ≡ took a node
    passes node a asked = both (in_range (is_sheet_test rules) (length rules) nodes node) (in_order node) asked.range asked.order
      where
        both : (b c : Bool) → T b → T c → ask 23 b (ask 24 c (took a node)) ≡ took a node
        both true true h k = refl
        both true false h k = absurd k
        both false c h k = absurd h

    accepted_told
        : (s : List ℕ) (r : Reading (Node ℕ)) → Reads node_bytes NodeFields s r
        → Reads node_bytes (AcceptedNode rules nodes) s
        (and_then r (λ a node. ask 23 (in_range (is_sheet_test rules) (length rules) nodes node) (ask 24 (in_order node) (took a node))))
    accepted_told s (took a node) b =
        both (in_range (is_sheet_test rules) (length rules) nodes node) (in_order node)
        (λ h k. record {
          good = asked_accepted node (record { fields = b.good; range = h; order = k });
          size = b.size;
          begins = b.begins;
        })
      where
        Accepted : Type 0
        Accepted = Begins node_bytes (AcceptedNode rules nodes) s a node

        both
            : (x y : Bool) → (T x → T y → Accepted) → Reads node_bytes (AcceptedNode rules nodes) s (ask 23 x (ask 24 y (took a node)))
        both true true f = f tt tt
        both true false f = tt
        both false y f = tt
    accepted_told s (refused q) b = tt

    -- An accepted node is read as it is written.
    pub accepted_spelled : Spelled node_bytes (AcceptedNode rules nodes) (read_node (is_sheet_test rules) (length rules) nodes)
    accepted_spelled =
        record {
          brought = λ node rest a.
              let asked = accepted_asked node a in
              rw (node_spelled.brought node rest asked.fields) (passes node (length (node_bytes node)) asked);
          read = λ s h. accepted_told s (read_record s) (node_spelled.read s h);
        }
