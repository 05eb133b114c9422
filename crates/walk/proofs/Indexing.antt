-- The nodes of an accepted graph, with where their records begin, are an index of it.
use Prim.Native.Nat.{ℕ, suc, ◌+◌, ◌<◌, ◌≤◌}
use mathlib.Core.Path.{◌≡◌, refl, sym, ap, subst, ◌∙◌}
use mathlib.Core.Logic.{by_cases}
use mathlib.Core.List.{List, [], ◌∷◌, map}
use native.Mathlib.Decide.{dec_lt}
use native.Mathlib.Omega.{arith}
use lib.ListN.{length, get_or, take, drop, drop_of_length-le}
use lib.Seq.{get_or-take}
use Rattle.records.specs.Fields.{IsByte}
use Rattle.records.specs.Reading.{took}
use Rattle.basics.specs.Lists.{All, Mem, count_from}
use Rattle.basics.proofs.ListLaws.{all_map, all_at, all_join}
use Rattle.sheet_tests.specs.SheetTests.{Test, place, pair, sheet_tests}
use Rattle.sheet.specs.Sheet.{Sheet, SoundSheet}
use Rattle.decision.specs.Key.{fail_node, suspend_node, execute_node}
use Rattle.decision.specs.Node.{Node, CaseEdge, end, switch, pair_node}
use Rattle.decision.specs.GraphBytes.{node_bytes, nodes_bytes}
use Rattle.decision.specs.AcceptedGraph.{AcceptedNode, AcceptedGraph}
use Rattle.basics.proofs.Filters.{all_mapped}
use Rattle.graph.specs.ReadGraph.{read_graph, read_record}
use Rattle.graph.specs.views.Rewriting.{IsTook, read_or}
use Rattle.graph.proofs.TestedPlaces.{tests_near}
use Rattle.graph.proofs.SpelledNodes.{NodeFields}
use Rattle.graph.proofs.AcceptedNodes.{accepted_asked}
use Rattle.graph.proofs.Spelled.{graph_read}
use Rattle.node_check.specs.views.CheckNode.{starts_from}
use Rattle.node_check.proofs.Starts.{start_reads}
use Rattle.steps.specs.views.CodeSteps.{NearNode, OrderedNode}
use Rattle.rule_masks.specs.views.TestNumbers.{NearTest}
use Rattle.rule_masks.proofs.ListedTests.{spot_test, pair_test_lem}
use Rattle.path.specs.views.Following.{node_from, nodes_at, GoodNode, Index}
use Rattle.walk.specs.views.Ready.{LeafNode, AsksKept}
use Rattle.waiting.proofs.MetAsked.{Coded}
use Rattle.rule_masks.proofs.PairsApart.{pairs_apart}
use Rattle.steps.proofs.StepsAgree.{FieldsFit}
use Rattle.steps.proofs.OrderedCases.{node_ordered}
use Rattle.basics.proofs.Positions.{mem_at}
use Rattle.decision.proofs.rules.NearTests.{Near}

-- Its places are among the 680.
pub near_test : (t : Test) → Near t → NearTest t
near_test (place n) h = h
near_test (pair p q) h = h

-- A record is read within the bytes.
read_within : (s : List ℕ) (n : ℕ) → IsTook (read_record (drop n s)) → n ≤ length s
unfolding read_record
read_within s n h =
    by_cases (dec_lt (length s) n)
    (λ (l : length s < n). absurd (subst (λ (b : List ℕ). IsTook (read_record b)) (drop_of_length-le s {i = n} (omega arith)) h))
    (λ (l : length s < n → ⊥). omega arith)

-- Nodes by their numbers are the list of them.
listed
    : (f : ℕ → Node ℕ) (a : ℕ) (ns : List (Node ℕ)) → ((k : ℕ) → k < length ns → f (a + k) ≡ get_or ns k (end fail_node))
    → map f (count_from a (length ns)) ≡ ns
listed f a [] h = refl
listed f a (n ∷ ns) h =
    let here : a ≡ a + 0 = omega arith in
    (λ i. (ap f here ∙ h 0 (omega arith)) i ∷ listed f (suc a) ns (λ k l. let next : suc a + k ≡ a + suc k = omega arith in ap f next ∙ h (suc k) (omega arith)) i)

module _ (sheet : Sheet) (sound : SoundSheet sheet) (s : List ℕ) (bytes : All IsByte s) {size : ℕ} {nodes : List (Node ℕ)}
    (read : read_graph sheet s ≡ took size nodes) where
  near : (t : Test) → Mem t (sheet_tests sheet.rules) → Near t
  near = tests_near sheet sound

  accepted : AcceptedGraph sheet.rules nodes
  accepted = (graph_read sheet sound s bytes read).accepted

  fields : (n : Node ℕ) → AcceptedNode sheet.rules (length nodes) n → NodeFields n
  fields n a = (accepted_asked sheet.rules (length nodes) near accepted.few_nodes n a).fields

  node_near : (n : Node ℕ) → AcceptedNode sheet.rules (length nodes) n → NearNode n
  node_near (end l) a = tt
  node_near (switch p cs x y) a = near (place p) a.tested
  node_near (pair_node p q x y) a = near (pair p q) a.0

  node_fits : (n : Node ℕ) → AcceptedNode sheet.rules (length nodes) n → FieldsFit n
  node_fits (end l) a = tt
  node_fits (switch p cs x y) a = a.fields
  node_fits (pair_node p q x y) a = tt

  -- The places of an accepted graph's nodes are among the 680, and its cases' fields are those of records.
  pub nodes_near : All NearNode nodes
  nodes_near = all_map (AcceptedNode sheet.rules (length nodes)) NearNode node_near nodes accepted.accepted_nodes

  pub nodes_fit : All FieldsFit nodes
  nodes_fit = all_map (AcceptedNode sheet.rules (length nodes)) FieldsFit node_fits nodes accepted.accepted_nodes

  -- The cases of an accepted node are in order.
  cases_ordered : (n : Node ℕ) → AcceptedNode sheet.rules (length nodes) n → OrderedNode n
  cases_ordered n a =
      node_ordered n (node_fits n a) (accepted_asked sheet.rules (length nodes) near accepted.few_nodes n a).order

  node_leaf : (n : Node ℕ) → AcceptedNode sheet.rules (length nodes) n → LeafNode (length sheet.rules) n
  node_leaf (end fail_node) a = tt
  node_leaf (end suspend_node) a = tt
  node_leaf (end (execute_node i)) a = a
  node_leaf (switch p cs x y) a = tt
  node_leaf (pair_node p q x y) a = tt

  -- The rules of its leaves are the sheet's.
  pub nodes_leaves : All (LeafNode (length sheet.rules)) nodes
  nodes_leaves =
      all_map (AcceptedNode sheet.rules (length nodes)) (LeafNode (length sheet.rules)) node_leaf nodes accepted.accepted_nodes

  node_coded : (n : Node ℕ) → AcceptedNode sheet.rules (length nodes) n → Coded n
  node_coded (end l) a = tt
  node_coded (switch p cs x y) a =
      let small : p < 680 = near (place p) a.tested in
      spot_test p (omega (arith, small))
  node_coded (pair_node p q x y) a =
      let small = near (pair p q) a.0 in
      pair_test_lem p q (pairs_apart sheet.arity sheet.rules sound.accepted_rules p q a.0) (omega (arith, small.1))

  -- The codes of its nodes are those of their tests.
  pub nodes_coded : All Coded nodes
  nodes_coded = all_map (AcceptedNode sheet.rules (length nodes)) Coded node_coded nodes accepted.accepted_nodes

  module _ (tests : List Test) (are : tests ≡ sheet_tests sheet.rules) where
    abbrev Kept : Test → Type 0
    Kept t = NearTest t × Mem t tests

    mem_test : (t : Test) → Mem t (sheet_tests sheet.rules) → Kept t
    mem_test t m = (near_test t (near t m), subst (Mem t) (sym are) m)

    node_asks : (n : Node ℕ) → AcceptedNode sheet.rules (length nodes) n → AsksKept tests n
    node_asks (end l) a = tt
    node_asks (switch p cs x y) a = (subst Kept (sym (node_coded (switch p cs x y) a)) (mem_test (place p) a.tested), tt)
    node_asks (pair_node p q x y) a = (subst Kept (sym (node_coded (pair_node p q x y) a)) (mem_test (pair p q) a.0), tt)

    -- The tests that they ask are among these.
    pub nodes_asked : All (AsksKept tests) nodes
    nodes_asked = all_map (AcceptedNode sheet.rules (length nodes)) (AsksKept tests) node_asks nodes accepted.accepted_nodes

  module _ (starts : List ℕ) (are : take (length nodes) starts ≡ starts_from 5 nodes) where
    reads : (k : ℕ) → k < length nodes
        → read_record (drop (get_or starts k 0) s) ≡ took (length (node_bytes (get_or nodes k (end fail_node)))) (get_or nodes k (end fail_node))
    reads k h =
        let node = get_or nodes k (end fail_node) in
        let start : get_or starts k 0 ≡ get_or (starts_from 5 nodes) k 0 =
        sym (get_or-take (length nodes) starts k 0 h) ∙ ap (λ (l : List ℕ). get_or l k 0) are in
        let behind : drop 5 s ≡ nodes_bytes nodes = sym (ap (drop 5) (graph_read sheet sound s bytes read).spelled) in
        ap (λ (n : ℕ). read_record (drop n s)) start
        ∙ start_reads s 5 nodes k (end fail_node) h behind
        (fields node (all_at (AcceptedNode sheet.rules (length nodes)) (mem_at (end fail_node) nodes k h) accepted.accepted_nodes))

    here_is : (k : ℕ) → k < length nodes → node_from s starts k ≡ get_or nodes k (end fail_node)
    here_is k h = ap (read_or (end fail_node)) (reads k h)

    -- They are the nodes at the starts,
    pub nodes_are : nodes_at s starts (length nodes) ≡ nodes
    unfolding nodes_at
    nodes_are =
        listed (node_from s starts) 0 nodes
        (λ k h. let none : 0 + k ≡ k = omega arith in ap (node_from s starts) none ∙ here_is k h)

    good : (n : Node ℕ) → AcceptedNode sheet.rules (length nodes) n → GoodNode (length nodes) n
    good (end l) a = record { near = tt; ordered = tt; inside = tt }
    good (switch p cs x y) a = record {
      near = near (place p) a.tested;
      ordered = cases_ordered (switch p cs x y) a;
      inside =
          all_join (λ (m : ℕ). m < length nodes) (map (λ (c : CaseEdge ℕ). c.target) cs) (x ∷ y ∷ [])
          (all_mapped (λ (m : ℕ). m < length nodes) (λ (c : CaseEdge ℕ). c.target) cs a.cases_inside)
          (a.neither_inside, (a.unknown_inside, tt));
    }
    good (pair_node p q x y) a = record { near = near (pair p q) a.0; ordered = tt; inside = (a.1, (a.2, tt)) }

    -- and the starts are an index of them.
    pub index_made : Index s starts (length nodes)
    index_made = record {
      some_node = accepted.some_node;
      few_nodes = accepted.few_nodes;
      begins = λ k h. read_within s (get_or starts k 0) (subst IsTook (sym (reads k h)) tt);
      whole = λ k h. subst IsTook (sym (reads k h)) tt;
      good = λ k h.
          subst (GoodNode (length nodes)) (sym (here_is k h))
          (good (get_or nodes k (end fail_node))
          (all_at (AcceptedNode sheet.rules (length nodes)) (mem_at (end fail_node) nodes k h) accepted.accepted_nodes));
    }
