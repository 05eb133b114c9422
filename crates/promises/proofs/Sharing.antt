-- Sharing in a built graph's bytes (document 01, "Nodes"): "A key met before leads to the node that already has it." "All fail
-- nodes are one, all suspend nodes one, execute nodes one for each rule."
use Prim.Native.Nat.{ℕ, ◌<◌}
use mathlib.Core.Path.{◌≡◌, sym, ap, subst, ◌∙◌}
use mathlib.Core.Logic.{◌↔◌, ◌⊎◌}
use mathlib.Core.List.{List}
use mathlib.Core.Option.{some}
use lib.ListN.{length, get_or}
use Rattle.records.specs.Fields.{AreBytes}
use Rattle.records.specs.Reading.{took}
use Rattle.terms.specs.Pattern.{Patterns}
use Rattle.sheet.specs.Sheet.{Sheet}
use Rattle.sheet_tests.specs.CheckSheet.{accept_sheet}
use Rattle.decision.specs.Key.{Key, Leaf, fail_node}
use Rattle.decision.specs.Node.{Node, end, edges}
use Rattle.decision.specs.Graph.{graph_in}
use Rattle.decision.specs.Sharing.{SameLeaf, KeyBehind}
use Rattle.decision.proofs.built.OneLeaf.{one_leaf}
use Rattle.graph_check.specs.CheckGraph.{graph_reading}
use Rattle.order.specs.Asking.{Asking, read_asking}
use Rattle.build.specs.Building.{Building}
use Rattle.promises.specs.BuiltGraph.{BuiltGraph}
use Rattle.promises.proofs.AskingOrders.{order_is}
use Rattle.promises.proofs.Demand2.{building, built_asks, reading_brings_back}
use Rattle.promises.proofs.KeysBehind.{Shared, graph_shared}

-- Of the nodes that a built graph's bytes are read as.
module _ {asking : Asking} {s buffer g : List ℕ} {k : ℕ} {sheet : Sheet} (built : BuiltGraph asking s buffer g)
    (are_bytes : AreBytes s) (accepted : accept_sheet s ≡ took k sheet) {taken : ℕ} {nodes : List (Node ℕ)}
    (read : graph_reading s g ≡ took taken nodes) where
  abbrev made : Building asking s buffer
  made = building built accepted

  abbrev tests : List ℕ
  tests = made.order sheet.rules

  graph : graph_in sheet.rules tests ≡ some nodes
  graph =
      let both : took (length g) made.nodes ≡ took taken nodes = sym (reading_brings_back built are_bytes made) ∙ read in
      let same : made.nodes ≡ nodes = cc in
      made.graph ∙ ap some same

  -- "All fail nodes are one, all suspend nodes one, execute nodes one for each rule": two nodes that are the same leaf are one.
  pub leaves_once
      : {l : Leaf} {m n : ℕ} → m < length nodes → n < length nodes
      → get_or nodes m (end fail_node) ≡ end l → get_or nodes n (end fail_node) ≡ end l → m ≡ n
  leaves_once {l} {m} {n} = one_leaf sheet.rules tests (built_asks built are_bytes made) nodes graph l m n

  -- The keys behind its numbers, in the order in which the tests were asked: `lowest_first`, or that of the table.
  module _ {size : ℕ} {order : List Patterns → List ℕ} (ordered : read_asking asking ≡ took size order) where
    pub shared : Shared sheet.rules (order sheet.rules) nodes
    shared =
        let same = order_is made ordered in
        subst (λ (f : List Patterns → List ℕ). Shared sheet.rules (f sheet.rules) nodes) same
        (graph_shared sheet.rules tests nodes graph)

    -- Each number has a key behind it, and so has each number that an edge carries.
    pub node_has_key : (n : ℕ) → n < length nodes → (key : Key) × KeyBehind sheet.rules (order sheet.rules) nodes n key
    node_has_key = shared.node_key

    pub edge_has_key
        : {n : ℕ} {key : Key} → KeyBehind sheet.rules (order sheet.rules) nodes n key
        → (i : ℕ) → i < length (edges (get_or nodes n (end fail_node)))
        → (next : Key)
        × KeyBehind sheet.rules (order sheet.rules) nodes (get_or (edges (get_or nodes n (end fail_node))) i 0) next
    edge_has_key = shared.edge_key

    -- "A key met before leads to the node that already has it": two edges carry the same number exactly when the keys behind
    -- them are equal or the same leaf.
    pub equal_keys_share
        : {m n : ℕ} {key other : Key} → KeyBehind sheet.rules (order sheet.rules) nodes m key
        → KeyBehind sheet.rules (order sheet.rules) nodes n other
        → (m ≡ n) ↔ ((key ≡ other) ⊎ SameLeaf sheet.rules key other)
    equal_keys_share = shared.equal_keys
