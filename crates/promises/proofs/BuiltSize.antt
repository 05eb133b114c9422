-- A built graph has at most 68,699,141 bytes: 5, and for each of 1,024 nodes 9 and 8,385 cases of 8.
use Prim.Native.Nat.{ℕ, ◌*◌, ◌≤◌}
use mathlib.Core.Path.{◌≡◌, ap}
use mathlib.Core.List.{List, [], ◌∷◌}
use native.Mathlib.Omega.{arith}
use lib.ListN.{length, length-append, length-map}
use Rattle.basics.specs.Lists.{Mem, All}
use Rattle.basics.proofs.ListLaws.{all_from}
use Rattle.basics.proofs.Positions.{number_of_lem}
use Rattle.records.specs.Fields.{AreBytes}
use Rattle.records.specs.Reading.{took}
use Rattle.sheet.specs.Sheet.{Sheet}
use Rattle.sheet_tests.specs.CheckSheet.{accept_sheet}
use Rattle.decision.specs.Key.{fail_node, suspend_node, execute_node}
use Rattle.decision.specs.Cases.{Case}
use Rattle.decision.specs.Node.{Node, CaseEdge, end, switch, pair_node}
use Rattle.decision.specs.Edges.{live_wants}
use Rattle.decision.specs.GraphBytes.{node_bytes, nodes_bytes}
use Rattle.decision.proofs.rules.LiveWants.{wants_few}
use Rattle.decision.proofs.cases.CasesAccepted.{cases_of_64}
use Rattle.node_check.proofs.NodesPass.{cases_size}
use Rattle.order.specs.Asking.{Asking}
use Rattle.build.specs.Building.{Building}
use Rattle.promises.specs.BuiltGraph.{BuiltGraph}
use Rattle.promises.proofs.Demand2.{building, accepted_sheet_lem, accepted_graph_lem, graph_to_the_byte, reading_brings_back}
use Rattle.promises.proofs.Request4.{built_switch_cases}

-- A node of at most 8,385 cases.
abbrev Small : Node ℕ → Type 0
Small n = length (node_bytes n) ≤ 67089

nodes_small : (ns : List (Node ℕ)) → All Small ns → length (nodes_bytes ns) ≤ 67089 * length ns
nodes_small [] h = omega arith
nodes_small (n ∷ ns) h = omega (arith, length-append (node_bytes n) (nodes_bytes ns), h.0, nodes_small ns h.1)

module _ {asking : Asking} {s buffer g : List ℕ} (built : BuiltGraph asking s buffer g) (are_bytes : AreBytes s) {k : ℕ}
    {sheet : Sheet} (accepted : accept_sheet s ≡ took k sheet) where
  abbrev made : Building asking s buffer
  made = building built accepted

  node_small : (n : Node ℕ) → Mem n made.nodes → Small n
  node_small (end fail_node) m = omega arith
  node_small (end suspend_node) m = omega arith
  node_small (end (execute_node i)) m = omega arith
  node_small (pair_node p q x y) m = omega arith
  node_small (switch p cs x y) m =
      let (i, inside, at) = number_of_lem (end fail_node) made.nodes m in
      let (key, behind, same) =
      built_switch_cases built are_bytes accepted (reading_brings_back built are_bytes made) made.ordered inside at in
      let few = cases_of_64 (live_wants sheet.rules key.live p) (omega (
        arith,
        wants_few sheet.rules key.live p,
        (accepted_sheet_lem built are_bytes made).sound.few_rules,
      )) in
      omega (
        arith,
        cases_size cs,
        length-map cs (λ (c : CaseEdge ℕ). c.case),
        ap (λ (l : List Case). length l) same,
        few,
      )

  pub built_small : length g ≤ 68699141
  built_small =
      omega (
        arith,
        ap length (graph_to_the_byte built made),
        nodes_small made.nodes (all_from Small made.nodes node_small),
        (accepted_graph_lem built are_bytes made).few_nodes,
      )
