-- Document 01's example, through bytes: its sheet is built to its 51 bytes.
use Prim.Native.Nat.{ℕ}
use mathlib.Core.Path.{◌≡◌, refl, sym, ap, ◌∙◌}
use mathlib.Core.List.{List, [], ◌∷◌}
use mathlib.Core.Option.{some}
use native.Mathlib.Omega.{arith}
use lib.ListN.{take}
use Rattle.masks.specs.Mask.{has, mask_of, members}
use Rattle.records.specs.Reading.{took, read_row}
use Rattle.terms.specs.Marked.{example_rules}
use Rattle.sheet.specs.Sheet.{Sheet}
use Rattle.sheet.specs.ReadSheet.{read_pattern, read_header, read_sheet}
use Rattle.sheet_tests.specs.CheckSheet.{accept_sheet}
use Rattle.decision.specs.Key.{suspend_node, execute_node}
use Rattle.decision.specs.Cases.{symbols_case}
use Rattle.decision.specs.Node.{Node, CaseEdge, end, switch, pair_node}
use Rattle.decision.specs.Graph.{lowest_first, graph_of}
use Rattle.order.specs.Asking.{lowest}
use Rattle.build.specs.BuildOutcome.{BuildOutcome, build_outcome}
use Rattle.build.proofs.BuiltBytes.{built_outcome}
use Rattle.basics.specs.Lists.{any_below, all_below}
use Rattle.promises.specs.BuiltGraph.{BuiltGraph}
use Rattle.promises.specs.Example.{example_sheet, example_graph, example_buffer}
use Rattle.build.specs.Building.{Building}

abbrev pub example_read : Sheet
example_read = record { arity = 2; rules = example_rules }

pub example_accepted : accept_sheet example_sheet ≡ took 13 example_read
unfolding accept_sheet read_sheet read_header read_pattern read_row all_below
example_accepted = refl

abbrev pub one_case : ℕ → ℕ → List (CaseEdge ℕ)
one_case a n = record { case = symbols_case a a; target = n } ∷ []

-- Its six nodes.
abbrev example_nodes : List (Node ℕ)
example_nodes =
    switch 0 (one_case 1 1) 2 1
    ∷ switch 85 (one_case 2 3) 2 3
    ∷ end (execute_node 1)
    ∷ pair_node 0 85 4 5
    ∷ end (execute_node 2)
    ∷ end suspend_node
    ∷ []

example_nodes_lem : graph_of example_rules ≡ some example_nodes
unfolding has mask_of members any_below
example_nodes_lem = refl

-- Building the example into a buffer of 51 bytes, all 0 before, writes its 6 nodes.
pub example_built
    : build_outcome example_sheet example_buffer
    ≡ record { values = record { refusal = 0; nodes = 6; bytes = 51 }; buffer = example_graph }
example_built = built_outcome lowest example_sheet example_buffer building ∙ refl
  where
    building : Building lowest example_sheet example_buffer
    building = record {
      sheet = example_read;
      taken = 13;
      accepted = example_accepted;
      order = lowest_first;
      table_taken = 0;
      ordered = refl;
      nodes = example_nodes;
      graph = example_nodes_lem;
      fits = omega arith;
    }

-- So its 51 bytes are a built graph.
pub example_graph_lem : BuiltGraph lowest example_sheet example_buffer example_graph
example_graph_lem = record {
  not_refused = ap (λ (y : BuildOutcome). y.values.refusal) example_built;
  wrote = sym (ap (λ (y : BuildOutcome). take y.values.bytes y.buffer) example_built);
}
