-- Document 01's example by a table that asks its first argument last, through bytes: the table is accepted, and the graph is
-- another one.
use Prim.Native.Nat.{ℕ}
use mathlib.Core.Path.{◌≡◌, refl, ap, ◌∙◌}
use mathlib.Core.List.{List, [], ◌∷◌}
use mathlib.Core.Option.{some}
use native.Mathlib.Omega.{arith}
use Rattle.basics.specs.Lists.{any_below}
use Rattle.masks.specs.Mask.{has, mask_of, members}
use Rattle.records.specs.Fields.{wide_at}
use Rattle.records.specs.Reading.{took, map_reading}
use Rattle.terms.specs.Marked.{example_rules}
use Rattle.decision.specs.Key.{suspend_node, execute_node}
use Rattle.decision.specs.Node.{Node, end, switch, pair_node}
use Rattle.decision.specs.Graph.{graph_in}
use Rattle.decision.specs.PlaceOrder.{order_by}
use Rattle.order.specs.Table.{read_table}
use Rattle.order.specs.Asking.{by_table}
use Rattle.order.proofs.TableBytes.{bytes_read_lem}
use Rattle.build.specs.BuildOutcome.{BuildOutcome, build_outcome, ordered_outcome}
use Rattle.build.specs.Building.{Building}
use Rattle.build.proofs.BuiltBytes.{built_outcome}
use Rattle.promises.specs.Example.{example_sheet, example_buffer, example_places, example_table}
use Rattle.promises.proofs.Example.{example_read, example_accepted, one_case, example_built}

pub example_table_lem : read_table example_table ≡ took 1360 example_places
unfolding example_table
example_table_lem = bytes_read_lem example_places refl refl refl

abbrev ordered_nodes : List (Node ℕ)
ordered_nodes =
    switch 85 (one_case 2 1) 2 1
    ∷ switch 0 (one_case 1 3) 2 3
    ∷ end (execute_node 1)
    ∷ pair_node 0 85 4 5
    ∷ end (execute_node 2)
    ∷ end suspend_node
    ∷ []

tests_asked : order_by example_places example_rules ≡ 1 ∷ 0 ∷ 2 ∷ []
unfolding has mask_of members any_below
tests_asked = refl

nodes_asked : graph_in example_rules (1 ∷ 0 ∷ 2 ∷ []) ≡ some ordered_nodes
unfolding has mask_of members any_below
nodes_asked = refl

ordered_building : Building (by_table example_table) example_sheet example_buffer
ordered_building = record {
  sheet = example_read;
  taken = 13;
  accepted = example_accepted;
  order = order_by example_places;
  table_taken = 1360;
  ordered = ap (map_reading order_by) example_table_lem;
  nodes = ordered_nodes;
  graph = ap (graph_in example_rules) tests_asked ∙ nodes_asked;
  fits = omega arith;
}

-- Its 6 nodes are written, in 51 bytes, and the root asks place 85.
pub example_asked_last
    : ((ordered_outcome example_sheet example_table example_buffer).values ≡ record { refusal = 0; nodes = 6; bytes = 51 })
    × (wide_at (ordered_outcome example_sheet example_table example_buffer).buffer 6 ≡ 85)
unfolding ordered_building
example_asked_last =
    let written = built_outcome (by_table example_table) example_sheet example_buffer ordered_building in (
      ap (λ (y : BuildOutcome). y.values) written,
      ap (λ (y : BuildOutcome). wide_at y.buffer 6) written,
    )

-- So a build that asks the lowest pending test whatever table it is handed does something else: place 0 first.
pub ignores_table
    : (x : BuildOutcome) → x ≡ build_outcome example_sheet example_buffer
    → x ≡ ordered_outcome example_sheet example_table example_buffer → ⊥
ignores_table x same ordered =
    let first : wide_at x.buffer 6 ≡ 0 = ap (λ (y : BuildOutcome). wide_at y.buffer 6) (same ∙ example_built) in
    let second : wide_at x.buffer 6 ≡ 85 = ap (λ (y : BuildOutcome). wide_at y.buffer 6) ordered ∙ example_asked_last.1 in
    omega arith
