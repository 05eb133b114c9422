-- Bytes that spell a sheet and a graph for it that the meaning accepts.
use Rattle.std.specs.Prelude.{ℕ, ◌≡◌, List, length}
use Rattle.sheet.specs.Sheet.{Sheet}
use Rattle.sheet.specs.WriteSheet.{sheet_bytes}
use Rattle.sheet_tests.specs.CheckSheet.{AcceptedSheet}
use Rattle.decision.specs.Node.{Node}
use Rattle.decision.specs.GraphBytes.{graph_bytes}
use Rattle.decision.specs.AcceptedGraph.{AcceptedGraph}

-- The bytes s are those of an accepted sheet, and g those of nodes that are accepted for it.
pub record WrittenGraph (s g : List ℕ) (nodes : List (Node ℕ)) : Type 0 where
  pub sheet : Sheet
  pub accepted_sheet : AcceptedSheet sheet
  pub sheet_spelled : sheet_bytes sheet ≡ s
  pub accepted_graph : AcceptedGraph sheet.rules nodes
  pub graph_spelled : graph_bytes sheet.arity (length sheet.rules) nodes ≡ g
