-- What a build that is not refused is made from.
use Rattle.std.specs.Prelude.{ℕ, ◌≤◌, ◌≡◌, List, length}
use Rattle.std.proofs.Math.Option.{some}
use Rattle.records.specs.Reading.{took}
use Rattle.terms.specs.Pattern.{Patterns}
use Rattle.sheet.specs.Sheet.{Sheet}
use Rattle.sheet_tests.specs.CheckSheet.{accept_sheet}
use Rattle.decision.specs.Node.{Node}
use Rattle.decision.specs.Graph.{graph_in}
use Rattle.decision.specs.GraphBytes.{graph_bytes}
use Rattle.order.specs.Asking.{Asking, read_asking}

-- The bytes of a sheet's graph.
abbrev pub bytes_of : Sheet → List (Node ℕ) → List ℕ
bytes_of sheet nodes = graph_bytes sheet.arity (length sheet.rules) nodes

-- The bytes s are accepted as a sheet, and a table, if one is loaded, as an order of its tests; "Has the graph at most 1,024
-- nodes?" Yes, these; "Does it fit the lent buffer?" Yes.
pub record Building (asking : Asking) (s buffer : List ℕ) : Type 0 where
  pub sheet : Sheet
  pub taken : ℕ
  pub accepted : accept_sheet s ≡ took taken sheet
  pub order : List Patterns → List ℕ
  pub table_taken : ℕ
  pub ordered : read_asking asking ≡ took table_taken order
  pub nodes : List (Node ℕ)
  pub graph : graph_in sheet.rules (order sheet.rules) ≡ some nodes
  pub fits : length (bytes_of sheet nodes) ≤ length buffer
