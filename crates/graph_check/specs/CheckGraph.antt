-- What the check of a graph says (document 01, "Questions at the counter", 21 to 25).
use Rattle.std.specs.Prelude.{ℕ, List, Result, Ok, Err, length}
use Rattle.records.specs.Reading.{Reading, took, refused, and_then}
use Rattle.records.specs.Refusals.{number}
use Rattle.records.specs.declared.refusal.Refusal.{Refusal}
use Rattle.sheet_tests.specs.CheckSheet.{accept_sheet}
use Rattle.decision.specs.Node.{Node}
use Rattle.graph.specs.ReadGraph.{read_graph}

-- "Checking a graph alone asks the sheet's questions, then 21 to 25": how bytes g are read as a graph for the sheet of bytes s.
unfoldable pub graph_reading : List ℕ → List ℕ → Reading (List (Node ℕ))
graph_reading s g = and_then (accept_sheet s) (λ _ sheet. read_graph sheet g)

-- "When accepted, .. a graph check nodes"; "every other result field is then 0" beside a refusal's number.
pub record GraphValues : Type 0 where
  pub refusal : ℕ
  pub nodes : ℕ

abbrev pub graph_check_values : Result ℕ Refusal → GraphValues
graph_check_values (Ok n) = record { refusal = 0; nodes = n }
graph_check_values (Err r) = record { refusal = number r; nodes = 0 }

abbrev pub graph_values : Reading (List (Node ℕ)) → GraphValues
graph_values (took k nodes) = record { refusal = 0; nodes = length nodes }
graph_values (refused q) = record { refusal = q; nodes = 0 }
