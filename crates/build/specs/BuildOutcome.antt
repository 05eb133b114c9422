-- What building a sheet's graph answers, and the buffer that it leaves (document 01, "Questions at the counter": "Building, after
-- the sheet").
use Rattle.std.specs.Prelude.{ℕ, Bool, true, false, List, leb, length, Result, Ok, Err}
use Rattle.std.proofs.Math.Option.{Option, some, none}
use Rattle.records.specs.Reading.{Reading, took, refused}
use Rattle.records.specs.Refusals.{number}
use Rattle.records.specs.Writing.{splice}
use Rattle.records.specs.declared.refusal.Refusal.{Refusal}
use Rattle.terms.specs.Pattern.{Patterns}
use Rattle.sheet.specs.Sheet.{Sheet}
use Rattle.sheet_tests.specs.CheckSheet.{accept_sheet}
use Rattle.decision.specs.Node.{Node}
use Rattle.decision.specs.Graph.{graph_in}
use Rattle.decision.specs.GraphBytes.{graph_bytes}
use Rattle.order.specs.Asking.{Asking, lowest, by_table, read_asking}
use Rattle.build.specs.declared.Built.{Built}

-- "When accepted, .. a build nodes and bytes written"; "Every other result field is then 0" beside a refusal's number.
pub record BuildValues : Type 0 where
  pub refusal : ℕ
  pub nodes : ℕ
  pub bytes : ℕ

-- The values, and every byte of the lent buffer.
pub record BuildOutcome : Type 0 where
  pub values : BuildValues
  pub buffer : List ℕ

-- "The first no, in order, gives its number. Every other result field is then 0 and no buffer changes."
abbrev pub not_built : ℕ → List ℕ → BuildOutcome
not_built q buffer = record { values = record { refusal = q; nodes = 0; bytes = 0 }; buffer = buffer }

-- "19 Does it fit the lent buffer?" "A graph shorter than its buffer leaves the bytes after it"
abbrev pub written_if : Bool → ℕ → List ℕ → List ℕ → BuildOutcome
written_if true nodes bytes buffer =
    record { values = record { refusal = 0; nodes = nodes; bytes = length bytes }; buffer = splice buffer 0 bytes }
written_if false nodes bytes buffer = not_built 19 buffer

abbrev pub nodes_written : ℕ → ℕ → List (Node ℕ) → List ℕ → BuildOutcome
nodes_written arity rules nodes buffer =
    written_if (leb (length (graph_bytes arity rules nodes)) (length buffer)) (length nodes) (graph_bytes arity rules nodes) buffer

-- "18 Has the graph at most 1,024 nodes?"
abbrev pub graph_written : ℕ → ℕ → Option (List (Node ℕ)) → List ℕ → BuildOutcome
graph_written arity rules none buffer = not_built 18 buffer
graph_written arity rules (some nodes) buffer = nodes_written arity rules nodes buffer

-- The sheet's questions come first, then those of a table. The graph asks the tests in this order.
abbrev pub sheet_built : Reading Sheet → Reading (List Patterns → List ℕ) → List ℕ → BuildOutcome
sheet_built (refused q) order buffer = not_built q buffer
sheet_built (took k sheet) (refused q) buffer = not_built q buffer
sheet_built (took k sheet) (took n order) buffer =
    graph_written sheet.arity (length sheet.rules) (graph_in sheet.rules (order sheet.rules)) buffer

unfoldable pub outcome_in : Asking → List ℕ → List ℕ → BuildOutcome
outcome_in asking s buffer = sheet_built (accept_sheet s) (read_asking asking) buffer

-- In document 01's order, and by a loaded table.
abbrev pub build_outcome : List ℕ → List ℕ → BuildOutcome
build_outcome s buffer = outcome_in lowest s buffer

abbrev pub ordered_outcome : List ℕ → List ℕ → List ℕ → BuildOutcome
ordered_outcome s table buffer = outcome_in (by_table table) s buffer

-- The values of what is handed back.
abbrev pub built_values : Result Built Refusal → BuildValues
built_values (Ok b) = record { refusal = 0; nodes = b.nodes; bytes = b.bytes }
built_values (Err r) = record { refusal = number r; nodes = 0; bytes = 0 }

-- What is handed back, with the buffer as it is then.
abbrev pub left_by : Result Built Refusal → List ℕ → BuildOutcome
left_by built buffer = record { values = built_values built; buffer = buffer }
