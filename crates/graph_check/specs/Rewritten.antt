-- What writing read nodes again answers, and what it leaves in the lent buffer (document 01, "Questions at the counter").
use Rattle.std.specs.Prelude.{ℕ, List, Ok, Err, length}
use Rattle.std.specs.Prelude as std
use Rattle.records.specs.Reading.{Reading, and_then, map_reading}
use Rattle.records.specs.Refusals.{number}
use Rattle.records.specs.declared.refusal.Refusal.{Refusal}
use Rattle.records.specs.Written.{Result, result_of, ask_fits}
use Rattle.sheet_tests.specs.CheckSheet.{accept_sheet}
use Rattle.decision.specs.GraphBytes.{graph_bytes}
use Rattle.graph.specs.ReadGraph.{read_graph}

-- The bytes of the nodes that were read: "asks the same" as the check does.
abbrev pub bytes_reading : List ℕ → List ℕ → Reading (List ℕ)
bytes_reading s g =
    and_then (accept_sheet s) (λ _ sheet. map_reading (graph_bytes sheet.arity (length sheet.rules)) (read_graph sheet g))

-- "Writing read nodes again asks the same, then 19": "19 Does it fit the lent buffer?" Of the sheet of bytes s and the graph of
-- bytes g.
unfoldable pub rewritten : List ℕ → List ℕ → List ℕ → Result
rewritten s g buffer = result_of buffer (and_then (bytes_reading s g) (λ _ bytes. ask_fits 19 buffer bytes))

-- What is handed back, with the buffer as it is then.
abbrev pub left_by : std.Result ℕ Refusal → List ℕ → Result
left_by (Ok n) buffer = record { refusal = 0; bytes = n; buffer = buffer }
left_by (Err r) buffer = record { refusal = number r; bytes = 0; buffer = buffer }
