-- A graph's first record as it is handed back (document 01, "Records", "Graph").
use Rattle.std.specs.Prelude.{ℕ, List, Result, length}
use Rattle.records.specs.Reading.{Reading, took, and_then, map_reading}
use Rattle.records.specs.Refusals.{reading_in}
use Rattle.records.specs.declared.refusal.Refusal.{Refusal}
use Rattle.sheet.specs.Sheet.{Sheet}
use Rattle.sheet_tests.specs.CheckSheet.{accept_sheet}
use Rattle.decision.specs.Node.{Node}
use Rattle.graph.specs.ReadGraph.{read_graph}
use Rattle.graph_check.specs.declared.GraphHeader.{GraphHeader}

-- "12 (arity, number of rules, wide node count)": the fields of an accepted graph's first record.
pub record HeaderFields : Type 0 where
  pub arity : ℕ
  pub rules : ℕ
  pub nodes : ℕ

abbrev pub fields_of : Sheet → List (Node ℕ) → HeaderFields
fields_of sheet nodes = record { arity = sheet.arity; rules = length sheet.rules; nodes = length nodes }

abbrev pub fields_reading : List ℕ → List ℕ → Reading HeaderFields
fields_reading s g = and_then (accept_sheet s) (λ _ sheet. map_reading (fields_of sheet) (read_graph sheet g))

-- The same of a graph of so many bytes, as it is handed back.
abbrev pub fields_read : ℕ → Result GraphHeader Refusal → Reading HeaderFields
fields_read bytes r =
    reading_in (λ (h : GraphHeader). took bytes (record { arity = h.arity; rules = h.rules; nodes = h.nodes })) r
