-- How the reading of a graph for a sheet goes, from the sheet's.
use Prim.Native.Nat.{ℕ}
use mathlib.Core.Path.{◌≡◌, ap}
use mathlib.Core.List.{List}
use Rattle.records.specs.Reading.{Reading, took, refused, and_then}
use Rattle.sheet.specs.Sheet.{Sheet}
use Rattle.sheet_tests.specs.CheckSheet.{accept_sheet}
use Rattle.graph.specs.ReadGraph.{read_graph}
use Rattle.graph_check.specs.CheckGraph.{graph_reading}

module _ (s g : List ℕ) where
  -- The sheet is refused,
  pub sheet_unread : {q : ℕ} → accept_sheet s ≡ refused q → graph_reading s g ≡ refused q
  unfolding graph_reading
  sheet_unread e = ap (λ (x : Reading Sheet). and_then x (λ _ sheet. read_graph sheet g)) e

  -- or accepted, and the graph is read for it.
  pub sheet_read_lem : {k : ℕ} {sheet : Sheet} → accept_sheet s ≡ took k sheet → graph_reading s g ≡ read_graph sheet g
  unfolding graph_reading
  sheet_read_lem e = ap (λ (x : Reading Sheet). and_then x (λ _ sheet. read_graph sheet g)) e
