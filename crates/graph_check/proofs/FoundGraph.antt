-- What the index of a graph tells of how the graph is read for the sheet.
use Prim.Native.Nat.{ℕ}
use mathlib.Core.Path.{◌≡◌, sym, ap, ◌∙◌}
use mathlib.Core.List.{List}
use lib.ListN.{length}
use Rattle.std.specs.Prelude.{Result, Ok, Err}
use Rattle.records.specs.Reading.{refused, map_reading}
use Rattle.records.specs.Refusals.{number}
use Rattle.records.specs.declared.refusal.Refusal.{Refusal}
use Rattle.records.proofs.Rows.{took_view, refused_view}
use Rattle.sheet.specs.Sheet.{Sheet}
use Rattle.accepted.specs.views.AcceptedAs.{AcceptedTests}
use Rattle.graph.specs.ReadGraph.{is_sheet_test, read_by, read_graph}
use Rattle.node_check.specs.views.CheckNode.{kept_test}
use Rattle.graph_check.specs.views.GraphIndex.{GraphIndex, graph_index, indexed, AcceptedGraphAs}
use Rattle.graph_check.proofs.TestsKept.{kept_reading}

module _
    (s g words codes starts : List ℕ) {arity rules pairs : ℕ} (t : AcceptedTests s words codes arity rules pairs)
    (r : Result ℕ Refusal)
    (e : indexed (length g) starts r ≡ map_reading graph_index (read_by (kept_test words codes pairs) arity rules g))
  where
    abbrev sheet : Sheet
    sheet = t.read.sheet

    -- The graph was read for this sheet.
    for_sheet_lem : indexed (length g) starts r ≡ map_reading graph_index (read_graph sheet g)
    for_sheet_lem =
        e
        ∙ ap (map_reading graph_index)
        (kept_reading sheet.rules words codes pairs t.tests arity rules g
        ∙ (λ i. read_by (is_sheet_test sheet.rules) (sym t.read.arity_is i) (sym t.count_is i) g))

    -- Where the index was made the graph is accepted,
    pub index_accepts : {count : ℕ} → r ≡ Ok count → AcceptedGraphAs sheet g starts count
    index_accepts {count} same =
        let (nodes, read, is) =
        took_view graph_index (read_graph sheet g) (sym (ap (indexed (length g) starts) same) ∙ for_sheet_lem) in
        record {
          nodes = nodes;
          read = read;
          count_is = sym (ap (λ (x : GraphIndex). x.nodes) is);
          begin = sym (ap (λ (x : GraphIndex). x.starts) is);
        }

    -- and where it was refused so is the graph.
    pub index_refuses : {no : Refusal} → r ≡ Err no → read_graph sheet g ≡ refused (number no)
    index_refuses same =
        refused_view graph_index (read_graph sheet g) (sym (ap (indexed (length g) starts) same) ∙ for_sheet_lem)
