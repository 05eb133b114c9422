-- What the calls over a sheet and a graph say, in sentences over bytes.
use Prim.Native.Nat.{ℕ, ◌≤◌, ◌<◌}
use mathlib.Core.Path.{◌≡◌, refl, sym, ap, subst, ◌∙◌}
use mathlib.Core.Logic.{◌↔◌}
use mathlib.Core.List.{List}
use mathlib.Core.Option.{some}
use native.Mathlib.Omega.{arith}
use lib.ListN.{length}
use Rattle.records.specs.Fields.{IsByte}
use Rattle.records.specs.Reading.{Reading, took, refused, and_then}
use Rattle.records.specs.Writing.{splice}
use Rattle.basics.specs.Lists.{All}
use Rattle.sheet.specs.Sheet.{Sheet}
use Rattle.sheet.specs.WriteSheet.{sheet_bytes}
use Rattle.sheet_tests.specs.CheckSheet.{accept_sheet, AcceptedSheet}
use Rattle.accepted.proofs.WrittenBytes.{sheet_bytes_lem}
use Rattle.accepted.proofs.Acceptance.{sheet_accepted_lem}
use Rattle.decision.specs.Node.{Node}
use Rattle.decision.specs.Graph.{graph_in}
use Rattle.decision.specs.GraphBytes.{graph_bytes}
use Rattle.decision.specs.AcceptedGraph.{AcceptedGraph}
use Rattle.decision.proofs.built.BuiltGraph.{built_graph_accepted}
use Rattle.graph.specs.ReadGraph.{read_graph}
use Rattle.graph.proofs.Spelled.{graph_brought, graph_read}
use Rattle.graph_check.specs.CheckGraph.{GraphValues, graph_reading, graph_values}
use Rattle.graph_check.specs.Rewritten.{rewritten}
use Rattle.graph_check.proofs.Headers.{HeaderOf, sheet_refuses, graph_refuses}
use Rattle.graph_check.proofs.WrittenAgain.{rewrite_refused, rewrite_large, rewrite_fits}
use Rattle.graph_check.specs.WrittenGraph.{WrittenGraph}

module _ (sheet : Sheet) (accepted : AcceptedSheet sheet) where
  abbrev written : List (Node ℕ) → List ℕ
  written nodes = graph_bytes sheet.arity (length sheet.rules) nodes

  sheet_read_lem : accept_sheet (sheet_bytes sheet) ≡ took (length (sheet_bytes sheet)) sheet
  sheet_read_lem =
      let s = sheet_bytes sheet in
      (sheet_accepted_lem s (sheet_bytes_lem sheet accepted.sound) (length s) sheet).1 (accepted, refl, refl)

  -- Reading what was written brings back the same nodes.
  pub written_brought
      : (nodes : List (Node ℕ)) → AcceptedGraph sheet.rules nodes
      → graph_reading (sheet_bytes sheet) (written nodes) ≡ took (length (written nodes)) nodes
  unfolding graph_reading
  written_brought nodes ok =
      ap (λ r. and_then r (λ _ x. read_graph x (written nodes))) sheet_read_lem ∙ graph_brought sheet accepted.sound nodes ok

  -- The bytes of a graph built in whatever order are accepted by the check.
  pub built_checked
      : (order : List ℕ) (nodes : List (Node ℕ)) → graph_in sheet.rules order ≡ some nodes
      → graph_values (graph_reading (sheet_bytes sheet) (written nodes)) ≡ record { refusal = 0; nodes = length nodes }
  built_checked order nodes built =
      ap graph_values (written_brought nodes (built_graph_accepted sheet accepted order nodes built))

module _ (s g : List ℕ) (s-bytes : All IsByte s) (g-bytes : All IsByte g) where
  graph_written_lem : {k : ℕ} {nodes : List (Node ℕ)} → graph_reading s g ≡ took k nodes → WrittenGraph s g nodes
  unfolding graph_reading
  graph_written_lem {k} {nodes} e = go (accept_sheet s) refl e
    where
      go
          : (x : Reading Sheet) → accept_sheet s ≡ x → and_then x (λ _ sheet. read_graph sheet g) ≡ took k nodes
          → WrittenGraph s g nodes
      go (took b sheet) d h =
          let (ok, same, all) = (sheet_accepted_lem s s-bytes b sheet).0 d in
          let spelled = graph_read sheet ok.sound g g-bytes h in
          record {
            sheet = sheet;
            accepted_sheet = ok;
            sheet_spelled = same;
            accepted_graph = spelled.accepted;
            graph_spelled = spelled.spelled;
          }
      go (refused q) d h = let z : ◌≡◌ {A = ℕ} 0 1 = cc in absurd (omega arith)

  written_read : {nodes : List (Node ℕ)} → WrittenGraph s g nodes → graph_reading s g ≡ took (length g) nodes
  written_read {nodes} w =
      let t = w.sheet_spelled in
      let f = w.graph_spelled in
      (λ i. graph_reading (sym t i) (sym f i))
      ∙ written_brought w.sheet w.accepted_sheet nodes w.accepted_graph
      ∙ ap (λ (l : List ℕ). took (length l) nodes) f

  -- Bytes are accepted as a graph exactly when they are the written bytes of nodes that the meaning accepts.
  pub graph_accepted_lem : (nodes : List (Node ℕ)) → (graph_reading s g ≡ took (length g) nodes) ↔ WrittenGraph s g nodes
  graph_accepted_lem nodes = (graph_written_lem, written_read)

  -- The check answers a number of nodes exactly when the bytes are those of so many accepted nodes.
  pub check_accepted
      : (n : ℕ)
      → ((1 ≤ n) × (graph_values (graph_reading s g) ≡ record { refusal = 0; nodes = n }))
      ↔ ((nodes : List (Node ℕ)) × (length nodes ≡ n) × WrittenGraph s g nodes)
  check_accepted n = (λ h. forth (graph_reading s g) refl h.0 h.1, back)
    where
      forth
          : (x : Reading (List (Node ℕ))) → graph_reading s g ≡ x → 1 ≤ n → graph_values x ≡ record { refusal = 0; nodes = n }
          → (nodes : List (Node ℕ)) × (length nodes ≡ n) × WrittenGraph s g nodes
      forth (took k nodes) e least v = (nodes, ap (λ (y : GraphValues). y.nodes) v, graph_written_lem e)
      forth (refused q) e least v = absurd (omega (arith, ap (λ (y : GraphValues). y.nodes) v))

      back
          : ((nodes : List (Node ℕ)) × (length nodes ≡ n) × WrittenGraph s g nodes)
          → (1 ≤ n) × (graph_values (graph_reading s g) ≡ record { refusal = 0; nodes = n })
      back (nodes, count, w) = (
        omega (arith, w.accepted_graph.some_node),
        ap graph_values (written_read w) ∙ (λ i. record { refusal = 0; nodes = count i }),
      )

  module _ {nodes : List (Node ℕ)} (w : WrittenGraph s g nodes) (buffer : List ℕ) where
    header : HeaderOf s g w.sheet.arity (length w.sheet.rules) (length nodes)
    header =
        let t = w.sheet_spelled in
        let f = w.graph_spelled in
        record {
          bytes = length s;
          sheet = w.sheet;
          accepted =
              subst (λ (l : List ℕ). accept_sheet l ≡ took (length l) w.sheet) t (sheet_read_lem w.sheet w.accepted_sheet);
          nodes = nodes;
          read =
              subst (λ (l : List ℕ). read_graph w.sheet l ≡ took (length l) nodes) f
              (graph_brought w.sheet w.accepted_sheet.sound nodes w.accepted_graph);
          arity_is = refl;
          rules_is = refl;
          nodes_is = refl;
        }

    -- Accepted bytes that are written again are the same bytes,
    pub rewrite_same
        : length g ≤ length buffer
        → rewritten s g buffer ≡ record { refusal = 0; bytes = length g; buffer = splice buffer 0 g }
    rewrite_same fits = sym (rewrite_fits s g s-bytes g-bytes header buffer fits)

    -- and where they do not fit none is written.
    pub rewrite_nothing
        : length buffer < length g → rewritten s g buffer ≡ record { refusal = 19; bytes = 0; buffer = buffer }
    rewrite_nothing more = sym (rewrite_large s g s-bytes g-bytes header buffer more)

-- What the check refuses is not written again either: the same number, and no byte changes.
pub rewrite_as_checked
    : (s g buffer : List ℕ) {q : ℕ} → graph_reading s g ≡ refused q
    → rewritten s g buffer ≡ record { refusal = q; bytes = 0; buffer = buffer }
unfolding graph_reading
rewrite_as_checked s g buffer {q} e = go (accept_sheet s) refl e
  where
    go
        : (x : Reading Sheet) → accept_sheet s ≡ x → and_then x (λ _ sheet. read_graph sheet g) ≡ refused q
        → rewritten s g buffer ≡ record { refusal = q; bytes = 0; buffer = buffer }
    go (took k sheet) d h = sym (rewrite_refused s g buffer (graph_refuses s g d h))
    go (refused p) d h =
        let same : p ≡ q = cc in sym (rewrite_refused s g buffer (sheet_refuses s g (d ∙ ap refused same)))
