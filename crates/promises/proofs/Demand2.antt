-- Demand 2, over bytes: "The graph written for a sheet is, to the byte, the one document 01 lays down. Reading it brings back the
-- same nodes; what is read and written again is the same bytes."
use Prim.Native.Nat.{ℕ, ◌+◌, ◌≤◌}
use mathlib.Core.Path.{◌≡◌, refl, sym, ap, subst, ◌∙◌}
use mathlib.Core.Bool.{Bool}
use mathlib.Core.List.{List}
use mathlib.Core.Option.{some}
use native.Mathlib.Omega.{arith}
use lib.ListN.{length, take, drop}
use lib.Seq.{take-append_seam}
use borrow.Author.Tests.{le-leb}
use Rattle.records.specs.Fields.{AreBytes}
use Rattle.records.specs.Reading.{Reading, took, refused, ask, and_then, map_reading}
use Rattle.records.specs.Written.{result_of, ask_fits}
use Rattle.records.specs.Writing.{splice}
use Rattle.sheet.specs.Sheet.{Sheet}
use Rattle.sheet_tests.specs.CheckSheet.{accept_sheet, AcceptedSheet}
use Rattle.accepted.proofs.Acceptance.{sheet_accepted_lem}
use Rattle.decision.specs.Node.{Node}
use Rattle.decision.specs.Graph.{graph_in}
use Rattle.decision.specs.GraphBytes.{graph_bytes}
use Rattle.decision.specs.AskingOrder.{AskingOrder}
use Rattle.decision.specs.AcceptedGraph.{AcceptedGraph}
use Rattle.decision.proofs.built.BuiltGraph.{built_graph_accepted}
use Rattle.graph.specs.ReadGraph.{read_graph}
use Rattle.graph.proofs.Spelled.{graph_brought, graph_read}
use Rattle.graph_check.specs.CheckGraph.{graph_reading, graph_values}
use Rattle.graph_check.specs.Rewritten.{rewritten}
use Rattle.order.specs.Asking.{Asking}
use Rattle.build.specs.BuildOutcome.{BuildOutcome, outcome_in}
use Rattle.build.proofs.BuiltBytes.{built_outcome, outcome_built}
use Rattle.promises.specs.BuiltGraph.{BuiltGraph}
use Rattle.promises.proofs.AskingOrders.{asking_asks}
use Rattle.build.specs.Building.{bytes_of, Building}

-- A built graph is that of an accepted sheet,
module _ {asking : Asking} {s buffer g : List ℕ} (built : BuiltGraph asking s buffer g) where
  pub built_from : Building asking s buffer
  built_from = outcome_built asking s buffer built.not_refused

  -- which is the sheet that its bytes are accepted as.
  abbrev pub building : {k : ℕ} {sheet : Sheet} → accept_sheet s ≡ took k sheet → Building asking s buffer
  building {k} {sheet} accepted =
      let b = built_from in
      let read : took b.taken b.sheet ≡ took k sheet = sym b.accepted ∙ accepted in
      let same : b.sheet ≡ sheet = cc in
      record {
        sheet = sheet;
        taken = k;
        accepted = accepted;
        order = b.order;
        table_taken = b.table_taken;
        ordered = b.ordered;
        nodes = b.nodes;
        graph = subst (λ (x : Sheet). graph_in x.rules (b.order x.rules) ≡ some b.nodes) same b.graph;
        fits = subst (λ (x : Sheet). length (bytes_of x b.nodes) ≤ length buffer) same b.fits;
      }

  -- "The graph written for a sheet is, to the byte, the one document 01 lays down."
  pub graph_to_the_byte : (b : Building asking s buffer) → g ≡ bytes_of b.sheet b.nodes
  graph_to_the_byte b =
      let bytes = bytes_of b.sheet b.nodes in
      built.wrote
      ∙ ap (λ (x : BuildOutcome). take x.values.bytes x.buffer) (built_outcome asking s buffer b)
      ∙ take-append_seam bytes (drop (0 + length bytes) buffer)

  -- It stands at the front of the buffer, and what stood after it is as it was.
  pub rest_of_buffer : (outcome_in asking s buffer).buffer ≡ splice buffer 0 g
  rest_of_buffer =
      ap (λ (x : BuildOutcome). x.buffer) (built_outcome asking s buffer built_from)
      ∙ ap (λ (bytes : List ℕ). splice buffer 0 bytes) (sym (graph_to_the_byte built_from))

  module _ (are_bytes : AreBytes s) (b : Building asking s buffer) where
    pub accepted_sheet_lem : AcceptedSheet b.sheet
    accepted_sheet_lem = ((sheet_accepted_lem s are_bytes b.taken b.sheet).0 b.accepted).0

    -- It asks the tests in an asking order.
    pub built_asks : AskingOrder b.sheet.rules (b.order b.sheet.rules)
    built_asks = asking_asks asking b.ordered b.sheet accepted_sheet_lem

    pub accepted_graph_lem : AcceptedGraph b.sheet.rules b.nodes
    accepted_graph_lem =
        built_graph_accepted b.sheet accepted_sheet_lem (b.order b.sheet.rules) b.nodes b.graph

    pub graph_read_back : read_graph b.sheet g ≡ took (length g) b.nodes
    graph_read_back =
        subst (λ (l : List ℕ). read_graph b.sheet l ≡ took (length l) b.nodes) (sym (graph_to_the_byte b))
        (graph_brought b.sheet accepted_sheet_lem.sound b.nodes accepted_graph_lem)

    -- "Reading it brings back the same nodes": the check of the graph accepts it, with its nodes.
    pub reading_brings_back : graph_reading s g ≡ took (length g) b.nodes
    unfolding graph_reading
    reading_brings_back = ap (λ (r : Reading Sheet). and_then r (λ _ sheet. read_graph sheet g)) b.accepted ∙ graph_read_back

    -- So the questions of a graph refuse nothing.
    pub built_passes : graph_values (graph_reading s g) ≡ record { refusal = 0; nodes = length b.nodes }
    built_passes = ap graph_values reading_brings_back

-- Accepted bytes are written again as they are, where they fit.
module _ (s g buffer : List ℕ) (sheet_bytes : AreBytes s) (are_bytes : AreBytes g) where
  -- "What is read and written again is the same bytes", of every graph that the check accepts, built or another maker's.
  pub rewriting_same
      : {k : ℕ} {nodes : List (Node ℕ)} → graph_reading s g ≡ took k nodes → length g ≤ length buffer
      → rewritten s g buffer ≡ record { refusal = 0; bytes = length g; buffer = splice buffer 0 g }
  unfolding graph_reading rewritten
  rewriting_same {k} {nodes} e fits = go (accept_sheet s) refl e
    where
      go
          : (r : Reading Sheet) → accept_sheet s ≡ r → and_then r (λ _ sheet. read_graph sheet g) ≡ took k nodes
          → result_of buffer (and_then (and_then r (λ _ sheet. map_reading (graph_bytes sheet.arity (length sheet.rules)) (read_graph sheet g))) (λ _ bytes. ask_fits 19 buffer bytes))
          ≡ record { refusal = 0; bytes = length g; buffer = splice buffer 0 g }
      go (took a sheet) c d =
          let sound = ((sheet_accepted_lem s sheet_bytes a sheet).0 c).0.sound in
          let spelled = graph_read sheet sound g are_bytes d in
          ap (λ (x : Reading (List (Node ℕ))). result_of buffer (and_then (map_reading (graph_bytes sheet.arity (length sheet.rules)) x) (λ _ bytes. ask_fits 19 buffer bytes))) d
          ∙ ap (λ (bytes : List ℕ). result_of buffer (ask_fits 19 buffer bytes)) spelled.spelled
          ∙ ap (λ (b : Bool). result_of buffer (ask 19 b (took (length g) g))) (le-leb (length g) (length buffer) fits)
      go (refused q) c d = let z : ◌≡◌ {A = ℕ} 0 1 = cc in absurd (omega arith)
