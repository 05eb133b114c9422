-- An accepted graph written again: what is written is its bytes.
use Prim.Native.Nat.{ℕ, ◌≤◌, ◌<◌}
use mathlib.Core.Path.{◌≡◌, sym, ap, subst, ◌∙◌}
use mathlib.Core.Bool.{Bool}
use mathlib.Core.List.{List, [], ◌∷◌, ◌++◌}
use native.Mathlib.Omega.{arith}
use borrow.Author.Tests.{le-leb, lt-leb}
use lib.ListN.{length, drop}
use Rattle.records.specs.Fields.{IsByte, wide_then}
use Rattle.records.specs.Reading.{Reading, took, refused, ask, and_then, map_reading}
use Rattle.records.specs.Writing.{splice}
use Rattle.records.specs.Written.{result_of, ask_fits}
use Rattle.basics.specs.Lists.{All}
use Rattle.sheet.specs.Sheet.{Sheet, SoundSheet}
use Rattle.sheet_tests.specs.CheckSheet.{accept_sheet}
use Rattle.accepted.proofs.Acceptance.{sheet_accepted_lem}
use Rattle.decision.specs.Node.{Node}
use Rattle.decision.specs.views.GraphSize.{most_graph_bytes}
use Rattle.decision.specs.GraphBytes.{nodes_bytes, graph_bytes}
use Rattle.graph.specs.ReadGraph.{read_graph}
use Rattle.graph.specs.views.Rewriting.{IsTook, read_or, read_records}
use Rattle.std.specs.Prelude.{Ok}
use Rattle.graph_check.specs.Rewritten.{rewritten, left_by}
use Rattle.graph_check.proofs.Headers.{HeaderOf}
use Rattle.graph_check.proofs.AcceptedBytes as accepted
use Rattle.graph_check.specs.views.Header.{fields_of, fields_reading}
use Rattle.graph.specs.views.WriteNode.{header_bytes}

-- A graph that was refused before question 19.
module _ (s g buffer : List ℕ) where
  pub rewrite_refused
      : {q : ℕ} → refused q ≡ fields_reading s g → result_of buffer (refused q) ≡ rewritten s g buffer
  unfolding rewritten
  rewrite_refused {q} e = go (accept_sheet s) e
    where
      left : Reading (List ℕ) → Type 0
      left x = result_of buffer (refused q) ≡ result_of buffer (and_then x (λ _ bytes. ask_fits 19 buffer bytes))

      inner
          : (sheet : Sheet) (x : Reading (List (Node ℕ))) → refused q ≡ map_reading (fields_of sheet) x
          → left (map_reading (graph_bytes sheet.arity (length sheet.rules)) x)
      inner sheet (took k nodes) h = let z : ◌≡◌ {A = ℕ} 0 1 = cc in absurd (omega arith)
      inner sheet (refused p) h = let same : q ≡ p = cc in ap (λ (n : ℕ). result_of buffer (refused n)) same

      go
          : (x : Reading Sheet) → refused q ≡ and_then x (λ _ sheet. map_reading (fields_of sheet) (read_graph sheet g))
          → left (and_then x (λ _ sheet. map_reading (graph_bytes sheet.arity (length sheet.rules)) (read_graph sheet g)))
      go (took k sheet) h = inner sheet (read_graph sheet g) h
      go (refused p) h = let same : q ≡ p = cc in ap (λ (n : ℕ). result_of buffer (refused n)) same

module _ (s g : List ℕ) (s-bytes : All IsByte s) (g-bytes : All IsByte g) {a r n : ℕ} (h : HeaderOf s g a r n) where
  abbrev sheet : Sheet
  sheet = h.sheet

  sound : SoundSheet sheet
  sound = ((sheet_accepted_lem s s-bytes h.bytes sheet).0 h.accepted).0.sound

  -- The header is there, the length fits 32 bits, and the records are there to be read again.
  pub graph_whole : 5 ≤ length g
  graph_whole = accepted.graph_whole sheet sound g g-bytes h.read

  pub graph_small : length g ≤ most_graph_bytes
  graph_small = accepted.graph_small sheet sound g g-bytes h.read

  records_read : read_records n (drop 5 g) ≡ took (length (nodes_bytes h.nodes)) h.nodes
  records_read =
      ap (λ (k : ℕ). read_records k (drop 5 g)) (sym h.nodes_is) ∙ accepted.records_read sheet sound g g-bytes h.read

  pub records_there : IsTook (read_records n (drop 5 g))
  records_there = subst IsTook (sym records_read) tt

  -- What is written is the graph.
  abbrev pub again : List ℕ
  again = header_bytes a r n ++ nodes_bytes (read_or [] (read_records n (drop 5 g)))

  again_same : again ≡ g
  again_same =
      let arity = sym h.arity_is in
      let rules = sym h.rules_is in
      let count = sym h.nodes_is in
      (λ i. 0x12 ∷ arity i ∷ rules i ∷ wide_then (count i) (nodes_bytes (read_or [] (records_read i))))
      ∙ accepted.written_same sheet sound g g-bytes h.read

  pub again_size : length again ≡ length g
  again_size = ap length again_same

  module _ (buffer : List ℕ) where
    asked : rewritten s g buffer ≡ result_of buffer (ask_fits 19 buffer g)
    unfolding rewritten
    asked =
        let bytes : Sheet → List (Node ℕ) → List ℕ = λ x. graph_bytes x.arity (length x.rules) in
        ap
        (λ x.
        result_of buffer (and_then (and_then x (λ _ y. map_reading (bytes y) (read_graph y g))) (λ _ l. ask_fits 19 buffer l)))
        h.accepted
        ∙ ap (λ x. result_of buffer (and_then (map_reading (bytes sheet) x) (λ _ l. ask_fits 19 buffer l))) h.read
        ∙ ap (λ (l : List ℕ). result_of buffer (ask_fits 19 buffer l)) (accepted.written_same sheet sound g g-bytes h.read)

    -- Question 19 got a no: it does not fit.
    pub rewrite_large : length buffer < length g → result_of buffer (refused 19) ≡ rewritten s g buffer
    rewrite_large more =
        sym
        (asked ∙ ap (λ (b : Bool). result_of buffer (ask 19 b (took (length g) g))) (lt-leb (length g) (length buffer) more))

    -- The graph's bytes are written.
    pub rewrite_fits : length g ≤ length buffer → left_by (Ok (length g)) (splice buffer 0 g) ≡ rewritten s g buffer
    rewrite_fits fits =
        sym
        (asked ∙ ap (λ (b : Bool). result_of buffer (ask 19 b (took (length g) g))) (le-leb (length g) (length buffer) fits))

    pub rewrite_written
        : {end : ℕ} {left : List ℕ} → length g ≤ length buffer → end ≡ length again → left ≡ splice buffer 0 again
        → left_by (Ok end) left ≡ rewritten s g buffer
    rewrite_written fits e f =
        let size = e ∙ again_size in
        let bytes = f ∙ ap (splice buffer 0) again_same in
        (λ i. left_by (Ok (size i)) (bytes i)) ∙ rewrite_fits fits
