-- Bytes are an accepted graph exactly when they spell nodes that the meaning accepts: reading what was written brings back the
-- same nodes, and what is read from accepted bytes and written again is the same bytes.
use Prim.Native.Nat.{ℕ, suc, ◌+◌, ◌-◌, ◌≤◌}
use mathlib.Core.Path.{◌≡◌, refl, sym, ap, subst, ◌∙◌}
use mathlib.Core.Bool.{Bool, ◌&&◌}
use mathlib.Core.Logic.{◌↔◌}
use mathlib.Core.List.{List, [], ◌∷◌, ◌++◌, append-nil}
use native.Mathlib.Omega.{arith}
use borrow.Author.Tests.{le-leb, eq-eqb}
use lib.Dec.{leb, eqb, eqb→eq, leb→le}
use lib.ListN.{length, get_or, drop, length-drop, drop_of_length-le}
use Rattle.records.specs.Fields.{IsByte, wide_at, wide_then}
use Rattle.records.specs.Reading.{Reading, took, refused, ask}
use Rattle.records.proofs.Questions.{ask_took}
use Rattle.records.proofs.WideFields.{wide_of_lem}
use Rattle.basics.specs.Lists.{All}
use Rattle.basics.proofs.Booleans.{both_true}
use Rattle.sheet.specs.Sheet.{Sheet, SoundSheet}
use Rattle.decision.specs.Node.{Node}
use Rattle.decision.specs.Graph.{most_nodes}
use Rattle.decision.specs.GraphBytes.{node_bytes, nodes_bytes, graph_bytes}
use Rattle.decision.specs.AcceptedGraph.{AcceptedNode, AcceptedGraph}
use Rattle.graph.specs.ReadGraph.{is_sheet_test, read_node, read_nodes, end_graph, read_by, read_graph}
use Rattle.graph.proofs.FieldBytes.{byte_then, kind_then, wide_then_lem}
use Rattle.graph.proofs.ByKinds.{header_by_kind}
use Rattle.graph.proofs.Spelling.{Spelled, GoodRow, row_spelled, begins_read}
use Rattle.graph.proofs.TestedPlaces.{tests_near}
use Rattle.graph.proofs.AcceptedNodes.{accepted_spelled}
use Rattle.records.proofs.ByteLists.{bytes_drop}

-- The k bytes s spell the nodes, which are accepted for the sheet.
pub record SpelledGraph (sheet : Sheet) (s : List ℕ) (k : ℕ) (nodes : List (Node ℕ)) : Type 0 where
  pub accepted : AcceptedGraph sheet.rules nodes
  pub spelled : graph_bytes sheet.arity (length sheet.rules) nodes ≡ s
  pub whole : k ≡ length s

module _ (sheet : Sheet) (sound : SoundSheet sheet) where
  -- Nodes in a row, in a graph of so many.
  abbrev Good : ℕ → Node ℕ → Type 0
  Good count = AcceptedNode sheet.rules count

  nodes_spelled
      : (count : ℕ) → count ≤ most_nodes
      → Spelled nodes_bytes (GoodRow (Good count) count) (read_nodes (is_sheet_test sheet.rules) (length sheet.rules) count)
  nodes_spelled count few =
      row_spelled node_bytes (Good count) (read_node (is_sheet_test sheet.rules) (length sheet.rules) count)
      (accepted_spelled sheet.rules count (tests_near sheet sound) few) nodes_bytes refl (λ n ns. refl) count

  -- Reading what was written brings back the same nodes.
  pub graph_brought
      : (nodes : List (Node ℕ)) → AcceptedGraph sheet.rules nodes
      → read_graph sheet (graph_bytes sheet.arity (length sheet.rules) nodes)
      ≡ took (length (graph_bytes sheet.arity (length sheet.rules) nodes)) nodes
  unfolding read_by
  graph_brought nodes a =
      let s = graph_bytes sheet.arity (length sheet.rules) nodes in
      let count = length nodes in
      let read = (nodes_spelled count a.few_nodes).brought nodes [] (refl, a.accepted_nodes) in
      rw (
        header_by_kind sheet.arity (length sheet.rules) s,
        le-leb 5 (length s) (omega arith),
        eq-eqb sheet.arity sheet.arity refl,
        eq-eqb (length sheet.rules) (length sheet.rules) refl,
        wide_of_lem count (omega (arith, a.few_nodes)),
        le-leb 1 count a.some_node,
        le-leb count most_nodes a.few_nodes,
      )
      (ap (end_graph (length s - 5)) (rw append-nil at read)
      ∙ rw (eq-eqb (length (nodes_bytes nodes)) (length s - 5) (omega arith))
      (ap (λ (k : ℕ). took k nodes) (size (length (nodes_bytes nodes)))))
    where
      size : (n : ℕ) → 5 + n ≡ suc (suc (suc (suc (suc n))))
      size n = omega arith

  -- Nodes that were read behind the header, where no bytes are left.
  End-read
      : (bytes : ℕ) (r : Reading (List (Node ℕ))) {k : ℕ} {nodes : List (Node ℕ)} → end_graph bytes r ≡ took k nodes
      → (r ≡ took bytes nodes) × (k ≡ 5 + bytes)
  End-read bytes (took a ns) {k} e =
      let (whole, read) = ask_took 25 (eqb a bytes) (took (5 + a) ns) e in
      let all = eqb→eq a bytes whole in
      let same : 5 + a ≡ k = cc in
      ((cc), sym same ∙ ap (λ (n : ℕ). 5 + n) all)
  End-read bytes (refused q) e = let z : ◌≡◌ {A = ℕ} 0 1 = cc in absurd (omega arith)

  -- What is read from accepted bytes and written again is the same bytes.
  pub graph_read
      : (s : List ℕ) → All IsByte s → {k : ℕ} {nodes : List (Node ℕ)} → read_graph sheet s ≡ took k nodes
      → SpelledGraph sheet s k nodes
  unfolding read_by
  graph_read s h {k} {nodes} e =
      let count = wide_at s 3 in
      let rows = read_nodes (is_sheet_test sheet.rules) (length sheet.rules) count (drop 5 s) in
      let f1 = leb 5 (length s) in
      let f2 = eqb (get_or s 0 0) 0x12 in
      let f3 = eqb (get_or s 1 0) sheet.arity in
      let f4 = eqb (get_or s 2 0) (length sheet.rules) in
      let f5 = leb 1 count in
      let f6 = leb count most_nodes in
      let same-header = header_by_kind sheet.arity (length sheet.rules) s in
      let (header, body) =
      ask_took 21 (f1 && f2 && f3 && f4 && f5 && f6) (end_graph (length s - 5) rows)
      (ap (λ (b : Bool). ask 21 b (end_graph (length s - 5) rows)) (sym same-header) ∙ e)
      in
      let (b5, t6) = both_true (f1 && f2 && f3 && f4 && f5) f6 header in
      let (b4, t5) = both_true (f1 && f2 && f3 && f4) f5 b5 in
      let (b3, t4) = both_true (f1 && f2 && f3) f4 b4 in
      let (b2, t3) = both_true (f1 && f2) f3 b3 in
      let (t1, t2) = both_true f1 f2 b2 in
      let there = leb→le 5 (length s) t1 in
      let few = leb→le count most_nodes t6 in
      let (read, all) = End-read (length s - 5) rows body in
      let b = begins_read nodes_bytes (GoodRow (Good count) count) (nodes_spelled count few) (drop 5 s) (bytes_drop 5 s h) read in
      let none : drop (length s - 5) (drop 5 s) ≡ [] = drop_of_length-le (drop 5 s) {i = length s - 5} (omega (arith, length-drop 5 s)) in
      let same = b.good.0 in
      record {
        accepted =
            record {
              some_node = omega (arith, leb→le 1 count t5);
              few_nodes = omega arith;
              accepted_nodes = subst (λ (n : ℕ). All (AcceptedNode sheet.rules n) nodes) (sym same) b.good.1;
            };
        spelled =
            sym
            (kind_then s h (eqb→eq (get_or s 0 0) 0x12 t2) (omega arith)
            (byte_then s h 1 (omega arith)
            (byte_then s h 2 (omega arith)
            (wide_then_lem s h 3 (omega arith)
            (b.begins ∙ ap (λ (l : List ℕ). nodes_bytes nodes ++ l) none ∙ append-nil (nodes_bytes nodes)))))
            ∙ header_same (eqb→eq (get_or s 1 0) sheet.arity t3) (eqb→eq (get_or s 2 0) (length sheet.rules) t4) (sym same));
        whole = all ∙ omega arith;
      }
    where
      header_same
          : {x y z u v w : ℕ} {l : List ℕ} → x ≡ u → y ≡ v → z ≡ w → 0x12 ∷ x ∷ y ∷ wide_then z l ≡ 0x12 ∷ u ∷ v ∷ wide_then w l
      header_same {l = l} a b c = λ i. 0x12 ∷ a i ∷ b i ∷ wide_then (c i) l

  -- The bytes are accepted as these nodes exactly when they spell them.
  pub graph_spelled_lem
      : (s : List ℕ) → All IsByte s → (k : ℕ) (nodes : List (Node ℕ))
      → (read_graph sheet s ≡ took k nodes) ↔ SpelledGraph sheet s k nodes
  graph_spelled_lem s h k nodes = (
    graph_read s h,
    λ g.
        subst (λ (l : List ℕ). read_graph sheet l ≡ took (length l) nodes) g.spelled (graph_brought nodes g.accepted)
        ∙ ap (λ (n : ℕ). took n nodes) (sym g.whole),
  )
