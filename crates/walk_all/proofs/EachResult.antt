-- Result i is what the walk of piece i gives.
use Prim.Native.Nat.{ℕ, zero, suc, ◌+◌, ◌-◌, ◌*◌, ◌/◌, ◌<◌, min}
use mathlib.Core.Path.{◌≡◌, refl, sym, ap, ◌∙◌}
use mathlib.Core.Bool.{Bool, true, false, cond}
use mathlib.Core.List.{List, [], ◌∷◌, ◌++◌, append_assoc}
use native.Mathlib.Omega.{arith}
use lib.Dec.{leb, eqb}
use lib.ListN.{length, take, drop}
use lib.Seq.{take-length, drop-append-add}
use Rattle.records.specs.Reading.{Reading, took, refused, ask, and_then}
use Rattle.sheet.specs.Sheet.{Sheet}
use Rattle.sheet_tests.specs.CheckSheet.{accept_sheet}
use Rattle.piece.specs.Piece.{Piece}
use Rattle.piece.specs.ReadPiece.{read_prefix, read_piece}
use Rattle.decision.specs.Node.{Node}
use Rattle.decision.specs.Walk.{Walk}
use Rattle.graph.specs.ReadGraph.{read_graph}
use Rattle.graph_check.specs.CheckGraph.{graph_reading}
use Rattle.walk.specs.Walking.{WalkValues, walk_reply, reply_values}
use Rattle.walk.proofs.Replies.{sheet_accepts, piece_refuses}
use Rattle.walk_all.specs.WalkAll.{piece_then, pieces_in, results_of, result_bytes, result_length, most_results, most_taken}
use Rattle.walk_all.specs.WalkAll.{walked_for, pieces_for, walk_all}
use Rattle.walk_all.specs.EachPiece.{piece_length, piece_at, result_at}

-- A result has 16 bytes.
result_skipped : (v : WalkValues) (l : List ℕ) (i : ℕ) → result_at (suc i) (result_bytes v ++ l) ≡ result_at i l
result_skipped v l i =
    let more : 16 * suc i ≡ 16 + 16 * i = omega arith in
    ap (λ (k : ℕ). take 16 (drop k (result_bytes v ++ l))) more ∙ ap (take 16) (drop-append-add (result_bytes v) l (16 * i))

module _ (reply : List ℕ → Reading Walk) (unread : (p : List ℕ) (q : ℕ) → read_prefix p ≡ refused q → reply p ≡ refused q) where
  abbrev due : List ℕ → List ℕ
  due p = result_bytes (reply_values (reply p))

  -- The results of pieces, with bytes behind them.
  abbrev results : List (Reading (List ℕ)) → List ℕ → List ℕ
  results ps behind = results_of reply ps ++ behind

  -- All results behind the first piece are those of the pieces behind it.
  module _ (input behind : List ℕ) (left : ℕ) (more : ℕ → List (Reading (List ℕ)))
      (each : (k i : ℕ) → i < length (more k) → result_at i (results (more k) behind) ≡ due (piece_at i (drop k input))) where
    by_fit
        : (k : ℕ) (piece : Piece) (b : Bool) (i : ℕ) → read_prefix input ≡ took k piece
        → i < length (cond b (took k (take k input) ∷ more k) [])
        → result_at i (results (cond b (took k (take k input) ∷ more k) []) behind) ≡ due (piece_at i input)
    unfolding piece_at
    by_fit k piece true zero e h = ap (λ (r : Reading Piece). due (take (piece_length input r) input)) (sym e)
    by_fit k piece true (suc i) e h =
        ap (result_at (suc i)) (append_assoc (due (take k input)) (results_of reply (more k)) behind)
        ∙ result_skipped (reply_values (reply (take k input))) (results (more k) behind) i
        ∙ each k i (omega (arith, h))
        ∙ ap (λ (r : Reading Piece). due (piece_at i (drop (piece_length input r) input))) (sym e)
    by_fit k piece false i e h = absurd (omega (arith, h))

    by_read
        : (r : Reading Piece) (i : ℕ) → read_prefix input ≡ r → i < length (piece_then input left more r)
        → result_at i (results (piece_then input left more r) behind) ≡ due (piece_at i input)
    unfolding piece_at
    by_read (took k piece) i e h = by_fit k piece (leb k left) i e h
    by_read (refused q) zero e h =
        ap (λ (r : Reading Walk). result_bytes (reply_values r)) (sym (unread input q e))
        ∙ ap due (sym (take-length input))
        ∙ ap (λ (r : Reading Piece). due (take (piece_length input r) input)) (sym e)
    by_read (refused q) (suc i) e h = absurd (omega (arith, h))

  each_of
      : (room left : ℕ) (input behind : List ℕ) (i : ℕ) → i < length (pieces_in room left input)
      → result_at i (results (pieces_in room left input) behind) ≡ due (piece_at i input)
  unfolding pieces_in
  each_of zero left input behind i h = absurd (omega (arith, h))
  each_of (suc room) left [] behind i h = absurd (omega (arith, h))
  each_of (suc room) left (b ∷ bs) behind i h =
      by_read (b ∷ bs) behind left (λ k. pieces_in room (left - k) (drop k (b ∷ bs)))
      (λ k j m. each_of room (left - k) (drop k (b ∷ bs)) behind j m) (read_prefix (b ∷ bs)) i refl h

-- A piece that cannot be read is refused by the walk alike, where the sheet is accepted.
module _ (s g : List ℕ) where
  unread_walk
      : {k : ℕ} {sheet : Sheet} → accept_sheet s ≡ took k sheet → (p : List ℕ) (q : ℕ) → read_prefix p ≡ refused q
      → walk_reply s g p ≡ refused q
  unfolding read_piece
  unread_walk {sheet = sheet} e p q u =
      let read : read_piece p ≡ refused q =
      ap (λ (r : Reading Piece). and_then r (λ a piece. ask 17 (eqb a (length p)) (took a piece))) u in
      sym (piece_refuses sheet g p read ∙ sheet_accepts s g p e)

  accepted_for
      : (r : Reading Sheet) {k : ℕ} {nodes : List (Node ℕ)} → accept_sheet s ≡ r
      → and_then r (λ _ sheet. read_graph sheet g) ≡ took k nodes → (j : ℕ) × (sheet : Sheet) × (accept_sheet s ≡ took j sheet)
  accepted_for (took j sheet) e h = (j, sheet, e)
  accepted_for (refused q) e h = let z : ◌≡◌ {A = ℕ} 0 1 = cc in absurd (omega arith)

  by_graph
      : (input buffer : List ℕ) (r : Reading (List (Node ℕ))) → graph_reading s g ≡ r → (i : ℕ)
      → let w = walked_for buffer (walk_reply s g) (pieces_for input buffer) r in
      i < w.results → result_at i w.buffer ≡ result_bytes (reply_values (walk_reply s g (piece_at i input)))
  unfolding graph_reading
  by_graph input buffer (took k nodes) e i h =
      let (j, sheet, accepted) = accepted_for (accept_sheet s) refl e in
      each_of (walk_reply s g) (unread_walk accepted) (min (length buffer / result_length) most_results) most_taken input
      (drop (0 + length (results_of (walk_reply s g) (pieces_for input buffer))) buffer) i h
  by_graph input buffer (refused q) e i h = absurd (omega (arith, h))

  -- Result i in the buffer holds what `vt_walk` and `vt_wait` give for piece i.
  pub each_result
      : (input buffer : List ℕ) (i : ℕ) → i < (walk_all s g input buffer).results
      → result_at i (walk_all s g input buffer).buffer ≡ result_bytes (reply_values (walk_reply s g (piece_at i input)))
  unfolding walk_all
  each_result input buffer i h = by_graph input buffer (graph_reading s g) refl i h
