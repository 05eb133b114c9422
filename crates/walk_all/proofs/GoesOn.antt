-- A caller goes on where a run stopped.
use Prim.Native.Nat.{ℕ, zero, suc, ◌+◌, ◌-◌, ◌/◌, min}
use mathlib.Core.Path.{◌≡◌, refl, ap, ◌∙◌}
use mathlib.Core.Bool.{Bool, true, false, cond}
use mathlib.Core.List.{List, [], ◌∷◌}
use native.Mathlib.Omega.{arith}
use lib.Dec.{leb}
use lib.ListN.{length, take, drop}
use lib.Seq.{drop-drop}
use Rattle.basics.specs.Lists.{All}
use Rattle.records.specs.Reading.{Reading, took, refused}
use Rattle.piece.specs.Piece.{Piece}
use Rattle.piece.specs.ReadPiece.{read_prefix}
use Rattle.decision.specs.Node.{Node}
use Rattle.graph_check.specs.CheckGraph.{graph_reading}
use Rattle.walk.specs.Walking.{walk_reply}
use Rattle.walk_all.specs.WalkAll.{piece_then, pieces_in, bytes_taken, most_results, most_taken, result_length}
use Rattle.walk_all.specs.WalkAll.{walked_for, pieces_for, walk_all}
use Rattle.walk_all.specs.EachPiece.{piece_length, piece_at, WasRead}

-- The pieces behind those of a list, where the list's bytes are passed.
abbrev GoesOn : List ℕ → List (Reading (List ℕ)) → Type 0
GoesOn input ps = (j : ℕ) → piece_at (length ps + j) input ≡ piece_at j (drop (bytes_taken ps) input)

none_passed : (input : List ℕ) → GoesOn input []
none_passed input j = let same : 0 + j ≡ j = omega arith in ap (λ (i : ℕ). piece_at i input) same

module _ (input : List ℕ) (left : ℕ) (more : ℕ → List (Reading (List ℕ)))
    (each : (k : ℕ) → All WasRead (more k) → GoesOn (drop k input) (more k)) where
  by_fit
      : (k : ℕ) (piece : Piece) (b : Bool) → read_prefix input ≡ took k piece
      → All WasRead (cond b (took k (take k input) ∷ more k) []) → GoesOn input (cond b (took k (take k input) ∷ more k) [])
  unfolding piece_at
  by_fit k piece true e read j =
      let behind : suc (length (more k)) + j ≡ suc (length (more k) + j) = omega arith in
      ap (λ (i : ℕ). piece_at i input) behind
      ∙ ap (λ (r : Reading Piece). piece_at (length (more k) + j) (drop (piece_length input r) input)) e
      ∙ each k read.1 j
      ∙ ap (piece_at j) (drop-drop (bytes_taken (more k)) k input)
  by_fit k piece false e read j = none_passed input j

  by_read
      : (r : Reading Piece) → read_prefix input ≡ r → All WasRead (piece_then input left more r)
      → GoesOn input (piece_then input left more r)
  by_read (took k piece) e read = by_fit k piece (leb k left) e read
  by_read (refused q) e read = absurd read.0

goes_on_in
    : (room left : ℕ) (input : List ℕ) → All WasRead (pieces_in room left input) → GoesOn input (pieces_in room left input)
unfolding pieces_in
goes_on_in zero left input read = none_passed input
goes_on_in (suc room) left [] read = none_passed []
goes_on_in (suc room) left (b ∷ bs) read =
    by_read (b ∷ bs) left (λ k. pieces_in room (left - k) (drop k (b ∷ bs)))
    (λ k. goes_on_in room (left - k) (drop k (b ∷ bs))) (read_prefix (b ∷ bs)) refl read

module _ (s g input buffer : List ℕ) (read : All WasRead (pieces_for input buffer)) where
  by_graph
      : (r : Reading (List (Node ℕ))) (j : ℕ)
      → let w = walked_for buffer (walk_reply s g) (pieces_for input buffer) r in
      piece_at (w.results + j) input ≡ piece_at j (drop w.bytes input)
  by_graph (took k nodes) j = goes_on_in (min (length buffer / result_length) most_results) most_taken input read j
  by_graph (refused q) j = none_passed input j

  -- A caller goes on where a run stopped: where each piece of the run was read, piece j of what is left is the piece so many
  -- behind the run's.
  pub goes_on
      : (j : ℕ) → piece_at ((walk_all s g input buffer).results + j) input ≡ piece_at j (drop (walk_all s g input buffer).bytes input)
  unfolding walk_all
  goes_on j = by_graph (graph_reading s g) j
