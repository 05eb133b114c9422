-- The results written and the bytes taken are no more than their fields can say.
use Prim.Native.Nat.{ℕ, zero, suc, ◌-◌, ◌/◌, ◌≤◌, min}
use mathlib.Core.Path.{◌≡◌, refl}
use mathlib.Core.Bool.{Bool, true, false, cond}
use mathlib.Core.List.{List, [], ◌∷◌}
use native.Mathlib.Omega.{arith}
use native.Mathlib.Nat.{min-le_right}
use lib.Dec.{leb}
use lib.ListN.{length, take, drop}
use borrow.Author.Tests.{leb-true}
use Rattle.records.specs.Reading.{Reading, took, refused}
use Rattle.piece.specs.Piece.{Piece}
use Rattle.piece.specs.ReadPiece.{read_prefix}
use Rattle.decision.specs.Node.{Node}
use Rattle.graph_check.specs.CheckGraph.{graph_reading}
use Rattle.walk.specs.Walking.{walk_reply}
use Rattle.walk_all.specs.WalkAll.{piece_then, pieces_in, bytes_taken, most_results, most_taken, result_length}
use Rattle.walk_all.specs.WalkAll.{walked_for, pieces_for, walk_all}

-- At most so many pieces, which take at most so many bytes.
abbrev Few : ℕ → ℕ → List (Reading (List ℕ)) → Type 0
Few room left ps = (length ps ≤ room) × (bytes_taken ps ≤ left)

module _ (room left : ℕ) (input : List ℕ) (more : ℕ → List (Reading (List ℕ))) (each : (k : ℕ) → Few room (left - k) (more k)) where
  fits_few : (k : ℕ) (b : Bool) → leb k left ≡ b → Few (suc room) left (cond b (took k (take k input) ∷ more k) [])
  fits_few k true h = (omega (arith, (each k).0), omega (arith, (each k).1, leb-true k left h))
  fits_few k false h = (omega arith, omega arith)

  then_few : (r : Reading Piece) → Few (suc room) left (piece_then input left more r)
  then_few (took k piece) = fits_few k (leb k left) refl
  then_few (refused q) = (omega arith, omega arith)

pub pieces_few
    : (room left : ℕ) (input : List ℕ)
    → (length (pieces_in room left input) ≤ room) × (bytes_taken (pieces_in room left input) ≤ left)
unfolding pieces_in
pieces_few zero left input = (omega arith, omega arith)
pieces_few (suc room) left [] = (omega arith, omega arith)
pieces_few (suc room) left (b ∷ bs) =
    then_few room left (b ∷ bs) (λ k. pieces_in room (left - k) (drop k (b ∷ bs)))
    (λ k. pieces_few room (left - k) (drop k (b ∷ bs))) (read_prefix (b ∷ bs))

module _ (s g input buffer : List ℕ) where
  by_reading
      : (r : Reading (List (Node ℕ)))
      → let w = walked_for buffer (walk_reply s g) (pieces_for input buffer) r in (w.results ≤ most_results) × (w.bytes ≤ most_taken)
  by_reading (took k nodes) =
      let few = pieces_few (min (length buffer / result_length) most_results) most_taken input in
      (omega (arith, few.0, min-le_right (length buffer / result_length) most_results), few.1)
  by_reading (refused q) = (omega arith, omega arith)

  -- A run stops before either field would overflow.
  pub all_few : ((walk_all s g input buffer).results ≤ most_results) × ((walk_all s g input buffer).bytes ≤ most_taken)
  unfolding walk_all
  all_few = by_reading (graph_reading s g)
