-- What is known of a piece that was read into its cells.
use Rattle.std.specs.Prelude.{ℕ, ◌≤◌, ◌≡◌, List, length}
use Rattle.records.specs.Reading.{took}
use Rattle.terms.specs.Accepted.{AcceptedPiece}
use Rattle.piece.specs.Piece.{Piece}
use Rattle.piece.specs.ReadPiece.{read_piece}
use Rattle.piece.specs.views.LaidOut.{piece_cells}

-- A piece that was read into the cells, of so many arguments.
pub record ReadAs (p cells : List ℕ) (arity : ℕ) : Type 0 where
  pub piece : Piece
  pub read : read_piece p ≡ took (length p) piece
  pub arity_is : piece.arity ≡ arity
  pub laid : cells ≡ piece_cells piece.terms
  pub accepted : AcceptedPiece arity piece.terms
  pub few : arity ≤ 8
