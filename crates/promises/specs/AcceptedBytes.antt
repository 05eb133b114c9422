-- What the theorems about bytes speak of: a sheet and a piece that are accepted.
use Rattle.std.specs.Prelude.{ℕ, ◌≡◌, List}
use Rattle.records.specs.Fields.{AreBytes}
use Rattle.records.specs.Reading.{took}
use Rattle.sheet.specs.Sheet.{Sheet}
use Rattle.sheet_tests.specs.CheckSheet.{accept_sheet}
use Rattle.piece.specs.Piece.{Piece}
use Rattle.piece.specs.ReadPiece.{read_piece}

-- The bytes s and p are accepted as this sheet and this piece, of one arity.
pub record AcceptedBytes (s p : List ℕ) (sheet : Sheet) (piece : Piece) : Type 0 where
  pub are_bytes : AreBytes s × AreBytes p
  pub sheet_took : ℕ
  pub piece_took : ℕ
  pub sheet_accepted : accept_sheet s ≡ took sheet_took sheet
  pub piece_accepted : read_piece p ≡ took piece_took piece
  pub same_arity : piece.arity ≡ sheet.arity
