-- What the check of a piece says (document 01, "Questions at the counter", 12 to 17; document 02, request 4, 32).
use Rattle.std.specs.Prelude.{ℕ, Result, Ok, Err}
use Rattle.records.specs.Reading.{Reading, took, refused}
use Rattle.records.specs.Refusals.{number}
use Rattle.records.specs.declared.refusal.Refusal.{Refusal}
use Rattle.piece.specs.Piece.{Piece}

-- "When accepted, .. a piece check arity"; "The first no, in order, gives its number. Every other result field is then 0".
pub record PieceValues : Type 0 where
  pub refusal : ℕ
  pub arity : ℕ

-- The values of what the check hands back, and of how the piece is read.
abbrev pub piece_check_values : Result ℕ Refusal → PieceValues
piece_check_values (Ok n) = record { refusal = 0; arity = n }
piece_check_values (Err r) = record { refusal = number r; arity = 0 }

abbrev pub piece_values : Reading Piece → PieceValues
piece_values (took k piece) = record { refusal = 0; arity = piece.arity }
piece_values (refused q) = record { refusal = q; arity = 0 }
