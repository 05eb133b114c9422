-- Pieces (document 01, "Records").
use Rattle.std.specs.Prelude.{ℕ, ◌≤◌}
use Rattle.terms.specs.Term.{Terms}
use Rattle.terms.specs.Accepted.{AcceptedPiece}

-- "11 (arity), then terms".
pub record Piece : Type 0 where
  pub arity : ℕ
  pub terms : Terms

-- What questions 13 to 16 accept.
pub record SoundPiece (piece : Piece) : Type 0 where
  pub some_argument : 1 ≤ piece.arity
  pub few_arguments : piece.arity ≤ 8
  pub accepted : AcceptedPiece piece.arity piece.terms
