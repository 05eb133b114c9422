-- The pieces of an input, and the results in a buffer, one after another.
use Rattle.std.specs.Prelude.{ℕ, zero, suc, ◌*◌, List, length, take, drop}
use Rattle.records.specs.Reading.{Reading, took, refused}
use Rattle.piece.specs.Piece.{Piece}
use Rattle.piece.specs.ReadPiece.{read_prefix}
use Rattle.walk_all.specs.WalkAll.{result_length}

-- The bytes of the piece that the input begins with, "each ending with its last term"; all of them where it cannot be read.
abbrev pub piece_length : List ℕ → Reading Piece → ℕ
piece_length input (took k piece) = k
piece_length input (refused q) = length input

abbrev pub first_piece : List ℕ → List ℕ
first_piece input = take (piece_length input (read_prefix input)) input

-- Piece i of the input, from 0.
unfoldable pub piece_at : ℕ → List ℕ → List ℕ
piece_at zero input = first_piece input
piece_at (suc i) input = piece_at i (drop (piece_length input (read_prefix input)) input)

-- Result i of the buffer, from 0.
abbrev pub result_at : ℕ → List ℕ → List ℕ
result_at i buffer = take result_length (drop (result_length * i) buffer)

-- The piece was read, whatever its walk says.
abbrev pub WasRead : Reading (List ℕ) → Type 0
WasRead (took k p) = Unit
WasRead (refused q) = ⊥
