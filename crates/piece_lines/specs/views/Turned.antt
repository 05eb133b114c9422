-- What one turn of the listing hands back and leaves in the buffer.
use Rattle.std.specs.Prelude.{ℕ, ◌+◌, ◌≤◌, List, length}
use Rattle.records.specs.Reading.{Reading, took, refused, and_then}
use Rattle.records.specs.Writing.{splice}
use Rattle.decision.specs.Walk.{Walk}
use Rattle.lines.specs.Lines.{piece_line, refused_line}
use Rattle.piece_lines.specs.declared.Turn.{Turn}
use Rattle.piece_lines.specs.declared.Turn.TheVariants.{More, Last}

-- The turn, and every byte of the lent buffer.
pub record Turned : Type 0 where
  pub turn : Turn
  pub buffer : List ℕ

-- The bytes of the first piece and the answer of its walk, or whichever question got a no.
abbrev pub answered : Reading (Reading Walk) → Reading Walk
answered r = and_then r (λ k reply. and_then reply (λ _ w. took k w))

-- The line of a piece with this number.
abbrev pub walk_line : ℕ → Walk → List ℕ
walk_line number w = piece_line number w.answer w.edges w.waits

-- The line stands from at on: the piece's bytes and the position behind its line, or the position behind the last line.
abbrev pub turned : List ℕ → ℕ → ℕ → Reading Walk → Turned
turned buffer at number (took k w) =
    let line = walk_line number w in record { turn = More k (at + length line); buffer = splice buffer at line }
turned buffer at number (refused q) =
    record { turn = Last (at + length (refused_line q)); buffer = splice buffer at (refused_line q) }

-- A piece has 3 bytes or more, all of them there, and a line 44 or less.
abbrev pub Within : ℕ → ℕ → Turn → Type 0
Within bytes at (More k end) = (3 ≤ k) × (k ≤ bytes) × (end ≤ at + 44)
Within bytes at (Last end) = end ≤ at + 44
