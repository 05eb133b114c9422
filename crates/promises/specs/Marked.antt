-- The cases that document 01 marks (M), in bytes.
use Rattle.std.specs.Prelude.{ℕ, ◌≡◌, List}
use Rattle.std.proofs.Math.Option.{Option, some, none}
use Rattle.records.specs.Reading.{took}
use Rattle.terms.specs.Marked.{MarkedWalk, MarkedCase}
use Rattle.sheet.specs.Sheet.{Sheet}
use Rattle.sheet.specs.WriteSheet.{sheet_bytes}
use Rattle.piece.specs.Piece.{Piece}
use Rattle.piece.specs.WritePiece.{piece_bytes}
use Rattle.decision.specs.Walk.{Walk}
use Rattle.order.specs.Asking.{lowest}
use Rattle.walk.specs.Walking.{walk_reply}
use Rattle.promises.specs.BuiltGraph.{BuiltGraph}

-- The sheet and the piece of a marked case, and their bytes.
abbrev pub case_sheet : MarkedCase → Sheet
case_sheet x = record { arity = x.arity; rules = x.rules }

abbrev pub case_piece : MarkedCase → Piece
case_piece x = record { arity = x.arity; terms = x.piece }

abbrev pub case_sheet_bytes : MarkedCase → List ℕ
case_sheet_bytes x = sheet_bytes (case_sheet x)

abbrev pub case_piece_bytes : MarkedCase → List ℕ
case_piece_bytes x = piece_bytes (case_piece x)

-- The edges and the wait list are those marked, where some are.
abbrev pub AsMarkedWith : Option MarkedWalk → Walk → Type 0
AsMarkedWith none w = Unit
AsMarkedWith (some marked) w = (w.edges ≡ marked.edges) × (w.waits ≡ marked.waits)

-- The case's sheet is built, and over every graph built for it, in whatever buffer, the walk of the case's piece answers as marked.
pub record WalksAsMarked (x : MarkedCase) : Type 0 where
  pub is_built : (buffer g : List ℕ) × BuiltGraph lowest (case_sheet_bytes x) buffer g
  pub walks
      : (buffer g : List ℕ) → BuiltGraph lowest (case_sheet_bytes x) buffer g
      → (w : Walk) × (walk_reply (case_sheet_bytes x) g (case_piece_bytes x) ≡ took 0 w)
      × (w.answer ≡ x.answer) × AsMarkedWith x.walked w
