-- The lines of a sheet and its pieces, over a graph of the sheet (document 01, "One listing").
use Rattle.std.specs.Prelude.{ℕ, zero, suc, List, [], ◌∷◌, ◌++◌, length, take, drop}
use Rattle.records.specs.Reading.{Reading, took, refused, and_then}
use Rattle.sheet_tests.specs.CheckSheet.{accept_sheet, sheet_values}
use Rattle.piece.specs.ReadPiece.{read_prefix}
use Rattle.decision.specs.Walk.{Walk}
use Rattle.walk.specs.Walking.{walk_reply}
use Rattle.lines.specs.Lines.{sheet_line, piece_line, refused_line}

-- "Any refusal prints "refused", a space and the number as one line, and ends the run."
abbrev pub lines_or : {A : Type 0} → Reading A → (ℕ → A → List ℕ) → List ℕ
lines_or (took k x) lines = lines k x
lines_or (refused q) lines = refused_line q

module _ (reply : List ℕ → Reading Walk) where
  -- "pieces one after another, each ending with its last term": the bytes of the first and the reply of its walk.
  abbrev pub first_walk : List ℕ → Reading Walk
  first_walk input = and_then (read_prefix input) (λ k _. and_then (reply (take k input)) (λ _ w. took k w))

  -- "then for each piece a line with its number from 1, answer, rule, edges, wait list": at most so many lines, the first of them
  -- with this number.
  unfoldable pub piece_lines : ℕ → ℕ → List ℕ → List ℕ
  piece_lines zero number input = []
  piece_lines (suc most) number [] = []
  piece_lines (suc most) number (b ∷ bs) =
      lines_or (first_walk (b ∷ bs))
      (λ k w. piece_line number w.answer w.edges w.waits ++ piece_lines most (suc number) (drop k (b ∷ bs)))

-- "It prints a line with the word sheet, arity, rules, tests, nodes; then for each piece a line": the pieces, which are no more
-- than there are bytes, walk over the graph of bytes g, which has so many nodes.
abbrev pub built_lines : List ℕ → List ℕ → ℕ → List ℕ → List ℕ
built_lines s g nodes input =
    let sheet = sheet_values (accept_sheet s) in
    sheet_line sheet.arity sheet.rules sheet.tests nodes ++ piece_lines (walk_reply s g) (length input) 1 input
