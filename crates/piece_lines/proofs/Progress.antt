-- The lines of the pieces written one after another, for whatever the walk replies: what is printed so far, and what is to come.
use Prim.Native.Nat.{ℕ, ◌+◌, ◌-◌, ◌≤◌, ◌<◌}
use mathlib.Core.Path.{◌≡◌, sym, ap, ◌∙◌}
use mathlib.Core.List.{List, [], ◌++◌, append_assoc, append-nil}
use native.Mathlib.Omega.{arith}
use lib.ListN.{length, drop, length-append, length-drop}
use lib.Seq.{drop-drop}
use Rattle.records.specs.Reading.{Reading, took, refused}
use Rattle.records.proofs.Writing.{splice_none}
use Rattle.decision.specs.Walk.{Walk}
use Rattle.lines.specs.Lines.{refused_line}
use Rattle.lines.proofs.Wrote.{Wrote, wrote_as, wrote_more}
use Rattle.piece_lines.specs.BuiltLines.{lines_or, first_walk, piece_lines}
use Rattle.piece_lines.specs.views.Turned.{walk_line}
use Rattle.piece_lines.proofs.PieceLines.{pieces_none, pieces_turn}

module _ (reply : List ℕ → Reading Walk) (input xs : List ℕ) (at : ℕ) where
  -- All lines, and those from the piece with this number on, which begins at from.
  abbrev pub all_lines : List ℕ
  all_lines = piece_lines reply (length input) 1 input

  abbrev lines_from : ℕ → ℕ → List ℕ
  lines_from from number = piece_lines reply (length input + 1 - number) number (drop from input)

  -- The buffer xs has become ys: what was printed so far stands from at to end, and the lines from this piece on are to come.
  pub record Progress (from number end : ℕ) (ys : List ℕ) : Type 0 where
    pub done : List ℕ
    pub to_come : all_lines ≡ done ++ lines_from from number
    pub wrote : Wrote xs at done end ys

  pub at_start : Progress 0 1 at xs
  at_start =
      let all : length input + 1 - 1 ≡ length input = omega arith in
      record {
        done = [];
        to_come = ap (λ (k : ℕ). piece_lines reply k 1 input) (sym all);
        wrote = (omega arith, splice_none xs at);
      }

  module _ {from number end : ℕ} {ys : List ℕ} (p : Progress from number end ys) where
    -- No bytes are left.
    pub at_end_lem : length input ≤ from → Wrote xs at all_lines end ys
    at_end_lem h =
        let none = pieces_none reply (length input + 1 - number) number (drop from input) (omega (arith, length-drop from input)) in
        wrote_as xs at (sym (p.to_come ∙ ap (p.done ++◌) none ∙ append-nil p.done)) p.wrote

    module _ (few : number ≤ from + 1) (more : from < length input) where
      abbrev next : ℕ → Walk → List ℕ
      next k w = walk_line number w ++ piece_lines reply (length input + 1 - number - 1) (number + 1) (drop k (drop from input))

      one_turn
          : lines_from from number
          ≡ lines_or (first_walk reply (drop from input)) next
      one_turn =
          pieces_turn reply (length input + 1 - number) number (drop from input)
          (omega arith) (omega (arith, length-drop from input))

      module _ (line : List ℕ) {zs : List ℕ} {last : ℕ} (room : last ≤ length xs) (w : Wrote ys end line last zs) where
        fits : at + length (p.done ++ line) ≤ length xs
        fits = omega (arith, length-append p.done line, p.wrote.0, w.0)

        so_far : Wrote xs at (p.done ++ line) last zs
        so_far = wrote_more xs at p.done line fits p.wrote w

        -- A line that ends the run.
        pub at_refusal
            : {q : ℕ} → first_walk reply (drop from input) ≡ refused q → line ≡ refused_line q → Wrote xs at all_lines last zs
        at_refusal e is =
            let ends = one_turn ∙ ap (λ (r : Reading Walk). lines_or r next) e ∙ sym is in
            wrote_as xs at (sym (p.to_come ∙ ap (p.done ++◌) ends)) so_far

        -- The line of a piece.
        pub at_piece
            : {k : ℕ} {w : Walk} → first_walk reply (drop from input) ≡ took k w → line ≡ walk_line number w
            → Progress (from + k) (number + 1) last zs
        at_piece {k} e is =
            let rest = piece_lines reply (length input + 1 - number - 1) (number + 1) (drop k (drop from input)) in
            let goes_on = one_turn ∙ ap (λ (r : Reading Walk). lines_or r next) e ∙ ap (λ (l : List ℕ). l ++ rest) (sym is) in
            let less : length input + 1 - number - 1 ≡ length input + 1 - (number + 1) = omega arith in
            record {
              done = p.done ++ line;
              to_come =
                  p.to_come
                  ∙ ap (p.done ++◌) goes_on
                  ∙ sym (append_assoc p.done line _)
                  ∙ rw (drop-drop k from input, less);
              wrote = so_far;
            }
