-- A row of terms read into cells, one term a turn.
use Prim.Native.Nat.{ℕ, suc, ◌+◌, ◌≤◌}
use mathlib.Core.Path.{◌≡◌, refl, sym, ap, ◌∙◌}
use mathlib.Core.List.{List}
use native.Mathlib.Omega.{arith}
use lib.ListN.{length, drop, length-drop}
use Rattle.places.specs.Numbering.{stride}
use Rattle.records.proofs.RowSoFar.{RowOf, row_from, row_stops, row_goes_on}
use Rattle.terms.specs.Term.{Term, Terms, nil, cons}
use Rattle.piece.specs.ReadPiece.{read_term}
use Rattle.piece.specs.views.Cells.{store_term, store_terms}
use Rattle.piece.specs.views.LaidOut.{took_cells, term_cells}
use Rattle.piece.proofs.TermCells.{Term-fits}
use Rattle.std.specs.Prelude.{Result, Ok, Err}
use Rattle.records.specs.Reading.{refused}
use Rattle.records.specs.Refusals.{number}
use Rattle.records.specs.declared.refusal.Refusal.{Refusal}

-- Terms with so many levels below them, stored in cells: heldOne of it is termCells, and heldRow is termsCells.
abbrev pub term_row : ℕ → RowOf Term Terms (List ℕ)
term_row below =
    record {
      empty = nil;
      join = cons;
      one = read_term below;
      step = stride (suc below);
      hold = λ p cells t. store_term t below p cells;
      hold_all = λ p cells ts. store_terms ts below p cells;
      holds_none = λ p cells. refl;
      holds_more = λ p cells t ts. refl;
    }

module _
    (below : ℕ) (s : List ℕ) (at k p : ℕ) (cells : List ℕ) (others : ℕ) (some : k ≡ suc others)
    (r : Result ℕ Refusal) (then : List ℕ)
    (read : took_cells then r ≡ term_cells below p cells (drop at s)) where
  -- Where the next term was refused, so is the row;
  pub term_stops : {q : Refusal} → r ≡ Err q → refused (number q) ≡ row_from (term_row below) s at k p cells
  term_stops told = row_stops (term_row below) s at k p cells others some (ap (took_cells then) (sym told) ∙ read)

  module _ {a : ℕ} (told : r ≡ Ok a) where
    -- where it was read, the others are to come behind it,
    pub term_goes_on
        : {step : ℕ} → step ≡ stride (suc below)
        → row_from (term_row below) s (at + a) others (p + step) then ≡ row_from (term_row below) s at k p cells
    term_goes_on = row_goes_on (term_row below) s at k p cells others some (ap (took_cells then) (sym told) ∙ read)

    -- and its bytes are there.
    pub term_there : at ≤ length s → at + a ≤ length s
    term_there there = omega (arith, Term-fits below (drop at s) p cells then r read told, length-drop at s)
