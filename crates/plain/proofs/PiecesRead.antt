-- What the reader of a piece tells of how the piece is read.
use Prim.Native.Nat.{ℕ}
use mathlib.Core.Path.{◌≡◌, sym, ap, ◌∙◌, subst}
use mathlib.Core.List.{List}
use native.Mathlib.Omega.{arith}
use lib.ListN.{length}
use Rattle.records.specs.Fields.{AreBytes}
use Rattle.std.specs.Prelude.{Result, Ok, Err}
use Rattle.records.specs.Reading.{refused, map_reading}
use Rattle.records.specs.Refusals.{number}
use Rattle.records.specs.declared.refusal.Refusal.{Refusal}
use Rattle.records.proofs.Rows.{took_view, refused_view}
use Rattle.terms.specs.Accepted.{AcceptedPiece}
use Rattle.piece.specs.ReadPiece.{read_piece}
use Rattle.piece.specs.views.LaidOut.{LaidOut, lay_out, piece_read}
use Rattle.piece.proofs.Spelled.{piece_spelled}
use Rattle.outcomes.specs.views.CompareCells.{Narrow}
use Rattle.outcomes.proofs.LookFinds.{narrow}
use Rattle.plain.specs.views.ReadAs.{ReadAs}

module _
    (p cells : List ℕ) (r : Result ℕ Refusal) (told : piece_read (length p) cells r ≡ map_reading lay_out (read_piece p)) where
  -- The reader refused, so the piece is refused.
  pub reader_refused : {q : Refusal} → r ≡ Err q → read_piece p ≡ refused (number q)
  reader_refused e = refused_view lay_out (read_piece p) (sym (ap (piece_read (length p) cells) e) ∙ told)

  -- The reader accepted bytes, so they are those of an accepted piece, and the cells are its cells.
  pub reader_accepted : {n : ℕ} → r ≡ Ok n → AreBytes p → ReadAs p cells n
  reader_accepted {n} e bytes =
      let (piece, read, same) = took_view lay_out (read_piece p) (sym (ap (piece_read (length p) cells) e) ∙ told) in
      let sound = ((piece_spelled p bytes (length p) piece).0 read).0 in
      let arity : piece.arity ≡ n = sym (ap (λ (x : LaidOut). x.arity) same) in
      record {
        piece = piece;
        read = read;
        arity_is = arity;
        laid = ap (λ (x : LaidOut). x.cells) same;
        accepted = subst (λ (k : ℕ). AcceptedPiece k piece.terms) arity sound.accepted;
        few = omega (arith, sound.few_arguments, arity);
      }

-- Their compounds have at most 4 arguments.
pub read_narrow : {p cells : List ℕ} {arity : ℕ} → ReadAs p cells arity → Narrow cells
read_narrow {arity = arity} r = subst Narrow (sym r.laid) (narrow arity r.piece.terms r.accepted r.few)
