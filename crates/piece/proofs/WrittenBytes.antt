-- The written bytes of an accepted piece are bytes.
use Prim.Native.Nat.{ℕ}
use mathlib.Core.Bool.{true, false, cond}
use mathlib.Core.List.{[], ◌∷◌}
use native.Mathlib.Omega.{arith}
use lib.Dec.{eqb}
use Rattle.records.specs.Fields.{wide_then, AreBytes}
use Rattle.records.proofs.ByteLists.{bytes_append, wide_bytes}
use Rattle.terms.specs.Term.{Term, Terms, count, Gauged, gauge_of, value_of, unknown, never, symbol, numbers, compound, nil, cons}
use Rattle.terms.specs.Filling.{WellFormed, WellFormeds}
use Rattle.piece.specs.Piece.{Piece, SoundPiece}
use Rattle.piece.specs.WritePiece.{number_bytes, term_bytes, terms_bytes, piece_bytes}

-- The bytes of a number on a gauge are bytes,
number_written : (n : ℕ) → Gauged n → AreBytes (number_bytes n)
number_written n gauged =
    elim (eqb (gauge_of n) 0) as (λ c. AreBytes (cond c (0x32 ∷ wide_then n []) (0x36 ∷ gauge_of n ∷ wide_then (value_of n) [])))
    [ true ↦ (omega arith, wide_bytes n [] tt) | false ↦ (omega arith, (omega arith, wide_bytes (value_of n) [] tt)) ]

mutual
  -- so are those of a well-formed term,
  term_written : (t : Term) → WellFormed t → AreBytes (term_bytes t)
  term_written unknown ok = (omega arith, tt)
  term_written never ok = (omega arith, tt)
  term_written (symbol a) ok = (omega arith, wide_bytes a [] tt)
  term_written (numbers a b) ok =
      elim (eqb a b) as (λ c. AreBytes (cond c (number_bytes a) (0x34 ∷ wide_then a (wide_then b [])))) [
        | true ↦ number_written a (omega (arith, ok.0, ok.1))
        | false ↦ (omega arith, wide_bytes a (wide_then b []) (wide_bytes b [] tt))
      ]
  term_written (compound a ts) ok =
      (omega arith, wide_bytes a (count ts ∷ terms_bytes ts) (omega (arith, ok.2), terms_written ts ok.3))

  -- and so are those of a row of them.
  terms_written : (ts : Terms) → WellFormeds ts → AreBytes (terms_bytes ts)
  terms_written nil ok = tt
  terms_written (cons t ts) ok =
      bytes_append (term_bytes t) (terms_bytes ts) (term_written t ok.0) (terms_written ts ok.1)

-- The bytes of an accepted piece are bytes.
pub piece_written : (piece : Piece) → SoundPiece piece → AreBytes (piece_bytes piece)
piece_written piece sound =
    (omega arith, (omega (arith, sound.few_arguments), terms_written piece.terms sound.accepted.well_formed))
