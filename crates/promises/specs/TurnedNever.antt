-- A piece in which some unknowns have become record 35 (document 02, request 6): "An unknown may later become 35", and "a lacking
-- sensor is no longer written as unknown".
use Rattle.std.specs.Prelude.{ℕ}
use Rattle.terms.specs.Term.{Term, Terms, unknown, never, compound, nil, cons}
use Rattle.piece.specs.Piece.{Piece}

mutual
  pub data TurnsNever : Term → Term → Type 0 where
    turn_unknown : TurnsNever unknown never
    turn_nothing : {t : Term} → TurnsNever t t
    turn_compound : {a : ℕ} {ts us : Terms} → TurnNever ts us → TurnsNever (compound a ts) (compound a us)

  pub data TurnNever : Terms → Terms → Type 0 where
    turn_nil : TurnNever nil nil
    turn_cons : {t u : Term} {ts us : Terms} → TurnsNever t u → TurnNever ts us → TurnNever (cons t ts) (cons u us)

-- The piece with these terms.
abbrev pub with_terms : Piece → Terms → Piece
with_terms piece ts = record { arity = piece.arity; terms = ts }
