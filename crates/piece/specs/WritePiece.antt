-- The bytes that spell a piece (document 01, "Records", "Piece"; document 02, requests 4, 6 and 7).
use Rattle.std.specs.Prelude.{ℕ, ◌≡◌, cond, List, [], ◌∷◌, ◌++◌, ◌⊎◌, eqb}
use Rattle.records.specs.Fields.{wide_then}
use Rattle.terms.specs.Term.{Term, Terms, count, Wide, gauge_of, value_of, unknown, never, symbol, numbers, compound, nil, cons}
use Rattle.piece.specs.Piece.{Piece}

-- "30 unknown; 31 symbol (wide id); 32 number (wide); 33 compound (wide id, arity), then its arguments"; "record 34 (wide low, wide
-- high)"; record 35; "record 36 (gauge, wide value) is a number on a named gauge; record 32 means gauge 0". "A span with equal ends
-- is that number", so a number of gauge 0 is spelled in three ways, one of another gauge by record 36.
abbrev mutual
  pub SpellsTerm : Term → List ℕ → Type 0
  SpellsTerm unknown s = s ≡ 0x30 ∷ []
  SpellsTerm never s = s ≡ 0x35 ∷ []
  SpellsTerm (symbol a) s = s ≡ 0x31 ∷ wide_then a []
  SpellsTerm (numbers a b) s =
      (Wide b × (s ≡ 0x34 ∷ wide_then a (wide_then b [])))
      ⊎ ((a ≡ b) × ((Wide b × (s ≡ 0x32 ∷ wide_then a [])) ⊎ (s ≡ 0x36 ∷ gauge_of a ∷ wide_then (value_of a) [])))
  SpellsTerm (compound a ts) s = (rest : List ℕ) × (s ≡ 0x33 ∷ wide_then a (count ts ∷ rest)) × SpellsTerms ts rest

  pub SpellsTerms : Terms → List ℕ → Type 0
  SpellsTerms nil s = s ≡ []
  SpellsTerms (cons t ts) s = (first rest : List ℕ) × (s ≡ first ++ rest) × SpellsTerm t first × SpellsTerms ts rest

-- "11 (arity), then terms".
abbrev pub SpellsPiece : Piece → List ℕ → Type 0
SpellsPiece piece s = (rest : List ℕ) × (s ≡ 0x11 ∷ piece.arity ∷ rest) × SpellsTerms piece.terms rest

-- The bytes that are written for a number: record 32 on gauge 0, record 36 on another.
abbrev pub number_bytes : ℕ → List ℕ
number_bytes n = cond (eqb (gauge_of n) 0) (0x32 ∷ wide_then n []) (0x36 ∷ gauge_of n ∷ wide_then (value_of n) [])

-- And for a piece.
abbrev mutual
  pub term_bytes : Term → List ℕ
  term_bytes unknown = 0x30 ∷ []
  term_bytes never = 0x35 ∷ []
  term_bytes (symbol a) = 0x31 ∷ wide_then a []
  term_bytes (numbers a b) = cond (eqb a b) (number_bytes a) (0x34 ∷ wide_then a (wide_then b []))
  term_bytes (compound a ts) = 0x33 ∷ wide_then a (count ts ∷ terms_bytes ts)

  pub terms_bytes : Terms → List ℕ
  terms_bytes nil = []
  terms_bytes (cons t ts) = term_bytes t ++ terms_bytes ts

abbrev pub piece_bytes : Piece → List ℕ
piece_bytes piece = 0x11 ∷ piece.arity ∷ terms_bytes piece.terms
