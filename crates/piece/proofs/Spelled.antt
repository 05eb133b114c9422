-- Bytes are accepted exactly when they spell a piece that the meaning accepts, and every such piece is spelled by its
-- written bytes.
use Prim.Native.Nat.{ℕ, suc, ◌+◌, ◌≤◌}
use mathlib.Core.Path.{◌≡◌, refl, ap, ap₂, sym, subst, ◌∙◌}
use mathlib.Core.Bool.{Bool, true, false, cond}
use mathlib.Core.List.{List, [], ◌∷◌, ◌++◌, append-nil}
use mathlib.Core.Logic.{◌↔◌, ◌⊎◌, inl, inr}
use native.Mathlib.Omega.{arith}
use lib.ListN.{length, drop}
use lib.Seq.{drop-cons, drop-drop, drop-length}
use lib.Dec.{eqb}
use borrow.Author.Tests.{eq-eqb, eqb-true, eqb-false}
use Rattle.records.specs.Reading.{Reading, took, refused, ask, after, and_then}
use Rattle.terms.specs.Term.{Term, Terms, Wide, gauge_of, value_of, unknown, never, symbol, numbers, compound, nil, cons}
use Rattle.terms.specs.Filling.{WellFormed, WellFormeds}
use Rattle.piece.specs.Piece.{Piece, SoundPiece}
use Rattle.piece.specs.ReadPiece.{read_terms, read_arity, read_prefix, read_piece}
use Rattle.piece.specs.WritePiece.{SpellsTerm, SpellsTerms, SpellsPiece, number_bytes, term_bytes, terms_bytes, piece_bytes}
use Rattle.piece.proofs.Readings.{asked, took_bytes}
use Rattle.piece.proofs.PiecesRead.{ArityRead, arity_read_lem, right_arity}
use Rattle.piece.proofs.WrittenBytes.{piece_written}
use Rattle.piece.proofs.TermSpelled.{TermsSpelled, TermsRead, terms_spelled, terms_read}
use Rattle.records.specs.Fields.{wide_then, AreBytes}
use Rattle.records.proofs.ByteLists.{bytes_drop}

-- The bytes s begin with k bytes that spell an accepted piece.
pub record Spells (s : List ℕ) (k : ℕ) (piece : Piece) : Type 0 where
  pub sound : SoundPiece piece
  pub own : List ℕ
  pub spells : SpellsPiece piece own
  pub size : k ≡ length own
  pub bytes : s ≡ own ++ drop k s

-- What was read, if anything, is spelled.
abbrev PrefixRead : List ℕ → Reading Piece → Type 0
PrefixRead s (took k piece) = Spells s k piece
PrefixRead s (refused q) = Unit

-- A piece is spelled where its record and its terms are.
piece_of
    : (s : List ℕ) (a n b : ℕ) (ts : Terms) → ArityRead s a n → TermsSpelled (drop a s) 3 n b ts
    → Spells s (a + b) (record { arity = n; terms = ts })
piece_of s a n b ts head terms = record {
  sound = record {
    some_argument = head.least;
    few_arguments = head.most;
    accepted = record {
      arguments = terms.counted;
      well_formed = terms.well_formed;
      shallow = terms.shallow;
    };
  };
  own = 0x11 ∷ n ∷ terms.own;
  spells = (terms.own, refl, terms.spells);
  size = let two = head.bytes in let size = terms.size in omega arith;
  bytes =
      let there = head.there in
      drop-cons s 0 0 (omega arith)
      ∙ ap₂ (λ x l. x ∷ l) head.kind
      (drop-cons s 1 0 there
      ∙ ap₂ (λ x l. x ∷ l) head.arity
      (ap (λ k. drop k s) (sym head.bytes) ∙ terms.bytes ∙ ap (λ l. terms.own ++ l) (drop-drop b a s)));
}

-- What is read as a piece is accepted and spelled.
pub prefix_sound : (s : List ℕ) → AreBytes s → PrefixRead s (read_prefix s)
unfolding read_prefix
prefix_sound s bytes = head (read_arity s) (λ a n read. arity_read_lem s read)
  where
    row
        : (a n : ℕ) → ArityRead s a n → (r : Reading Terms) → TermsRead (drop a s) 3 n r
        → PrefixRead s (after a (λ ts. record { arity = n; terms = ts }) r)
    row a n known (took b ts) spelled = piece_of s a n b ts known spelled
    row a n known (refused q) spelled = tt

    head
        : (r : Reading ℕ) → ((a n : ℕ) → r ≡ took a n → ArityRead s a n)
        → PrefixRead s (and_then r (λ a n. after a (λ ts. record { arity = n; terms = ts }) (read_terms 3 n (drop a s))))
    head (took a n) known =
        row a n (known a n refl) (read_terms 3 n (drop a s)) (terms_spelled 3 n (drop a s) (bytes_drop a s bytes))
    head (refused q) known = tt

-- Bytes that spell an accepted piece are read as the piece, whatever follows them.
pub prefix_reads
    : (piece : Piece) (own rest : List ℕ) → SoundPiece piece → SpellsPiece piece own
    → read_prefix (own ++ rest) ≡ took (length own) piece
unfolding read_prefix
prefix_reads piece own rest sound (others, is, spells) =
    let s : List ℕ = 0x11 ∷ piece.arity ∷ (others ++ rest) in
    let there : 2 ≤ length s = omega arith in
    let read = right_arity s there refl sound.some_argument sound.few_arguments in
    let terms =
    ap (λ n. read_terms 3 n (others ++ rest)) (sym sound.accepted.arguments)
    ∙ terms_read piece.terms 3 others rest sound.accepted.well_formed sound.accepted.shallow spells in
    let size : 2 + length others ≡ suc (suc (length others)) = omega arith in
    rw is
    (ap (λ r. and_then r (λ a n. after a (λ ts. record { arity = n; terms = ts }) (read_terms 3 n (drop a s)))) (sym read)
    ∙ ap (after 2 (λ ts. record { arity = piece.arity; terms = ts })) terms ∙ ap (λ k. took k piece) size)

-- Bytes begin with what reads as a piece exactly when they begin with bytes that spell an accepted piece.
pub prefix_spelled
    : (s : List ℕ) → AreBytes s → (k : ℕ) (piece : Piece) → (read_prefix s ≡ took k piece) ↔ Spells s k piece
prefix_spelled s bytes k piece = (
  (λ read. subst (PrefixRead s) read (prefix_sound s bytes)),
  λ spells.
      ap read_prefix spells.bytes ∙ prefix_reads piece spells.own (drop k s) spells.sound spells.spells
      ∙ ap (λ n. took n piece) (sym spells.size),
)

-- A whole piece is read where the piece that the bytes begin with ends with them.
no_bytes_left
    : (n k : ℕ) (piece : Piece) (r : Reading Piece) → and_then r (λ a x. ask 17 (eqb a n) (took a x)) ≡ took k piece
    → (r ≡ took k piece) × (k ≡ n)
no_bytes_left n k piece (took a x) e =
    let answer = asked 17 (eqb a n) (took a x) e in
    (answer.1, sym (took_bytes answer.1) ∙ eqb-true a n answer.0)
no_bytes_left n k piece (refused q) e = let no-yes : ◌≡◌ {A = ℕ} 0 1 = cc in absurd (omega arith)

-- So the whole piece is read exactly where the piece that the bytes begin with takes them all.
whole_piece
    : (s : List ℕ) (k : ℕ) (piece : Piece)
    → (read_piece s ≡ took k piece) ↔ ((read_prefix s ≡ took k piece) × (k ≡ length s))
unfolding read_piece
whole_piece s k piece = (
  (λ read. no_bytes_left (length s) k piece (read_prefix s) read),
  λ prefix. rw (prefix.0, eq-eqb k (length s) prefix.1),
)

-- Bytes that spell an accepted piece are read as it.
pub own_piece
    : (piece : Piece) (own : List ℕ) → SoundPiece piece → SpellsPiece piece own → read_piece own ≡ took (length own) piece
own_piece piece own sound spells =
    (whole_piece own (length own) piece).1
    (ap read_prefix (sym (append-nil own)) ∙ prefix_reads piece own [] sound spells, refl)

-- Bytes are accepted exactly when they spell an accepted piece.
pub piece_spelled
    : (s : List ℕ) → AreBytes s → (k : ℕ) (piece : Piece)
    → (read_piece s ≡ took k piece) ↔ (SoundPiece piece × SpellsPiece piece s × (k ≡ length s))
piece_spelled s bytes k piece = (
  (λ read.
      let prefix = (whole_piece s k piece).0 read in
      let spells = (prefix_spelled s bytes k piece).0 prefix.0 in
      let none = ap (λ n. drop n s) prefix.1 ∙ drop-length s in
      let all = spells.bytes ∙ ap (λ l. spells.own ++ l) none ∙ append-nil spells.own in
      (spells.sound, subst (SpellsPiece piece) (sym all) spells.spells, prefix.1)),
  λ spelled. own_piece piece s spelled.0 spelled.1 ∙ ap (λ n. took n piece) (sym spelled.2),
)

-- The written bytes of a number spell it,
number_spells : (a b : ℕ) → a ≡ b → SpellsTerm (numbers a b) (number_bytes a)
number_spells a b same = go (eqb (gauge_of a) 0) (eqb-true (gauge_of a) 0)
  where
    go
        : (c : Bool) → (c ≡ true → gauge_of a ≡ 0)
        → SpellsTerm (numbers a b) (cond c (0x32 ∷ wide_then a []) (0x36 ∷ gauge_of a ∷ wide_then (value_of a) []))
    go true zeroth = inr (same, inl (omega (arith, zeroth refl), refl))
    go false zeroth = inr (same, inr refl)

mutual
  -- so do those of a well-formed term,
  term_spells : (t : Term) → WellFormed t → SpellsTerm t (term_bytes t)
  term_spells unknown ok = refl
  term_spells never ok = refl
  term_spells (symbol a) ok = refl
  term_spells (numbers a b) ok = go (eqb a b) refl ok.2
    where
      go
          : (c : Bool) → eqb a b ≡ c → (a ≡ b) ⊎ Wide b
          → SpellsTerm (numbers a b) (cond c (number_bytes a) (0x34 ∷ wide_then a (wide_then b [])))
      go true e one = number_spells a b (eqb-true a b e)
      go false e (inl same) = absurd (eqb-false a b e same)
      go false e (inr wide) = inl (wide, refl)
  term_spells (compound a ts) ok = (terms_bytes ts, refl, terms_spell ts ok.3)

  -- and those of a row of terms.
  terms_spell : (ts : Terms) → WellFormeds ts → SpellsTerms ts (terms_bytes ts)
  terms_spell nil ok = refl
  terms_spell (cons t ts) ok = (term_bytes t, terms_bytes ts, refl, term_spells t ok.0, terms_spell ts ok.1)

-- An accepted piece is spelled by its written bytes.
pub written_piece
    : (piece : Piece) → SoundPiece piece
    → AreBytes (piece_bytes piece) × (read_piece (piece_bytes piece) ≡ took (length (piece_bytes piece)) piece)
written_piece piece sound =
    let terms = terms_spell piece.terms sound.accepted.well_formed in
    let spells : SpellsPiece piece (piece_bytes piece) = (terms_bytes piece.terms, refl, terms) in
    (piece_written piece sound, own_piece piece (piece_bytes piece) sound spells)
