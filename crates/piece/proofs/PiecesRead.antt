-- Laws of reading pieces into cells and of checking them.
use Prim.Native.Nat.{ℕ, ◌≤◌, ◌<◌}
use mathlib.Core.Path.{◌≡◌, refl, ap, sym, ◌∙◌}
use mathlib.Core.Bool.{Bool, true, false, ◌&&◌, and-eq-true_iff}
use mathlib.Core.List.{List}
use mathlib.Core.Logic.{◌⊎◌}
use lib.ListN.{length, get_or, drop}
use lib.Dec.{leb, eqb}
use borrow.Author.Tests.{leb-true, eqb-true, le-leb, eq-eqb, ne_eqb}
use Rattle.records.specs.Reading.{Reading, took, refused, ask, map_reading, after, and_then}
use Rattle.terms.specs.Term.{Terms}
use Rattle.piece.specs.declared.Prefix.{Prefix}
use Rattle.piece.specs.Piece.{Piece}
use Rattle.piece.specs.ReadPiece.{read_terms, read_arity, read_prefix, read_piece}
use Rattle.piece.specs.views.Cells.{store_terms}
use Rattle.piece.specs.views.LaidOut.{LaidOut, terms_cells, empty_cells, lay_out, arity_read, prefix_read, piece_read}
use Rattle.piece.specs.CheckPiece.{PieceValues, piece_check_values, piece_values}
use Rattle.piece.proofs.Readings.{asked, inside, outside}
use Rattle.std.specs.Prelude.{Result, Ok, Err}
use Rattle.records.specs.Refusals.{number}
use Rattle.records.specs.declared.refusal.Refusal.{Refusal}

-- What is known of the bytes where the record that a piece begins with is read.
pub record ArityRead (s : List ℕ) (a n : ℕ) : Type 0 where
  pub bytes : a ≡ 2
  pub there : 2 ≤ length s
  pub kind : get_or s 0 0 ≡ 0x11
  pub arity : get_or s 1 0 ≡ n
  pub least : 1 ≤ n
  pub most : n ≤ 8

-- It is read only there.
pub arity_read_lem : (s : List ℕ) {a n : ℕ} → read_arity s ≡ took a n → ArityRead s a n
arity_read_lem s e =
    let first = asked 12 (leb 2 (length s) && eqb (get_or s 0 0) 0x11) _ e in
    let whole = (and-eq-true_iff (leb 2 (length s)) (eqb (get_or s 0 0) 0x11)).0 first.0 in
    let second = asked 13 (leb 1 (get_or s 1 0) && leb (get_or s 1 0) 8) _ first.1 in
    let few = (and-eq-true_iff (leb 1 (get_or s 1 0)) (leb (get_or s 1 0) 8)).0 second.0 in
    let least = leb-true 1 (get_or s 1 0) few.0 in
    let most = leb-true (get_or s 1 0) 8 few.1 in
    let same = second.1 in
    record {
      bytes = cc;
      there = leb-true 2 (length s) whole.0;
      kind = eqb-true (get_or s 0 0) 0x11 whole.1;
      arity = cc;
      least = rw (← arity_is_lem same) least;
      most = rw (← arity_is_lem same) most;
    }
  where
    arity_is_lem : {k a n : ℕ} → took 2 k ≡ took a n → k ≡ n
    arity_is_lem e = cc

module _ (s : List ℕ) (there : 2 ≤ length s) (kind : get_or s 0 0 ≡ 0x11) where
  -- Where the bytes begin with a whole 11 record, an arity of 0 or above 8 is refused.
  pub wrong_arity : (get_or s 1 0 < 1) ⊎ (8 < get_or s 1 0) → refused 13 ≡ read_arity s
  wrong_arity h = simp (le-leb 2 (length s) there, eq-eqb (get_or s 0 0) 0x11 kind, outside (get_or s 1 0) 8 h)

  -- An arity of 1 to 8 is read.
  pub right_arity : 1 ≤ get_or s 1 0 → get_or s 1 0 ≤ 8 → took 2 (get_or s 1 0) ≡ read_arity s
  right_arity least most =
      simp (le-leb 2 (length s) there, eq-eqb (get_or s 0 0) 0x11 kind, inside (get_or s 1 0) 8 least most)

module _ (s : List ℕ) (head : Result ℕ Refusal) (read : arity_read head ≡ read_arity s) where
  -- Where that record was refused, so is the piece.
  pub arity_refused
      : {r : Refusal} → head ≡ Err r → refused (number r) ≡ map_reading lay_out (read_prefix s)
  unfolding read_prefix
  arity_refused told = rw (← read, told)

  module _ {n : ℕ} (told : head ≡ Ok n) where
    -- Where it was read, its bytes are there and its arity is 1 to 8.
    pub arity_known : ArityRead s 2 n
    arity_known = arity_read_lem s (sym read ∙ ap arity_read told)

    -- Then the terms decide.
    pub terms_laid
        : {r : Reading (List ℕ)} → r ≡ terms_cells 3 n 0 empty_cells (drop 2 s)
        → after 2 (λ cells. record { arity = n; cells = cells }) r ≡ map_reading lay_out (read_prefix s)
    unfolding read_prefix
    terms_laid terms = rw terms (rw (← read, told) (sym (go (read_terms 3 n (drop 2 s)))))
      where
        go
            : (r : Reading Terms)
            → map_reading lay_out (after 2 (λ ts. record { arity = n; terms = ts }) r)
            ≡ after 2 (λ cells. record { arity = n; cells = cells }) (map_reading (λ ts. store_terms ts 3 0 empty_cells) r)
        go (took a ts) = refl
        go (refused q) = refl

module _
    (s : List ℕ) (r : Result Prefix Refusal) (cells : List ℕ)
    (read : prefix_read cells r ≡ map_reading lay_out (read_prefix s)) where
  -- The whole piece is read as the piece that the bytes begin with, and then question 17 is asked.
  whole
      : map_reading lay_out (read_piece s)
      ≡ and_then (prefix_read cells r) (λ a x. ask 17 (eqb a (length s)) (took a x))
  unfolding read_piece
  whole = rw read (go (read_prefix s))
    where
      last
          : (b : Bool) (a : ℕ) (piece : Piece)
          → map_reading lay_out (ask 17 b (took a piece)) ≡ ask 17 b (took a (lay_out piece))
      last true a piece = refl
      last false a piece = refl

      go
          : (r : Reading Piece)
          → map_reading lay_out (and_then r (λ a piece. ask 17 (eqb a (length s)) (took a piece)))
          ≡ and_then (map_reading lay_out r) (λ a x. ask 17 (eqb a (length s)) (took a x))
      go (took a piece) = last (eqb a (length s)) a piece
      go (refused q) = refl

  module _ {p : Prefix} (told : r ≡ Ok p) where
    -- Bytes left are refused.
    pub bytes_left : (p.bytes ≡ length s → ⊥) → refused 17 ≡ map_reading lay_out (read_piece s)
    bytes_left more = sym (whole ∙ (rw (told, ne_eqb _ _ more)))

    -- Where no bytes are left, the piece is read.
    pub piece_took_lem
        : p.bytes ≡ length s
        → took (length s) (record { arity = p.arity; cells = cells }) ≡ map_reading lay_out (read_piece s)
    piece_took_lem all = sym (whole ∙ (rw (told, all, eq-eqb (length s) (length s) refl)))

  -- Where that piece is refused, so is the whole.
  pub piece_refused : {q : Refusal} → r ≡ Err q → refused (number q) ≡ map_reading lay_out (read_piece s)
  piece_refused told = sym (whole ∙ (rw told))

-- The number and the arity that a reading of a laid out piece says.
abbrev laid_out_result : Reading LaidOut → PieceValues
laid_out_result (took a x) = record { refusal = 0; arity = x.arity }
laid_out_result (refused q) = record { refusal = q; arity = 0 }

-- What the answer of a check says,
check_result
    : (bytes : ℕ) (cells : List ℕ) (r : Result ℕ Refusal)
    → piece_check_values r ≡ laid_out_result (piece_read bytes cells r)
check_result bytes cells (Ok n) = refl
check_result bytes cells (Err q) = refl

-- what a reading says,
read_result : (r : Reading Piece) → laid_out_result (map_reading lay_out r) ≡ piece_values r
read_result (took a piece) = refl
read_result (refused q) = refl

-- and both are the same where the answer is that of the reading.
pub check_says
    : (bytes : ℕ) (cells : List ℕ) (r : Result ℕ Refusal) (x : Reading Piece)
    → piece_read bytes cells r ≡ map_reading lay_out x → piece_check_values r ≡ piece_values x
check_says bytes cells r x e = check_result bytes cells r ∙ ap laid_out_result e ∙ read_result x
