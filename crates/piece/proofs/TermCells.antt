-- Laws of reading terms into cells, for any number of levels below them and of terms in a row.
use Prim.Native.Nat.{ℕ, suc, ◌+◌, ◌-◌, ◌≤◌, ◌<◌}
use mathlib.Core.Path.{◌≡◌, refl, ap, ap₂, sym, ◌∙◌}
use mathlib.Core.List.{List}
use mathlib.Core.Logic.{◌⊎◌}
use native.Mathlib.Numerals.{sub-one}
use native.Mathlib.Omega.{arith}
use lib.ListN.{length, drop, set}
use borrow.Author.Tests.{le-leb, lt-leb}
use Rattle.records.specs.Reading.{Reading, took, refused, ask, map_reading}
use Rattle.records.proofs.RowSoFar.{later}
use Rattle.terms.specs.Term.{Term, Terms, count, numbers, compound, nil, cons}
use Rattle.piece.specs.declared.TermRecord.{TermRecord}
use Rattle.piece.specs.declared.TermRecord.TheVariants.{Compound, Span}
use Rattle.piece.specs.views.TermRecord.{term_head, on_head}
use Rattle.piece.specs.ReadPiece.{read_term, read_terms}
use Rattle.codes.specs.views.Codes.{compound_code, number_code, run_of}
use Rattle.piece.specs.views.Cells.{store_term, store_terms}
use Rattle.piece.specs.views.LaidOut.{took_cells, term_cells, terms_cells}
use Rattle.piece.proofs.Readings.{bytes_of, bytes_map, map_after, same_views, row_took}
use Rattle.piece.proofs.TermsRead.{read_compound, by_head, too_deep, wrong_arity, with_arguments, term_within, terms_within}
use Rattle.std.specs.Prelude.{Result, Ok, Err}
use Rattle.records.specs.Refusals.{number}
use Rattle.records.specs.declared.refusal.Refusal.{Refusal}

-- The record that the bytes begin with, as the head and then the record tell it.
pub begins
    : (s : List ℕ) {h : Result TermRecord Refusal} {r known : TermRecord} → h ≡ term_head s → h ≡ Ok r → r ≡ known
    → term_head s ≡ Ok known
begins s is whole told = sym is ∙ whole ∙ ap Ok told

-- As many terms are read as are asked for.
same_count
    : (below n : ℕ) (s : List ℕ) (f g : Terms → List ℕ) → ((ts : Terms) → count ts ≡ n → f ts ≡ g ts)
    → map_reading f (read_terms below n s) ≡ map_reading g (read_terms below n s)
same_count below n s f g h =
    same_views (λ ts. count ts ≡ n) f g h (read_terms below n s)
    (row_took (λ k ts. count ts ≡ k) nil cons (read_term below) refl (λ k t ts e. ap suc e) n s)

module _
    (a : ℕ) (then : List ℕ) (r : Result ℕ Refusal) {whole : Reading (List ℕ)} (read : later a (took_cells then r) ≡ whole) where
  -- Where more was read after a bytes, the whole took the bytes of both;
  pub went_on : {b : ℕ} → r ≡ Ok b → took (a + b) then ≡ whole
  went_on told = ap (λ o. later a (took_cells then o)) (sym told) ∙ read

  -- where it was refused, so is the whole.
  pub stopped : {q : Refusal} → r ≡ Err q → refused (number q) ≡ whole
  stopped told = ap (λ o. later a (took_cells then o)) (sym told) ∙ read

module _ (below : ℕ) (s : List ℕ) (p : ℕ) (cells : List ℕ) where
  -- The cells after the term is stored.
  abbrev stored : Term → List ℕ
  stored t = store_term t below p cells

  -- A term is stored by its record, and a refused head is handed back.
  pub by_record
      : {h : Result TermRecord Refusal} → term_head s ≡ h
      → map_reading stored (on_head (read_compound below s) h) ≡ term_cells below p cells s
  by_record head = ap (map_reading stored) (sym (by_head below s ∙ ap (on_head (read_compound below s)) head))

  module _ (l h : ℕ) (head : term_head s ≡ Ok (Span l h)) where
    -- A span with low above high is refused,
    pub span_refused : h < l → refused 32 ≡ term_cells below p cells s
    span_refused above = ap (λ b. map_reading stored (ask 32 b (took 5 (numbers l h)))) (sym (lt-leb l h above)) ∙ by_record head

    -- and any other is stored by the codes of its ends.
    pub span_stored
        : l ≤ h → {x y : ℕ} → x ≡ number_code l → y ≡ number_code h → took 5 (set cells p (run_of x y)) ≡ term_cells below p cells s
    span_stored most low high =
        ap₂ (λ x y. took 5 (set cells p (run_of x y))) low high
        ∙ ap (λ b. map_reading stored (ask 32 b (took 5 (numbers l h)))) (sym (le-leb l h most)) ∙ by_record head

  module _ (a n : ℕ) (head : term_head s ≡ Ok (Compound a n)) where
    -- A compound with no level below it is refused.
    pub deep_refused : below ≡ 0 → refused 15 ≡ term_cells below p cells s
    deep_refused none = ap (map_reading stored) (sym (too_deep below s a n none)) ∙ by_record head

    module _ (some : below ≡ 0 → ⊥) where
      -- A compound without arguments, or with more than 4, is refused.
      pub arity_refused : (n < 1) ⊎ (4 < n) → refused 16 ≡ term_cells below p cells s
      arity_refused h = ap (map_reading stored) (sym (wrong_arity below s a n some h)) ∙ by_record head

      -- Else it is stored, and then its arguments from the next place on.
      pub arguments_read_lem
          : 1 ≤ n → n ≤ 4 → {r : Reading (List ℕ)}
          → r ≡ terms_cells (below - 1) n (p + 1) (set cells p (run_of (compound_code a n) (compound_code a n))) (drop 4 s)
          → later 4 r ≡ term_cells below p cells s
      arguments_read_lem least most read =
          ap (later 4) read
          ∙ sym
          (sym (by_record head) ∙ ap (map_reading stored) (with_arguments below s a n some least most)
          ∙ map_after 4 (compound a) stored (read_terms (below - 1) n (drop 4 s))
          ∙ ap (later 4) (same_count (below - 1) n (drop 4 s) _ _ (λ ts e. rw (sub-one below, e))))

-- What was read into the cells took no more bytes than there are: a term,
pub Term-fits
    : (below : ℕ) (s : List ℕ) (p : ℕ) (cells then : List ℕ) (r : Result ℕ Refusal) {a : ℕ}
    → took_cells then r ≡ term_cells below p cells s → r ≡ Ok a → a ≤ length s
Term-fits below s p cells then r read told =
    let bytes = bytes_map (λ t. store_term t below p cells) (read_term below s) in
    omega (arith, ap bytes_of (ap (took_cells then) (sym told) ∙ read) ∙ bytes, term_within below s)

-- and a row of terms.
pub terms_fit
    : (below n : ℕ) (s : List ℕ) (p : ℕ) (cells then : List ℕ) (r : Result ℕ Refusal) {a : ℕ}
    → took_cells then r ≡ terms_cells below n p cells s → r ≡ Ok a → a ≤ length s
terms_fit below n s p cells then r read told =
    let bytes = bytes_map (λ ts. store_terms ts below p cells) (read_terms below n s) in
    omega (arith, ap bytes_of (ap (took_cells then) (sym told) ∙ read) ∙ bytes, terms_within below n s)
