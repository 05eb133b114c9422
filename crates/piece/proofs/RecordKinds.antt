-- The record of a term as the code hands it on, by the table of kinds: both readings are the same.
use Prim.Native.Nat.{ℕ}
use mathlib.Core.Path.{◌≡◌, refl, ap, ◌∙◌}
use mathlib.Core.Bool.{Bool, true, false, ◌&&◌}
use mathlib.Core.List.{List, [], ◌∷◌}
use native.Mathlib.Omega.{arith}
use lib.ListN.{length}
use lib.Dec.{leb, eqb, eqb-suc-zero}
use borrow.Author.Tests.{eqb-true, le-leb}
use Rattle.records.specs.Kinds.{record_length, kind_of, is_whole}
use Rattle.records.specs.Fields.{byte_at, wide_at}
use Rattle.records.specs.Reading.{Reading, ask}
use Rattle.records.proofs.Questions.{kinds_agree, ask_refused}
use Rattle.terms.specs.Term.{Term}
use Rattle.piece.specs.declared.TermRecord.{TermRecord}
use Rattle.piece.specs.declared.TermRecord.TheVariants.{Unknown, Symbol, Number, Compound, Span, Never, Gauged}
use Rattle.piece.specs.ReadPiece.{term_of}
use Rattle.piece.specs.views.TermRecord.{whole_if, term_head, on_record, on_head}

module _ (compound_of : ℕ → ℕ → Reading Term) where
  -- A record that is whole where its bytes are there, and what is read of it.
  whole_agrees
      : (b : Bool) (r : TermRecord) → ask 14 b (on_record compound_of r) ≡ on_head compound_of (whole_if b r)
  whole_agrees true r = refl
  whole_agrees false r = refl

  -- A record of a kind is whole where its bytes are there.
  kind_agrees
      : (s : List ℕ) (kind : ℕ) (r : TermRecord) → eqb (kind_of s) kind ≡ true
      → ask 14 (is_whole 0x30 0x36 s) (on_record compound_of r)
      ≡ on_head compound_of (whole_if (leb 0x30 kind && leb kind 0x36 && leb (record_length kind) (length s)) r)
  kind_agrees s kind r is =
      ap (λ (k : ℕ). ask 14 (leb 0x30 k && leb k 0x36 && leb (record_length k) (length s)) (on_record compound_of r))
      (eqb-true (kind_of s) kind is)
      ∙ whole_agrees (leb 0x30 kind && leb kind 0x36 && leb (record_length kind) (length s)) r

  -- By the table, and by the enum of records.
  pub by_table_lem
      : (s : List ℕ)
      → ask 14 (is_whole 0x30 0x36 s) (term_of (compound_of (wide_at s 1) (byte_at s 3)) s) ≡ on_head compound_of (term_head s)
  by_table_lem [] = refl
  by_table_lem (x ∷ xs) =
      let s = x ∷ xs in
      let whole = is_whole 0x30 0x36 s in
      let there : leb 1 (length s) ≡ true = le-leb 1 (length s) (omega arith) in
      rw (eqb-suc-zero (length xs))
      (kinds_agree (ask 14 whole) (on_head compound_of) (eqb x 0x30)
      (λ is. kind_agrees s 0x30 Unknown is ∙ ap (λ b. on_head compound_of (whole_if b Unknown)) there) (λ _.
      kinds_agree (ask 14 whole) (on_head compound_of) (eqb x 0x31) (kind_agrees s 0x31 (Symbol _)) (λ _.
      kinds_agree (ask 14 whole) (on_head compound_of) (eqb x 0x32) (kind_agrees s 0x32 (Number _)) (λ _.
      kinds_agree (ask 14 whole) (on_head compound_of) (eqb x 0x33) (kind_agrees s 0x33 (Compound _ _)) (λ _.
      kinds_agree (ask 14 whole) (on_head compound_of) (eqb x 0x34) (kind_agrees s 0x34 (Span _ _)) (λ _.
      kinds_agree (ask 14 whole) (on_head compound_of) (eqb x 0x35)
      (λ is. kind_agrees s 0x35 Never is ∙ ap (λ b. on_head compound_of (whole_if b Never)) there) (λ _.
      kinds_agree (ask 14 whole) (on_head compound_of) (eqb x 0x36) (kind_agrees s 0x36 (Gauged _ _)) (λ _.
      ask_refused 14 whole))))))))
