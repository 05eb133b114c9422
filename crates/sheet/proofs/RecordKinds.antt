-- The record of a pattern as the code hands it on, by the table of kinds: both readings are the same.
use Prim.Native.Nat.{ℕ}
use mathlib.Core.Path.{◌≡◌, refl, ap, ◌∙◌}
use mathlib.Core.Bool.{Bool, true, false, ◌&&◌}
use mathlib.Core.List.{List, [], ◌∷◌}
use native.Mathlib.Omega.{arith}
use lib.ListN.{length}
use lib.Dec.{leb, eqb, eqb-suc-zero}
use borrow.Author.Tests.{eqb-true, le-leb}
use Rattle.records.specs.Kinds.{record_length, kind_of, is_whole}
use Rattle.records.specs.Fields.{byte_at, wide_at}
use Rattle.records.specs.Reading.{Reading, ask}
use Rattle.records.proofs.Questions.{kinds_agree, ask_refused}
use Rattle.terms.specs.Pattern.{Pattern}
use Rattle.patterns.specs.declared.PatternRecord.{PatternRecord}
use Rattle.patterns.specs.declared.PatternRecord.TheVariants.{Anything, Symbol, Range, Compound, Variable, Ranged, Series, Gauged}
use Rattle.sheet.specs.ReadSheet.{pattern_of}
use Rattle.patterns.specs.views.PatternRecord.{whole_if, pattern_head, on_record, on_head}

module _ (compound_of : ℕ → ℕ → Reading Pattern) where
  -- A record that is whole where its bytes are there, and what is read of it.
  whole_agrees
      : (b : Bool) (r : PatternRecord) → ask 4 b (on_record compound_of r) ≡ on_head compound_of (whole_if b r)
  whole_agrees true r = refl
  whole_agrees false r = refl

  -- A record of a kind is whole where its bytes are there.
  kind_agrees
      : (s : List ℕ) (kind : ℕ) (r : PatternRecord) → eqb (kind_of s) kind ≡ true
      → ask 4 (is_whole 0x20 0x27 s) (on_record compound_of r)
      ≡ on_head compound_of (whole_if (leb 0x20 kind && leb kind 0x27 && leb (record_length kind) (length s)) r)
  kind_agrees s kind r is =
      ap (λ (k : ℕ). ask 4 (leb 0x20 k && leb k 0x27 && leb (record_length k) (length s)) (on_record compound_of r))
      (eqb-true (kind_of s) kind is)
      ∙ whole_agrees (leb 0x20 kind && leb kind 0x27 && leb (record_length kind) (length s)) r

  -- By the table, and by the enum of records.
  pub by_table_lem
      : (s : List ℕ)
      → ask 4 (is_whole 0x20 0x27 s) (pattern_of (compound_of (wide_at s 1) (byte_at s 3)) s) ≡ on_head compound_of (pattern_head s)
  by_table_lem [] = refl
  by_table_lem (x ∷ xs) =
      let s = x ∷ xs in
      let whole = is_whole 0x20 0x27 s in
      let there : leb 1 (length s) ≡ true = le-leb 1 (length s) (omega arith) in
      rw (eqb-suc-zero (length xs))
      (kinds_agree (ask 4 whole) (on_head compound_of) (eqb x 0x20)
      (λ is. kind_agrees s 0x20 Anything is ∙ ap (λ b. on_head compound_of (whole_if b Anything)) there) (λ _.
      kinds_agree (ask 4 whole) (on_head compound_of) (eqb x 0x21) (kind_agrees s 0x21 (Symbol _)) (λ _.
      kinds_agree (ask 4 whole) (on_head compound_of) (eqb x 0x22) (kind_agrees s 0x22 (Range _ _)) (λ _.
      kinds_agree (ask 4 whole) (on_head compound_of) (eqb x 0x23) (kind_agrees s 0x23 (Compound _ _)) (λ _.
      kinds_agree (ask 4 whole) (on_head compound_of) (eqb x 0x24) (kind_agrees s 0x24 (Variable _)) (λ _.
      kinds_agree (ask 4 whole) (on_head compound_of) (eqb x 0x25) (kind_agrees s 0x25 (Ranged _ _ _)) (λ _.
      kinds_agree (ask 4 whole) (on_head compound_of) (eqb x 0x26) (kind_agrees s 0x26 (Series _ _)) (λ _.
      kinds_agree (ask 4 whole) (on_head compound_of) (eqb x 0x27) (kind_agrees s 0x27 (Gauged _ _ _)) (λ _.
      ask_refused 4 whole)))))))))
