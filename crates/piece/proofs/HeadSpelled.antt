-- Bytes begin with a record of a term exactly where they spell it.
use Prim.Native.Nat.{ℕ, suc, ◌+◌, ◌≤◌, ◌<◌}
use mathlib.Core.Path.{◌≡◌, ap, ap₂, sym, ◌∙◌}
use mathlib.Core.List.{List, ◌∷◌}
use native.Mathlib.Omega.{arith}
use lib.ListN.{length, get_or, drop}
use lib.Seq.{drop-cons}
use lib.Dec.{eqb-suc-zero}
use borrow.Author.Tests.{le-leb}
use Rattle.records.specs.Fields.{wide_of, wide_at, wide_then, AreBytes}
use Rattle.records.proofs.WideFields.{wide_bound, high_of_lem, low_of_lem, wide_of_lem}
use Rattle.terms.specs.Term.{Wide}
use Rattle.piece.specs.declared.TermRecord.{TermRecord}
use Rattle.piece.specs.declared.TermRecord.TheVariants.{Unknown, Symbol, Number, Compound, Span, Never, Gauged}
use Rattle.piece.specs.views.TermRecord.{term_head}
use Rattle.piece.proofs.Heads.{head_cases, record_bytes}
use Rattle.records.proofs.ByteLists.{byte_at}
use Rattle.std.specs.Prelude.{Result, Ok, Err}
use Rattle.records.specs.declared.refusal.Refusal.{Refusal}

-- A record, and the bytes that follow it.
abbrev pub record_then : TermRecord → List ℕ → List ℕ
record_then Unknown rest = 0x30 ∷ rest
record_then (Symbol a) rest = 0x31 ∷ wide_then a rest
record_then (Number a) rest = 0x32 ∷ wide_then a rest
record_then (Compound a n) rest = 0x33 ∷ wide_then a (n ∷ rest)
record_then (Span l h) rest = 0x34 ∷ wide_then l (wide_then h rest)
record_then Never rest = 0x35 ∷ rest
record_then (Gauged g a) rest = 0x36 ∷ g ∷ wide_then a rest

-- The id or number of a record fits a wide field, and so do the ends of a span; a gauge is a byte.
abbrev pub WideRecord : TermRecord → Type 0
WideRecord Unknown = Unit
WideRecord (Symbol a) = Wide a
WideRecord (Number a) = Wide a
WideRecord (Compound a n) = Wide a
WideRecord (Span l h) = Wide l × Wide h
WideRecord Never = Unit
WideRecord (Gauged g a) = Wide a × (g < 256)

-- A head says that the bytes spell its record.
abbrev pub HeadSpells : List ℕ → Result TermRecord Refusal → Type 0
HeadSpells s (Ok r) = (s ≡ record_then r (drop (record_bytes r) s)) × WideRecord r
HeadSpells s (Err q) = Unit

module _ (s : List ℕ) (bytes : AreBytes s) where
  -- The bytes are the first one and those after it.
  first : 1 ≤ length s → s ≡ get_or s 0 0 ∷ drop 1 s
  first there = drop-cons s 0 0 there

  -- The bytes from i on are those of a wide field, whatever stands in it, and those after it.
  field_at
      : (i : ℕ) → suc (suc i) ≤ length s
      → drop i s ≡ wide_then (wide_of (get_or s i 0) (get_or s (suc i) 0)) (drop (suc (suc i)) s)
  field_at i there =
      let high = byte_at s i bytes in
      let low = byte_at s (suc i) bytes in
      drop-cons s i 0 (omega arith)
      ∙ ap₂ (λ x l. x ∷ l) (sym (high_of_lem (get_or s i 0) (get_or s (suc i) 0) high low))
      (drop-cons s (suc i) 0 there
      ∙ ap (λ x. x ∷ drop (suc (suc i)) s) (sym (low_of_lem (get_or s i 0) (get_or s (suc i) 0) high low)))

  -- The number in it fits.
  wide_at_lem : (i : ℕ) → Wide (wide_at s i)
  wide_at_lem i = wide_bound (get_or s i 0) (get_or s (i + 1) 0) (byte_at s i bytes) (byte_at s (i + 1) bytes)

  -- The bytes are the first one and then those of a wide field,
  wide_field : 3 ≤ length s → s ≡ get_or s 0 0 ∷ wide_then (wide_at s 1) (drop 3 s)
  wide_field there = drop-cons s 0 0 (omega arith) ∙ ap (λ l. get_or s 0 0 ∷ l) (field_at 1 there)

  -- or of two.
  two_fields : 5 ≤ length s → s ≡ get_or s 0 0 ∷ wide_then (wide_at s 1) (wide_then (wide_at s 3) (drop 5 s))
  two_fields there = wide_field (omega arith) ∙ ap (λ l. get_or s 0 0 ∷ wide_then (wide_at s 1) l) (field_at 3 there)

  -- Or they are the first two and then those of a wide field.
  byte_and_field : 4 ≤ length s → s ≡ get_or s 0 0 ∷ get_or s 1 0 ∷ wide_then (wide_at s 2) (drop 4 s)
  byte_and_field there =
      drop-cons s 0 0 (omega arith)
      ∙ ap (λ l. get_or s 0 0 ∷ l) (drop-cons s 1 0 (omega arith) ∙ ap (λ l. get_or s 1 0 ∷ l) (field_at 2 there))

  -- What is read as a record is spelled.
  pub head_spells : HeadSpells s (term_head s)
  head_spells =
      let wide = wide_at_lem 1 in
      head_cases (HeadSpells s) s tt
      (λ there kind. (first there ∙ ap (λ x. x ∷ drop 1 s) kind, tt))
      (λ there kind. (wide_field there ∙ ap (λ x. x ∷ wide_then (wide_at s 1) (drop 3 s)) kind, wide))
      (λ there kind. (wide_field there ∙ ap (λ x. x ∷ wide_then (wide_at s 1) (drop 3 s)) kind, wide))
      (λ there kind. (
        wide_field (omega arith)
            ∙ ap₂ (λ x l. x ∷ wide_then (wide_at s 1) l) kind (drop-cons s 3 0 there),
        wide,
      ))
      (λ there kind. (
        two_fields there ∙ ap (λ x. x ∷ wide_then (wide_at s 1) (wide_then (wide_at s 3) (drop 5 s))) kind,
        (wide, wide_at_lem 3),
      ))
      (λ there kind. (first there ∙ ap (λ x. x ∷ drop 1 s) kind, tt))
      (λ there kind. (
        byte_and_field there ∙ ap (λ x. x ∷ get_or s 1 0 ∷ wide_then (wide_at s 2) (drop 4 s)) kind,
        (wide_at_lem 2, byte_at s 1 bytes),
      ))

-- What is spelled is read as the record.
pub spelled_head : (r : TermRecord) (rest : List ℕ) → WideRecord r → term_head (record_then r rest) ≡ Ok r
spelled_head Unknown rest wide = rw (eqb-suc-zero (length rest))
spelled_head (Symbol a) rest wide =
    let n = length rest in
    simp (eqb-suc-zero (suc (suc n)), le-leb 3 (suc (suc (suc n))) (omega arith), wide_of_lem a wide)
spelled_head (Number a) rest wide =
    let n = length rest in
    simp (eqb-suc-zero (suc (suc n)), le-leb 3 (suc (suc (suc n))) (omega arith), wide_of_lem a wide)
spelled_head (Compound a n) rest wide =
    let k = length rest in
    simp (eqb-suc-zero (suc (suc (suc k))), le-leb 4 (suc (suc (suc (suc k)))) (omega arith), wide_of_lem a wide)
spelled_head (Span l h) rest wide =
    let k = length rest in
    let there = le-leb 5 (suc (suc (suc (suc (suc k))))) (omega arith) in
    simp (eqb-suc-zero (suc (suc (suc (suc k)))), there, wide_of_lem l wide.0, wide_of_lem h wide.1)
spelled_head Never rest wide = rw (eqb-suc-zero (length rest))
spelled_head (Gauged g a) rest wide =
    let k = length rest in
    simp (eqb-suc-zero (suc (suc (suc k))), le-leb 4 (suc (suc (suc (suc k)))) (omega arith), wide_of_lem a wide.0)
