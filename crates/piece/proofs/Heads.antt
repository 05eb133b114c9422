-- The record of a term that bytes begin with: what is known of the bytes in each case.
use Prim.Native.Nat.{ℕ, ◌≤◌}
use mathlib.Core.Path.{◌≡◌, refl, subst}
use mathlib.Core.Bool.{Bool, true, false, cond}
use mathlib.Core.List.{List}
use native.Mathlib.Omega.{arith}
use lib.ListN.{length, get_or}
use lib.Dec.{leb, eqb}
use borrow.Author.Tests.{leb-true, eqb-true, eqb-false}
use Rattle.records.specs.Fields.{wide_at}
use Rattle.records.proofs.Questions.{kind_cases}
use Rattle.piece.specs.declared.TermRecord.{TermRecord}
use Rattle.piece.specs.declared.TermRecord.TheVariants.{Unknown, Symbol, Number, Compound, Span, Never, Gauged}
use Rattle.piece.specs.views.TermRecord.{term_head, whole_if}
use Rattle.std.specs.Prelude.{Result, Ok, Err}
use Rattle.records.specs.declared.refusal.Refusal.{Refusal}
use Rattle.records.specs.declared.refusal.Refusal.TheVariants.{NotATerm}

-- What holds of a refusal and of the whole record holds of the record that may be cut.
whole_cases
    : (P : Result TermRecord Refusal → Type 0) (b : Bool) (r : TermRecord) → P (Err NotATerm) → (b ≡ true → P (Ok r))
    → P (whole_if b r)
whole_cases P true r h k = k refl
whole_cases P false r h k = h

module _ (P : Result TermRecord Refusal → Type 0) (s : List ℕ) (none : P (Err NotATerm)) where
  -- A record of that kind, whole where its k bytes are there.
  of_kind
      : (kind k : ℕ) (r : TermRecord) (others : Result TermRecord Refusal) → (k ≤ length s → get_or s 0 0 ≡ kind → P (Ok r))
      → P others → P (cond (eqb (get_or s 0 0) kind) (whole_if (leb k (length s)) r) others)
  of_kind kind k r others whole rest =
      kind_cases P (eqb (get_or s 0 0) kind) (whole_if (leb k (length s)) r) others
      (λ is. whole_cases P (leb k (length s)) r none (λ there.
      whole (leb-true k (length s) there) (eqb-true (get_or s 0 0) kind is)))
      (λ _. rest)

  -- What holds of a refusal, and of each record where its kind and its bytes are there, holds of the head.
  pub head_cases
      : (1 ≤ length s → get_or s 0 0 ≡ 0x30 → P (Ok Unknown))
      → (3 ≤ length s → get_or s 0 0 ≡ 0x31 → P (Ok (Symbol (wide_at s 1))))
      → (3 ≤ length s → get_or s 0 0 ≡ 0x32 → P (Ok (Number (wide_at s 1))))
      → (4 ≤ length s → get_or s 0 0 ≡ 0x33 → P (Ok (Compound (wide_at s 1) (get_or s 3 0))))
      → (5 ≤ length s → get_or s 0 0 ≡ 0x34 → P (Ok (Span (wide_at s 1) (wide_at s 3))))
      → (1 ≤ length s → get_or s 0 0 ≡ 0x35 → P (Ok Never))
      → (4 ≤ length s → get_or s 0 0 ≡ 0x36 → P (Ok (Gauged (get_or s 1 0) (wide_at s 2))))
      → P (term_head s)
  head_cases an-unknown a-symbol a-number a_compound_lem a-span a-never a-gauged =
      kind_cases P (eqb (length s) 0) _ _ (λ _. none) (λ some.
      let there : 1 ≤ length s = omega (arith, eqb-false (length s) 0 some) in
      kind_cases P (eqb (get_or s 0 0) 0x30) _ _
      (λ is. an-unknown there (eqb-true (get_or s 0 0) 0x30 is)) (λ _.
      of_kind 0x31 3 (Symbol (wide_at s 1)) _ a-symbol
      (of_kind 0x32 3 (Number (wide_at s 1)) _ a-number
      (of_kind 0x33 4 (Compound (wide_at s 1) (get_or s 3 0)) _ a_compound_lem
      (of_kind 0x34 5 (Span (wide_at s 1) (wide_at s 3)) _ a-span
      (kind_cases P (eqb (get_or s 0 0) 0x35) _ _ (λ is. a-never there (eqb-true (get_or s 0 0) 0x35 is)) (λ _.
      of_kind 0x36 4 (Gauged (get_or s 1 0) (wide_at s 2)) _ a-gauged none)))))))

-- The bytes of a record.
abbrev pub record_bytes : TermRecord → ℕ
record_bytes Unknown = 1
record_bytes (Symbol a) = 3
record_bytes (Number a) = 3
record_bytes (Compound a n) = 4
record_bytes (Span l h) = 5
record_bytes Never = 1
record_bytes (Gauged g a) = 4

-- The bytes of a head, 0 where it was refused.
abbrev head_bytes : Result TermRecord Refusal → ℕ
head_bytes (Ok r) = record_bytes r
head_bytes (Err q) = 0

-- The bytes of a whole record are there.
pub record_within : (s : List ℕ) {r : TermRecord} → term_head s ≡ Ok r → record_bytes r ≤ length s
record_within s e =
    subst (λ h. head_bytes h ≤ length s) e
    (head_cases (λ h. head_bytes h ≤ length s) s (omega arith) (λ there _. there) (λ there _. there) (λ there _. there)
    (λ there _. there) (λ there _. there) (λ there _. there) (λ there _. there))
