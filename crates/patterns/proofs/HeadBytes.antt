-- The bytes of a record: those that a list begins with, and those that spell the record.
use Prim.Native.Nat.{ℕ, zero, suc, ◌+◌, ◌≤◌, ◌<◌}
use mathlib.Core.Path.{◌≡◌, sym, ap, subst, ◌∙◌}
use mathlib.Core.List.{List, ◌∷◌, ◌++◌, map}
use native.Mathlib.Omega.{arith}
use lib.ListN.{length, get_or, drop}
use lib.Seq.{drop-cons}
use borrow.Author.Tests.{ne_eqb, le-leb}
use Rattle.records.specs.Fields.{wide_at, wide_then, AreBytes}
use Rattle.records.proofs.WideFields.{wide_bound, high_of_lem, low_of_lem, wide_of_lem}
use Rattle.basics.specs.Lists.{count_from}
use Rattle.terms.specs.Term.{Wide}
use Rattle.patterns.specs.declared.PatternRecord.{PatternRecord}
use Rattle.patterns.specs.declared.PatternRecord.TheVariants.{Anything, Symbol, Range, Compound, Variable, Ranged, Series, Gauged}
use Rattle.std.specs.Prelude.{Ok, Err}
use Rattle.patterns.specs.views.PatternRecord.{PatternHead, record_bytes, record_spelling, pattern_head}
use Rattle.patterns.proofs.Heads.{head_cases}
use Rattle.records.proofs.ByteLists.{byte_at}

-- The wide fields of a record are wide, and a gauge is a byte.
abbrev pub WideFields : PatternRecord → Type 0
WideFields Anything = Unit
WideFields (Symbol a) = Wide a
WideFields (Range l h) = Wide l × Wide h
WideFields (Compound a n) = Wide a
WideFields (Variable v) = Unit
WideFields (Ranged v l h) = Wide l × Wide h
WideFields (Series l h) = Wide l × Wide h
WideFields (Gauged g l h) = Wide l × Wide h × (g < 256)

-- The k elements of a list from element i on.
abbrev pub part : List ℕ → ℕ → ℕ → List ℕ
part s i k = map (λ (j : ℕ). get_or s j 0) (count_from i k)

bytes_from : (k i : ℕ) (s : List ℕ) → i + k ≤ length s → drop i s ≡ part s i k ++ drop (i + k) s
bytes_from zero i s h = let e : i ≡ i + 0 = omega arith in ap (λ (j : ℕ). drop j s) e
bytes_from (suc k) i s h =
    let e : suc i + k ≡ i + suc k = omega arith in
    drop-cons s i 0 (omega arith)
    ∙ ap (get_or s i 0 ∷◌) (bytes_from k (suc i) s (omega arith) ∙ ap (λ (j : ℕ). part s (suc i) k ++ drop j s) e)

-- A list of k elements or more begins with its first k.
pub first_bytes_lem : (k : ℕ) (s : List ℕ) → k ≤ length s → s ≡ part s 0 k ++ drop k s
first_bytes_lem k s h =
    let e : 0 + k ≡ k = omega arith in bytes_from k 0 s (omega arith) ∙ ap (λ (j : ℕ). part s 0 k ++ drop j s) e

module _ (s : List ℕ) (bytes : AreBytes s) where
  abbrev wide : (i : ℕ) → Wide (wide_at s i)
  wide i = wide_bound (get_or s i 0) (get_or s (i + 1) 0) (byte_at s i bytes) (byte_at s (i + 1) bytes)

  -- Two bytes are those of the wide field that they make.
  two_bytes : (i : ℕ) (rest : List ℕ) → get_or s i 0 ∷ get_or s (i + 1) 0 ∷ rest ≡ wide_then (wide_at s i) rest
  two_bytes i rest =
      let high = get_or s i 0 in
      let low = get_or s (i + 1) 0 in
      λ j. sym (high_of_lem high low (byte_at s i bytes) (byte_at s (i + 1) bytes)) j
      ∷ sym (low_of_lem high low (byte_at s i bytes) (byte_at s (i + 1) bytes)) j ∷ rest

  -- The bytes of a range of either kind.
  range_bytes
      : (kind : ℕ) → 5 ≤ length s → get_or s 0 0 ≡ kind → s ≡ kind ∷ wide_then (wide_at s 1) (wide_then (wide_at s 3) (drop 5 s))
  range_bytes kind there is =
      first_bytes_lem 5 s there ∙ (λ j. is j ∷ (two_bytes 1 _ ∙ ap (wide_then (wide_at s 1)) (two_bytes 3 (drop 5 s))) j)

  -- Those of a byte and two ends.
  ranged_bytes
      : (kind : ℕ) → 6 ≤ length s → get_or s 0 0 ≡ kind
      → s ≡ kind ∷ get_or s 1 0 ∷ wide_then (wide_at s 2) (wide_then (wide_at s 4) (drop 6 s))
  ranged_bytes kind there is =
      first_bytes_lem 6 s there
      ∙ (λ j. is j ∷ get_or s 1 0 ∷ (two_bytes 2 _ ∙ ap (wide_then (wide_at s 2)) (two_bytes 4 (drop 6 s))) j)

  abbrev Spells : PatternHead → Type 0
  Spells (Ok r) = WideFields r × (s ≡ record_spelling r ++ drop (record_bytes r) s)
  Spells (Err r) = Unit

  head_spells : Spells (pattern_head s)
  head_spells =
      head_cases Spells s tt
      (λ there is. (tt, first_bytes_lem 1 s there ∙ (λ j. is j ∷ drop 1 s)))
      (λ there is. (wide 1, first_bytes_lem 3 s there ∙ (λ j. is j ∷ two_bytes 1 (drop 3 s) j)))
      (λ there is. ((wide 1, wide 3), range_bytes 0x22 there is))
      (λ there is. (wide 1, first_bytes_lem 4 s there ∙ (λ j. is j ∷ two_bytes 1 (get_or s 3 0 ∷ drop 4 s) j)))
      (λ there is. (tt, first_bytes_lem 2 s there ∙ (λ j. is j ∷ get_or s 1 0 ∷ drop 2 s)))
      (λ there is. ((wide 2, wide 4), ranged_bytes 0x25 there is))
      (λ there is. ((wide 1, wide 3), range_bytes 0x26 there is))
      (λ there is. ((wide 2, wide 4, byte_at s 1 bytes), ranged_bytes 0x27 there is))

  -- The wide fields of a whole record are wide, and its gauge is a byte.
  pub head_wide : {r : PatternRecord} → pattern_head s ≡ Ok r → WideFields r
  head_wide e = (subst Spells e head_spells).0

  -- The list begins with the bytes that spell a whole record.
  pub head_spelled : {r : PatternRecord} → pattern_head s ≡ Ok r → s ≡ record_spelling r ++ drop (record_bytes r) s
  head_spelled e = (subst Spells e head_spells).1

-- Bytes that begin with those that spell a record have it for their head.
pub spelled_head : (r : PatternRecord) (rest : List ℕ) → WideFields r → pattern_head (record_spelling r ++ rest) ≡ Ok r
spelled_head Anything rest w =
    let s = record_spelling Anything ++ rest in
    simp (ne_eqb (length s) 0 (λ e. omega arith))
spelled_head (Symbol a) rest w =
    let s = record_spelling (Symbol a) ++ rest in
    simp (ne_eqb (length s) 0 (λ e. omega arith), le-leb 3 (length s) (omega arith))
    (ap (λ (x : ℕ). Ok (Symbol x)) (wide_of_lem a w))
spelled_head (Range l h) rest w =
    let s = record_spelling (Range l h) ++ rest in
    simp (ne_eqb (length s) 0 (λ e. omega arith), le-leb 5 (length s) (omega arith))
    (λ j. Ok (Range (wide_of_lem l w.0 j) (wide_of_lem h w.1 j)))
spelled_head (Compound a n) rest w =
    let s = record_spelling (Compound a n) ++ rest in
    simp (ne_eqb (length s) 0 (λ e. omega arith), le-leb 4 (length s) (omega arith))
    (ap (λ (x : ℕ). Ok (Compound x n)) (wide_of_lem a w))
spelled_head (Variable v) rest w =
    let s = record_spelling (Variable v) ++ rest in
    simp (ne_eqb (length s) 0 (λ e. omega arith), le-leb 2 (length s) (omega arith))
spelled_head (Ranged v l h) rest w =
    let s = record_spelling (Ranged v l h) ++ rest in
    simp (ne_eqb (length s) 0 (λ e. omega arith), le-leb 6 (length s) (omega arith))
    (λ j. Ok (Ranged v (wide_of_lem l w.0 j) (wide_of_lem h w.1 j)))
spelled_head (Series l h) rest w =
    let s = record_spelling (Series l h) ++ rest in
    simp (ne_eqb (length s) 0 (λ e. omega arith), le-leb 5 (length s) (omega arith))
    (λ j. Ok (Series (wide_of_lem l w.0 j) (wide_of_lem h w.1 j)))
spelled_head (Gauged g l h) rest w =
    let s = record_spelling (Gauged g l h) ++ rest in
    simp (ne_eqb (length s) 0 (λ e. omega arith), le-leb 6 (length s) (omega arith))
    (λ j. Ok (Gauged g (wide_of_lem l w.0 j) (wide_of_lem h w.1 j)))
