-- A rule's tidy form has the same length before its variables have their numbers.
use Prim.Native.Nat.{ℕ, suc, ◌+◌, ◌*◌, ◌/◌, ◌≤◌}
use mathlib.Core.Path.{◌≡◌, refl, sym, ap, ◌∙◌}
use mathlib.Core.Bool.{Bool, true, false, cond}
use mathlib.Core.List.{List, [], ◌∷◌, map}
use native.Mathlib.Decide.{ℕ_discrete}
use native.Mathlib.Omega.{arith}
use lib.Dec.{eqb}
use lib.ListN.{length, get_or, set, length-set}
use lib.Seq.{get_or-set_same, get_or-set_other}
use borrow.Author.Tests.{le-ltb, eqb-true}
use Rattle.patterns.specs.declared.PatternRecord.{PatternRecord}
use Rattle.patterns.specs.declared.PatternRecord.TheVariants.{Anything, Symbol, Series, Range, Compound, Variable, Ranged, Gauged}
use Rattle.patterns.specs.views.PatternRecord.{record_bytes}
use Rattle.rule_rows.specs.views.Words.{word_high, word_uses, word_place, Numbering, numbered_at, number_record}
use Rattle.tidy_rows.specs.views.TidyRow.{tidy_word, tidy_in, tidy_spelling, met_in, tidy_row}
use Rattle.tidy_rows.proofs.TidyWords.{tidy_by}
use Rattle.tidying.proofs.Settled.{number_records, numbered_in, met_sixteen, row_is}
use Rattle.tidy_rows.proofs.RowSteps.{first_spelled}

-- The bytes of a repeated variable's record.
repeated_bytes : (w : ℕ) → 2 ≤ word_uses w → record_bytes (tidy_word w) ≡ cond (eqb (word_high w) 0x1_0000) 2 6
repeated_bytes w twice = go (eqb (word_high w) 0x1_0000) refl
  where
    go : (b : Bool) → eqb (word_high w) 0x1_0000 ≡ b → record_bytes (tidy_word w) ≡ cond b 2 6
    go true e = ap record_bytes (sym (tidy_by w false true (le-ltb (word_uses w) 2 twice) e))
    go false e = ap record_bytes (sym (tidy_by w false false (le-ltb (word_uses w) 2 twice) e))

-- A number changes nothing of them.
numbered_bytes
    : (w count : ℕ) → w / 0x2_0000_0000 ≡ 2
    → record_bytes (tidy_word w) ≡ record_bytes (tidy_word (w + (count * 4 + 1) * 0x2_0000_0000))
numbered_bytes w count is =
    let after = w + (count * 4 + 1) * 0x2_0000_0000 in
    let same : word_high w ≡ word_high after = omega arith in
    repeated_bytes w (omega (arith, is))
    ∙ ap (λ (h : ℕ). cond (eqb h 0x1_0000) 2 6) same
    ∙ sym (repeated_bytes after (omega (arith, is)))

-- Words by which the variables' records have as many bytes.
abbrev Alike : List ℕ → List ℕ → Type 0
Alike xs ys = (k : ℕ) → record_bytes (tidy_word (get_or xs k 0)) ≡ record_bytes (tidy_word (get_or ys k 0))

record Kept (x y : List ℕ) : Type 0 where
  alike : Alike x y
  size : length y ≡ 16

kept_at : (v : ℕ) (x : Numbering) → length x.words ≡ 16 → Kept x.words (numbered_at v x).words
kept_at v x size = go (eqb (w / 0x2_0000_0000) 2) refl
  where
    w : ℕ
    w = get_or x.words (word_place v) 0

    words : List ℕ
    words = x.words

    more : ℕ
    more = w + (x.count * 4 + 1) * 0x2_0000_0000

    go
        : (b : Bool) → eqb (w / 0x2_0000_0000) 2 ≡ b
        → Kept words (cond b (record { words = set words (word_place v) more; count = suc x.count }) x).words
    go true e = record {
      alike = λ k. elim (ℕ_discrete k (word_place v)) [
        | yes same ↦
            ap (λ (i : ℕ). record_bytes (tidy_word (get_or words i 0))) same
            ∙ numbered_bytes w x.count (eqb-true (w / 0x2_0000_0000) 2 e)
            ∙ ap (λ (u : ℕ). record_bytes (tidy_word u))
            (sym
            (ap (λ (i : ℕ). get_or (set words (word_place v) more) i 0) same
            ∙ get_or-set_same words (word_place v) more 0 (omega (arith, size))))
        | no apart ↦
            ap (λ (u : ℕ). record_bytes (tidy_word u)) (sym (get_or-set_other words (word_place v) k more 0 apart))
      ];
      size = length-set words (word_place v) more ∙ size;
    }
    go false e = record { alike = λ k. refl; size = size }

kept_record : (r : PatternRecord) (x : Numbering) → length x.words ≡ 16 → Kept x.words (number_record r x).words
kept_record Anything x size = record { alike = λ k. refl; size = size }
kept_record (Symbol a) x size = record { alike = λ k. refl; size = size }
kept_record (Series l h) x size = record { alike = λ k. refl; size = size }
kept_record (Gauged g l h) x size = record { alike = λ k. refl; size = size }
kept_record (Range l h) x size = record { alike = λ k. refl; size = size }
kept_record (Compound a n) x size = record { alike = λ k. refl; size = size }
kept_record (Variable v) x size = kept_at v x size
kept_record (Ranged v l h) x size = kept_at v x size

kept_records : (x : Numbering) (rs : List PatternRecord) → length x.words ≡ 16 → Alike x.words (number_records x rs).words
kept_records x [] size k = refl
kept_records x (r ∷ rs) size k =
    let one = kept_record r x size in one.alike k ∙ kept_records (number_record r x) rs one.size k

bytes_alike : (xs ys : List ℕ) → Alike xs ys → (r : PatternRecord) → record_bytes (tidy_in xs r) ≡ record_bytes (tidy_in ys r)
bytes_alike xs ys same Anything = refl
bytes_alike xs ys same (Symbol a) = refl
bytes_alike xs ys same (Series l h) = refl
bytes_alike xs ys same (Gauged g l h) = refl
bytes_alike xs ys same (Range l h) = refl
bytes_alike xs ys same (Compound a n) = refl
bytes_alike xs ys same (Variable v) = same (word_place v)
bytes_alike xs ys same (Ranged v l h) = same (word_place v)

spelling_alike
    : (xs ys : List ℕ) → Alike xs ys → (rs : List PatternRecord) → length (tidy_spelling xs rs) ≡ length (tidy_spelling ys rs)
spelling_alike xs ys same [] = refl
spelling_alike xs ys same (r ∷ rs) =
    omega (
      arith,
      first_spelled (tidy_in xs r) (map (tidy_in xs) rs),
      first_spelled (tidy_in ys r) (map (tidy_in ys) rs),
      bytes_alike xs ys same r,
      spelling_alike xs ys same rs,
    )

pub same_size : (rs : List PatternRecord) → length (tidy_spelling (met_in rs) rs) ≡ length (tidy_row rs)
same_size rs =
    spelling_alike (met_in rs) (numbered_in rs)
    (kept_records (record { words = met_in rs; count = 0 }) rs (met_sixteen rs)) rs
    ∙ ap length (sym (row_is rs))
