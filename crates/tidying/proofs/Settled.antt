-- A number once given stays, so a variable may be written as soon as it has its number.
use Prim.Native.Nat.{ℕ, suc, ◌+◌, ◌*◌, ◌/◌}
use mathlib.Core.Path.{◌≡◌, refl, sym, ap, ◌∙◌}
use mathlib.Core.Bool.{Bool, true, false, cond}
use mathlib.Core.List.{List, [], ◌∷◌, ◌++◌}
use native.Mathlib.Decide.{ℕ_discrete}
use native.Mathlib.Omega.{arith}
use lib.Dec.{eqb}
use lib.ListN.{length, get_or, set, length-set}
use lib.Seq.{get_or-set_same, get_or-set_other}
use borrow.Author.Tests.{eqb-true, eqb-false}
use Rattle.patterns.specs.declared.PatternRecord.{PatternRecord}
use Rattle.patterns.specs.declared.PatternRecord.TheVariants.{Anything, Symbol, Series, Range, Compound, Variable, Ranged, Gauged}
use Rattle.patterns.specs.views.PatternRecord.{record_spelling}
use Rattle.rule_rows.specs.views.Words.{fresh_words, word_place, met_record, met_records, Numbering, numbered_at, number_record}
use Rattle.tidy_rows.specs.views.TidyRow.{tidy_word, tidy_in, tidy_spelling, tidy_onward, met_in, tidy_row}

-- The numbers that records give, and those of a rule's records.
abbrev pub number_records : Numbering → List PatternRecord → Numbering
number_records x [] = x
number_records x (r ∷ rs) = number_records (number_record r x) rs

abbrev pub numbered_in : List PatternRecord → List ℕ
numbered_in rs = (number_records (record { words = met_in rs; count = 0 }) rs).words

-- A word that waits for no number.
abbrev Settled : List ℕ → ℕ → Type 0
Settled words k = get_or words k 0 / 0x2_0000_0000 ≡ 2 → ⊥

-- What giving a number to variable v leaves: 16 words, the settled ones as they were, and that of v settled.
record Given (v : ℕ) (words after : List ℕ) : Type 0 where
  size : length after ≡ 16
  stays : (k : ℕ) → Settled words k → get_or after k 0 ≡ get_or words k 0
  settled : Settled after (word_place v)

given_at : (v : ℕ) (x : Numbering) → length x.words ≡ 16 → Given v x.words (numbered_at v x).words
given_at v x size = go (eqb (w / 0x2_0000_0000) 2) refl
  where
    words : List ℕ
    words = x.words

    w : ℕ
    w = get_or words (word_place v) 0

    more : ℕ
    more = w + (x.count * 4 + 1) * 0x2_0000_0000

    go
        : (b : Bool) → eqb (w / 0x2_0000_0000) 2 ≡ b
        → Given v words (cond b (record { words = set words (word_place v) more; count = suc x.count }) x).words
    go true e =
        let two = eqb-true (w / 0x2_0000_0000) 2 e in
        let now : get_or (set words (word_place v) more) (word_place v) 0 ≡ more = get_or-set_same words (word_place v) more 0 (omega (arith, size)) in
        record {
          size = length-set words (word_place v) more ∙ size;
          stays = λ k settled. elim (ℕ_discrete k (word_place v)) [
            | yes same ↦ absurd (settled (ap (λ (i : ℕ). get_or words i 0 / 0x2_0000_0000) same ∙ two))
            | no apart ↦ get_or-set_other words (word_place v) k more 0 apart
          ];
          settled = λ h. omega (arith, two, ap (λ (u : ℕ). u / 0x2_0000_0000) now);
        }
    go false e = record { size = size; stays = λ k settled. refl; settled = eqb-false (w / 0x2_0000_0000) 2 e }

-- What a record leaves: 16 words, and the settled ones as they were.
pub record Kept (words after : List ℕ) : Type 0 where
  pub size : length after ≡ 16
  pub stays : (k : ℕ) → (get_or words k 0 / 0x2_0000_0000 ≡ 2 → ⊥) → get_or after k 0 ≡ get_or words k 0

kept_record : (r : PatternRecord) (x : Numbering) → length x.words ≡ 16 → Kept x.words (number_record r x).words
kept_record Anything x size = record { size = size; stays = λ k h. refl }
kept_record (Symbol a) x size = record { size = size; stays = λ k h. refl }
kept_record (Series l h) x size = record { size = size; stays = λ k n. refl }
kept_record (Gauged g l h) x size = record { size = size; stays = λ k n. refl }
kept_record (Range l h) x size = record { size = size; stays = λ k h. refl }
kept_record (Compound a n) x size = record { size = size; stays = λ k h. refl }
kept_record (Variable v) x size = let g = given_at v x size in record { size = g.size; stays = g.stays }
kept_record (Ranged v l h) x size = let g = given_at v x size in record { size = g.size; stays = g.stays }

Stays-on
    : (x : Numbering) (rs : List PatternRecord) (k : ℕ) → length x.words ≡ 16 → Settled x.words k
    → get_or (number_records x rs).words k 0 ≡ get_or x.words k 0
Stays-on x [] k size settled = refl
Stays-on x (r ∷ rs) k size settled =
    let one = kept_record r x size in
    let same = one.stays k settled in
    Stays-on (number_record r x) rs k one.size (λ h. settled (sym (ap (λ (u : ℕ). u / 0x2_0000_0000) same) ∙ h)) ∙ same

-- The record as it is written now is what it becomes by all numbers.
now_as_last
    : (r : PatternRecord) (x : Numbering) (rs : List PatternRecord) → length x.words ≡ 16
    → tidy_in (number_record r x).words r ≡ tidy_in (number_records (number_record r x) rs).words r
now_as_last Anything x rs size = refl
now_as_last (Symbol a) x rs size = refl
now_as_last (Series l h) x rs size = refl
now_as_last (Gauged g l h) x rs size = refl
now_as_last (Range l h) x rs size = refl
now_as_last (Compound a n) x rs size = refl
now_as_last (Variable v) x rs size =
    let g = given_at v x size in ap tidy_word (sym (Stays-on (numbered_at v x) rs (word_place v) g.size g.settled))
now_as_last (Ranged v l h) x rs size =
    let g = given_at v x size in ap tidy_word (sym (Stays-on (numbered_at v x) rs (word_place v) g.size g.settled))

onward_is
    : (x : Numbering) (rs : List PatternRecord) → length x.words ≡ 16
    → tidy_onward x rs ≡ tidy_spelling (number_records x rs).words rs
onward_is x [] size = refl
onward_is x (r ∷ rs) size =
    λ j.
    record_spelling (now_as_last r x rs size j) ++ onward_is (number_record r x) rs (kept_record r x size).size j

-- What is known keeps its 16 words.
met_size : (words : List ℕ) (rs : List PatternRecord) → length words ≡ 16 → length (met_records words rs) ≡ 16
met_size words [] size = size
met_size words (r ∷ rs) size = met_size (met_record words r) rs (go r)
  where
    go : (r : PatternRecord) → length (met_record words r) ≡ 16
    go Anything = size
    go (Symbol a) = size
    go (Series l h) = size
    go (Gauged g l h) = size
    go (Range l h) = size
    go (Compound a n) = size
    go (Variable v) = length-set words (word_place v) _ ∙ size
    go (Ranged v l h) = length-set words (word_place v) _ ∙ size

pub met_sixteen : (rs : List PatternRecord) → length (met_in rs) ≡ 16
met_sixteen rs = met_size fresh_words rs refl

-- So a rule's tidy form is that by all its numbers.
pub row_is : (rs : List PatternRecord) → tidy_row rs ≡ tidy_spelling (numbered_in rs) rs
row_is rs = onward_is (record { words = met_in rs; count = 0 }) rs (met_sixteen rs)
