-- What a variable's word says: its parts, and the word with one more use or with a number.
use Prim.Native.Nat.{ℕ, suc, ◌+◌, ◌*◌, ◌/◌, ◌%◌, ◌<◌, min, max}
use mathlib.Core.Path.{◌≡◌, sym, ap, ◌∙◌}
use mathlib.Core.Bool.{Bool, cond}
use mathlib.Core.List.{List}
use native.Mathlib.Numerals.{add-one}
use native.Mathlib.Omega.{arith}
use lib.ListN.{set}
use borrow.Author.Tests.{eq-eqb, ne_eqb}
use Rattle.rule_rows.specs.views.Words.{packed_word, word_low, word_high, word_uses, word_place, met_word, Numbering, numbered_word}

-- The parts of a word, whose fields fit their bits.
pub record Parts (n u h l : ℕ) : Type 0 where
  pub uses : word_uses (packed_word n u h l) ≡ u
  pub high : word_high (packed_word n u h l) ≡ h
  pub low : word_low (packed_word n u h l) ≡ l
  pub upper : packed_word n u h l / 0x2_0000_0000 ≡ n * 4 + u
  pub number : packed_word n u h l / 0x8_0000_0000 ≡ n

pub word_parts : (n u h l : ℕ) → u < 4 → h < 0x2_0000 → l < 0x1_0000 → Parts n u h l
word_parts n u h l small high low =
    record { uses = omega arith; high = omega arith; low = omega arith; upper = omega arith; number = omega arith }

-- Twice is as much as is counted.
pub one_more : (n : ℕ) → min 2 (suc (min 2 n)) ≡ min 2 (suc n)
one_more n = omega arith

-- A word with one more use, from its parts.
pub met_is
    : (w l h : ℕ) {uses most least : ℕ} → uses ≡ min (w / 0x2_0000_0000 % 4 + 1) 2 → most ≡ min (w / 0x1_0000 % 0x2_0000) h
    → least ≡ max (w % 0x1_0000) l → (uses * 0x2_0000 + most) * 0x1_0000 + least ≡ met_word w l h
unfolding met_word
met_is w l h {uses} {most} {least} u m b = omega (arith, u, m, b)

-- A variable gets the next number, or none.
module _ (v w : ℕ) (words : List ℕ) (count : ℕ) where
  abbrev before : Numbering
  before = record { words = words; count = count }

  pub number_none : (w / 0x2_0000_0000 ≡ 2 → ⊥) → before ≡ numbered_word v w before
  number_none no_more =
      sym
      (ap
      (λ (b : Bool).
      cond b
      (record { words = set words (word_place v) (w + (count * 4 + 1) * 0x2_0000_0000); count = suc count })
      before)
      (ne_eqb (w / 0x2_0000_0000) 2 no_more))

  pub number_given
      : w / 0x2_0000_0000 ≡ 2
      → record { words = set words (word_place v) (w + (count * 4 + 1) * 0x2_0000_0000); count = count + 1 } ≡ numbered_word v w before
  number_given is =
      (λ j. record { words = set words (word_place v) (w + (count * 4 + 1) * 0x2_0000_0000); count = add-one count j })
      ∙ sym
      (ap
      (λ (b : Bool).
      cond b
      (record { words = set words (word_place v) (w + (count * 4 + 1) * 0x2_0000_0000); count = suc count })
      before)
      (eq-eqb (w / 0x2_0000_0000) 2 is))
