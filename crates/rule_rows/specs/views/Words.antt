-- What is known of each variable of a rule, one number of 64 bits a variable. From the highest bits down: its new number, how often
-- it stands (2 bits: 2 is twice or more, and 3 that with its number given), the high end of its common range (17 bits, 65,536 where
-- it has no range) and the low end (16 bits).
use Rattle.std.specs.Prelude.{ℕ, suc, ◌+◌, ◌*◌, ◌/◌, ◌%◌, min, max, cond, List, [], ◌∷◌, eqb, get_or, set, replicate}
use Rattle.patterns.specs.declared.PatternRecord.{PatternRecord}
use Rattle.patterns.specs.declared.PatternRecord.TheVariants.{Anything, Symbol, Series, Range, Gauged, Compound, Variable, Ranged}

abbrev pub packed_word : ℕ → ℕ → ℕ → ℕ → ℕ
packed_word number uses high low = ((number * 4 + uses) * 0x2_0000 + high) * 0x1_0000 + low

abbrev pub word_low : ℕ → ℕ
word_low w = w % 0x1_0000

abbrev pub word_high : ℕ → ℕ
word_high w = w / 0x1_0000 % 0x2_0000

abbrev pub word_uses : ℕ → ℕ
word_uses w = w / 0x2_0000_0000 % 4

-- No use, and no range.
abbrev pub fresh_word : ℕ
fresh_word = 0x1_0000_0000

abbrev pub fresh_words : List ℕ
fresh_words = replicate 16 fresh_word

-- One more use, with a range.
unfoldable pub met_word : ℕ → ℕ → ℕ → ℕ
met_word w l h = packed_word 0 (min 2 (suc (word_uses w))) (min (word_high w) h) (max (word_low w) l)

-- The word of a variable, which is one of 16.
abbrev pub word_place : ℕ → ℕ
word_place v = v % 16

-- What is known after a record, and after records in a row.
abbrev pub met_at : List ℕ → ℕ → ℕ → ℕ → List ℕ
met_at words v l h = set words (word_place v) (met_word (get_or words (word_place v) 0) l h)

abbrev pub met_record : List ℕ → PatternRecord → List ℕ
met_record words Anything = words
met_record words (Symbol a) = words
met_record words (Series l h) = words
met_record words (Range l h) = words
met_record words (Gauged g l h) = words
met_record words (Compound a n) = words
met_record words (Variable v) = met_at words v 0 0x1_0000
met_record words (Ranged v l h) = met_at words v l h

abbrev pub met_records : List ℕ → List PatternRecord → List ℕ
met_records words [] = words
met_records words (r ∷ rs) = met_records (met_record words r) rs

-- Words some of whose variables have new numbers, and how many.
pub record Numbering : Type 0 where
  pub words : List ℕ
  pub count : ℕ

-- A variable that is repeated and has no number yet gets the next one.
abbrev pub numbered_word : ℕ → ℕ → Numbering → Numbering
numbered_word v w x =
    cond (eqb (w / 0x2_0000_0000) 2)
    (record { words = set x.words (word_place v) (w + (x.count * 4 + 1) * 0x2_0000_0000); count = suc x.count })
    x

abbrev pub numbered_at : ℕ → Numbering → Numbering
numbered_at v x = numbered_word v (get_or x.words (word_place v) 0) x

abbrev pub number_record : PatternRecord → Numbering → Numbering
number_record Anything x = x
number_record (Symbol a) x = x
number_record (Series l h) x = x
number_record (Range l h) x = x
number_record (Gauged g l h) x = x
number_record (Compound a n) x = x
number_record (Variable v) x = numbered_at v x
number_record (Ranged v l h) x = numbered_at v x
