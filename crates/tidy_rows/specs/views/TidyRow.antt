-- The tidy form of a rule from its records in a row.
use Rattle.std.specs.Prelude.{ℕ, ◌/◌, ◌%◌, cond, List, [], ◌∷◌, ◌++◌, map, eqb, ltb, get_or}
use Rattle.patterns.specs.declared.PatternRecord.{PatternRecord}
use Rattle.patterns.specs.declared.PatternRecord.TheVariants.{Anything, Symbol, Series, Range, Gauged, Compound, Variable, Ranged}
use Rattle.patterns.specs.views.PatternRecord.{series_record, gauged_record, record_spelling, records_spelling}
use Rattle.rule_rows.specs.views.Words.{word_low, word_high, word_uses, word_place}
use Rattle.rule_rows.specs.views.Words.{fresh_words, met_records, Numbering, number_record}

-- What a variable becomes, by its word.
unfoldable pub tidy_word : ℕ → PatternRecord
tidy_word w =
    cond (ltb (word_uses w) 2)
    (cond (eqb (word_high w) 0x1_0000) Anything (Range (word_low w) (w / 0x1_0000 % 0x1_0000)))
    (cond (eqb (word_high w) 0x1_0000)
    (Variable (w / 0x8_0000_0000 % 256))
    (Ranged (w / 0x8_0000_0000 % 256) (word_low w) (w / 0x1_0000 % 0x1_0000)))

-- What a record becomes.
abbrev pub tidy_in : List ℕ → PatternRecord → PatternRecord
tidy_in words Anything = Anything
tidy_in words (Symbol a) = Symbol a
tidy_in words (Series l h) = series_record l h
tidy_in words (Range l h) = Range l h
tidy_in words (Gauged g l h) = gauged_record g l h
tidy_in words (Compound a n) = Compound a n
tidy_in words (Variable v) = tidy_word (get_or words (word_place v) 0)
tidy_in words (Ranged v l h) = tidy_word (get_or words (word_place v) 0)

-- The bytes of records with what their variables become.
abbrev pub tidy_spelling : List ℕ → List PatternRecord → List ℕ
tidy_spelling words rs = records_spelling (map (tidy_in words) rs)

-- The same, where a repeated variable gets its new number as it first comes.
abbrev pub tidy_onward : Numbering → List PatternRecord → List ℕ
tidy_onward x [] = []
tidy_onward x (r ∷ rs) = record_spelling (tidy_in (number_record r x).words r) ++ tidy_onward (number_record r x) rs

-- What is known of the variables of a rule's records, before they have numbers.
abbrev pub met_in : List PatternRecord → List ℕ
met_in rs = met_records fresh_words rs

-- The tidy form of a rule.
abbrev pub tidy_row : List PatternRecord → List ℕ
tidy_row rs = tidy_onward (record { words = met_in rs; count = 0 }) rs
