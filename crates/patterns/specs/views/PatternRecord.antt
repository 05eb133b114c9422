-- The record of a pattern that a list of bytes begins with, as the code hands it on, and what it is read as.
use Rattle.std.specs.Prelude.{ℕ, ◌+◌, ◌%◌, Bool, true, false, cond, List, [], ◌∷◌, ◌++◌, length, get_or, leb, eqb, Result, Ok, Err}
use Rattle.records.specs.Fields.{wide_at, wide_then}
use Rattle.records.specs.Reading.{Reading, took, refused, ask}
use Rattle.terms.specs.Pattern.{Pattern, anything, the_symbol, the_series, the_range, the_gauged, variable, ranged_variable}
use Rattle.patterns.specs.declared.PatternRecord.{PatternRecord}
use Rattle.patterns.specs.declared.PatternRecord.TheVariants.{Anything, Symbol, Range, Compound, Variable}
use Rattle.patterns.specs.declared.PatternRecord.TheVariants.{Ranged, Series, Gauged}
use Rattle.records.specs.Refusals.{number}
use Rattle.records.specs.declared.refusal.Refusal.{Refusal}
use Rattle.records.specs.declared.refusal.Refusal.TheVariants.{NotAPattern}

-- The record that bytes begin with, or the question that got a no.
abbrev pub PatternHead : Type 0
PatternHead = Result PatternRecord Refusal

-- "A record is one kind byte and a body whose length the kind fixes": so many bytes.
abbrev pub record_bytes : PatternRecord → ℕ
record_bytes Anything = 1
record_bytes (Symbol a) = 3
record_bytes (Range l h) = 5
record_bytes (Compound a n) = 4
record_bytes (Variable v) = 2
record_bytes (Ranged v l h) = 6
record_bytes (Series l h) = 5
record_bytes (Gauged g l h) = 6

-- The record of a series in one form: the series of one symbol is that symbol.
abbrev pub series_record : ℕ → ℕ → PatternRecord
series_record l h = cond (eqb l h) (Symbol l) (Series l h)

-- And that of a range on a gauge: on gauge 0 it is a range.
abbrev pub gauged_record : ℕ → ℕ → ℕ → PatternRecord
gauged_record g l h = cond (eqb g 0) (Range l h) (Gauged g l h)

-- The bytes that spell a record.
abbrev pub record_spelling : PatternRecord → List ℕ
record_spelling Anything = 0x20 ∷ []
record_spelling (Symbol a) = 0x21 ∷ wide_then a []
record_spelling (Range l h) = 0x22 ∷ wide_then l (wide_then h [])
record_spelling (Compound a n) = 0x23 ∷ wide_then a (n ∷ [])
record_spelling (Variable v) = 0x24 ∷ v ∷ []
record_spelling (Ranged v l h) = 0x25 ∷ v ∷ wide_then l (wide_then h [])
record_spelling (Series l h) = 0x26 ∷ wide_then l (wide_then h [])
record_spelling (Gauged g l h) = 0x27 ∷ g ∷ wide_then l (wide_then h [])

-- The bytes that spell records in a row.
abbrev pub records_spelling : List PatternRecord → List ℕ
records_spelling [] = []
records_spelling (r ∷ rs) = record_spelling r ++ records_spelling rs

-- Whole where its bytes are there.
abbrev pub whole_if : Bool → PatternRecord → PatternHead
whole_if true r = Ok r
whole_if false r = Err NotAPattern

-- An id: of a compound, of kind 23, or of a symbol, of kind 21.
abbrev pub id_head : Bool → List ℕ → PatternHead
id_head true s = whole_if (leb 4 (length s)) (Compound (wide_at s 1) (get_or s 3 0))
id_head false s = whole_if (leb 3 (length s)) (Symbol (wide_at s 1))

-- Two ends: a range of kind 22, a ranged variable of kind 25, a series of kind 26, a range on a gauge of kind 27.
abbrev pub ends_record : ℕ → ℕ → ℕ → ℕ → PatternRecord
ends_record kind byte low high =
    cond (eqb kind 0x22) (Range low high)
    (cond (eqb kind 0x25) (Ranged byte low high)
    (cond (eqb kind 0x26) (Series low high)
    (Gauged byte low high)))

-- Of an odd kind they stand behind one byte more.
abbrev pub ends_from : ℕ → ℕ → List ℕ → PatternHead
ends_from at kind s = whole_if (leb (at + 4) (length s)) (ends_record kind (get_or s 1 0) (wide_at s at) (wide_at s (at + 2)))

abbrev pub ends_head : ℕ → List ℕ → PatternHead
ends_head kind s = ends_from (kind % 2 + 1) kind s

-- "4 Is it a whole record of kinds 20 to 25?" Of kind 26: "Question 4 admits it" (document 02, request 5); of kind 27:
-- "Questions 4, 7 and 14 take the new records in" (request 7).
abbrev pub pattern_head : List ℕ → PatternHead
pattern_head s =
    cond (eqb (length s) 0) (Err NotAPattern)
    (cond (eqb (get_or s 0 0) 0x20) (Ok Anything)
    (cond (eqb (get_or s 0 0) 0x21) (whole_if (leb 3 (length s)) (Symbol (wide_at s 1)))
    (cond (eqb (get_or s 0 0) 0x22) (whole_if (leb 5 (length s)) (Range (wide_at s 1) (wide_at s 3)))
    (cond (eqb (get_or s 0 0) 0x23) (whole_if (leb 4 (length s)) (Compound (wide_at s 1) (get_or s 3 0)))
    (cond (eqb (get_or s 0 0) 0x24) (whole_if (leb 2 (length s)) (Variable (get_or s 1 0)))
    (cond (eqb (get_or s 0 0) 0x25) (whole_if (leb 6 (length s)) (Ranged (get_or s 1 0) (wide_at s 2) (wide_at s 4)))
    (cond (eqb (get_or s 0 0) 0x26) (whole_if (leb 5 (length s)) (Series (wide_at s 1) (wide_at s 3)))
    (cond (eqb (get_or s 0 0) 0x27) (whole_if (leb 6 (length s)) (Gauged (get_or s 1 0) (wide_at s 2) (wide_at s 4)))
    (Err NotAPattern)))))))))

-- "7 Is low at most high? 8 Is the variable 0 to 15?", asked in this order; a compound goes on by compound_of.
abbrev pub on_record : (ℕ → ℕ → Reading Pattern) → PatternRecord → Reading Pattern
on_record compound_of Anything = took 1 anything
on_record compound_of (Symbol a) = took 3 (the_symbol a)
on_record compound_of (Range l h) = ask 7 (leb l h) (took 5 (the_range l h))
on_record compound_of (Compound a n) = compound_of a n
on_record compound_of (Variable v) = ask 8 (leb v 15) (took 2 (variable v))
on_record compound_of (Ranged v l h) = ask 7 (leb l h) (ask 8 (leb v 15) (took 6 (ranged_variable v l h)))
on_record compound_of (Series l h) = ask 7 (leb l h) (took 5 (the_series l h))
on_record compound_of (Gauged g l h) = ask 7 (leb l h) (took 6 (the_gauged g l h))

-- "5 If compound, is its depth at most 3?" It is 4 where no level is below.
abbrev pub read_leaf : PatternRecord → Reading Pattern
read_leaf what = on_record (λ a n. refused 5) what

abbrev pub on_head : (ℕ → ℕ → Reading Pattern) → PatternHead → Reading Pattern
on_head compound_of (Ok r) = on_record compound_of r
on_head compound_of (Err r) = refused (number r)
