-- The record of a term that a list of bytes begins with, as the code hands it on, and what it is read as.
use Rattle.std.specs.Prelude.{ℕ, Bool, true, false, cond, List, length, get_or, leb, eqb, Result, Ok, Err}
use Rattle.records.specs.Fields.{wide_at}
use Rattle.records.specs.Reading.{Reading, took, ask}
use Rattle.records.specs.Refusals.{reading_in}
use Rattle.records.specs.declared.refusal.Refusal.{Refusal}
use Rattle.records.specs.declared.refusal.Refusal.TheVariants.{NotATerm}
use Rattle.terms.specs.Term.{Term, on_gauge, unknown, never, symbol, number, numbers}
use Rattle.piece.specs.declared.TermRecord.{TermRecord}
use Rattle.piece.specs.declared.TermRecord.TheVariants.{Unknown, Symbol, Number, Compound, Span, Never, Gauged}

-- "A record is one kind byte and a body whose length the kind fixes": whole where so many bytes are there.
abbrev pub whole_if : Bool → TermRecord → Result TermRecord Refusal
whole_if true r = Ok r
whole_if false r = Err NotATerm

-- "14 Is each term a whole record of kinds 30 to 33?" Of records 34 and 35: "Question 14 admits it"; of 36: "Questions 4, 7 and 14
-- take the new records in".
abbrev pub term_head : List ℕ → Result TermRecord Refusal
term_head s =
    cond (eqb (length s) 0) (Err NotATerm)
    (cond (eqb (get_or s 0 0) 0x30) (Ok Unknown)
    (cond (eqb (get_or s 0 0) 0x31) (whole_if (leb 3 (length s)) (Symbol (wide_at s 1)))
    (cond (eqb (get_or s 0 0) 0x32) (whole_if (leb 3 (length s)) (Number (wide_at s 1)))
    (cond (eqb (get_or s 0 0) 0x33) (whole_if (leb 4 (length s)) (Compound (wide_at s 1) (get_or s 3 0)))
    (cond (eqb (get_or s 0 0) 0x34) (whole_if (leb 5 (length s)) (Span (wide_at s 1) (wide_at s 3)))
    (cond (eqb (get_or s 0 0) 0x35) (Ok Never)
    (cond (eqb (get_or s 0 0) 0x36) (whole_if (leb 4 (length s)) (Gauged (get_or s 1 0) (wide_at s 2)))
    (Err NotATerm))))))))

-- A compound goes on by compound_of; "a span with low above high is refused (32)".
abbrev pub on_record : (ℕ → ℕ → Reading Term) → TermRecord → Reading Term
on_record compound_of Unknown = took 1 unknown
on_record compound_of (Symbol a) = took 3 (symbol a)
on_record compound_of (Number a) = took 3 (number a)
on_record compound_of (Compound a n) = compound_of a n
on_record compound_of (Span l h) = ask 32 (leb l h) (took 5 (numbers l h))
on_record compound_of Never = took 1 never
on_record compound_of (Gauged g a) = took 4 (number (on_gauge g a))

abbrev pub on_head : (ℕ → ℕ → Reading Term) → Result TermRecord Refusal → Reading Term
on_head compound_of r = reading_in (on_record compound_of) r
