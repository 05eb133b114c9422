-- A note as one number of 64 bits, so that the notes of a rule are one array. From the highest bits down: the place, the kind of
-- the record (its kind byte less 0x20), the gauge or the variable (8 bits) and two fields of 16 bits. A variable is read from the
-- lower 4 of these 8 bits, so that in every number it is 0 to 15.
use Rattle.std.specs.Prelude.{cond, ℕ, ◌+◌, ◌*◌, ◌/◌, ◌%◌, ◌<◌, eqb}
use Rattle.terms.specs.Term.{Wide}
use Rattle.patterns.specs.declared.PatternRecord.{PatternRecord}
use Rattle.patterns.specs.declared.PatternRecord.TheVariants.{Anything, Symbol, Range, Compound, Variable}
use Rattle.patterns.specs.declared.PatternRecord.TheVariants.{Ranged, Series, Gauged}
use Rattle.patterns.specs.views.Note.{Note, note}

abbrev pub packed_note : ℕ → ℕ → ℕ → ℕ → ℕ → ℕ
packed_note place kind byte first second =
    (((place * 8 + kind) * 256 + byte) * 0x1_0000 + first) * 0x1_0000 + second

-- The number of a note: of a record at place n.
abbrev pub record_code : ℕ → PatternRecord → ℕ
record_code n Anything = packed_note n 0 0 0 0
record_code n (Symbol a) = packed_note n 1 0 a 0
record_code n (Range l h) = packed_note n 2 0 l h
record_code n (Compound a k) = packed_note n 3 0 a k
record_code n (Variable v) = packed_note n 4 v 0 0
record_code n (Ranged v l h) = packed_note n 5 v l h
record_code n (Series l h) = packed_note n 6 0 l h
record_code n (Gauged g l h) = packed_note n 7 g l h

abbrev pub note_code : Note → ℕ
note_code n = record_code n.place n.what

-- The fields of a record fit the bits that are there for them.
abbrev pub Fitting : PatternRecord → Type 0
Fitting Anything = Unit
Fitting (Symbol a) = Wide a
Fitting (Range l h) = Wide l × Wide h
Fitting (Compound a k) = Wide a × (k < 256)
Fitting (Variable v) = v < 16
Fitting (Ranged v l h) = (v < 16) × Wide l × Wide h
Fitting (Series l h) = Wide l × Wide h
Fitting (Gauged g l h) = (g < 256) × Wide l × Wide h

-- The parts of a number so made.
abbrev pub code_place : ℕ → ℕ
code_place c = c / 0x800_0000_0000

abbrev pub code_kind : ℕ → ℕ
code_kind c = c / 0x100_0000_0000 % 8

abbrev pub code_variable : ℕ → ℕ
code_variable c = c / 0x1_0000_0000 % 16

abbrev pub code_gauge : ℕ → ℕ
code_gauge c = c / 0x1_0000_0000 % 256

abbrev pub code_first : ℕ → ℕ
code_first c = c / 0x1_0000 % 0x1_0000

abbrev pub code_second : ℕ → ℕ
code_second c = c % 0x1_0000

-- The record and the note that a number stands for. An arity is one byte.
unfoldable pub code_record : ℕ → PatternRecord
code_record c =
    cond (eqb (code_kind c) 1) (Symbol (code_first c))
    (cond (eqb (code_kind c) 2) (Range (code_first c) (code_second c))
    (cond (eqb (code_kind c) 3) (Compound (code_first c) (c % 256))
    (cond (eqb (code_kind c) 4) (Variable (code_variable c))
    (cond (eqb (code_kind c) 5) (Ranged (code_variable c) (code_first c) (code_second c))
    (cond (eqb (code_kind c) 6) (Series (code_first c) (code_second c))
    (cond (eqb (code_kind c) 7) (Gauged (code_gauge c) (code_first c) (code_second c))
    Anything))))))

abbrev pub note_of : ℕ → Note
note_of c = note (code_place c) (code_record c)
