-- A rule as it is kept while it is read: the places of its symbols, series, ranges and compounds in a set with the places before
-- them, and its variables as notes.
use Rattle.std.specs.Prelude.{ℕ, ◌/◌, ◌%◌, ◌||◌, List, [], ◌∷◌, ◌++◌, eqb, get_or, set}
use Rattle.masks.specs.Mask.{has, mask_of}
use Rattle.patterns.specs.declared.PatternRecord.{PatternRecord}
use Rattle.patterns.specs.declared.PatternRecord.TheVariants.{Anything, Symbol, Range, Compound, Variable, Ranged, Series, Gauged}
use Rattle.patterns.specs.views.Note.{Note}
use Rattle.sheet.specs.views.NoteArray.{notes_in}

-- The words of a set of places, with place n: bit n % 64 of word n / 64.
abbrev pub with_place : List ℕ → ℕ → List ℕ
with_place words n = set words (n / 64) (mask_of 64 (λ j. has (get_or words (n / 64) 0) j || eqb (n % 64) j))

pub record Marks : Type 0 where
  pub words : List ℕ
  pub names : List Note

-- With a place, and with a variable.
abbrev pub placed : Marks → ℕ → Marks
placed m n = record { words = with_place m.words n; names = m.names }

abbrev pub named : Marks → Note → Marks
named m n = record { words = m.words; names = m.names ++ (n ∷ []) }

-- With a note.
abbrev pub mark_of : PatternRecord → Marks → Note → Marks
mark_of Anything m n = m
mark_of (Symbol a) m n = placed m n.place
mark_of (Range l h) m n = placed m n.place
mark_of (Compound a k) m n = placed m n.place
mark_of (Variable v) m n = named m n
mark_of (Ranged v l h) m n = named m n
mark_of (Series l h) m n = placed m n.place
mark_of (Gauged g l h) m n = placed m n.place

abbrev pub marked : Marks → Note → Marks
marked m n = mark_of n.what m n

-- What the arrays hold.
abbrev pub marks_in : List ℕ → List ℕ → ℕ → Marks
marks_in words notes n = record { words = words; names = notes_in notes n }
