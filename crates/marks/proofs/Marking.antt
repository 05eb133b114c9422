-- What is marked and noted of a rule while it is read.
use Prim.Native.Nat.{ℕ}
use mathlib.Core.List.{List}
use Rattle.patterns.specs.views.Note.{Note}
use Rattle.marks.specs.views.Marks.{Marks}

-- A set, and names beside it.
abbrev pub beside : List ℕ → List Note → Marks
beside words names = record { words = words; names = names }
