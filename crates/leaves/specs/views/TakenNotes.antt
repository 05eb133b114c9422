-- The notes of a rule that was read again, as they are handed back.
use Rattle.std.specs.Prelude.{ℕ, List, Result, Ok, Err}
use Rattle.std.proofs.Math.Option.{Option, some, none}
use Rattle.sheet.specs.declared.Took.{Took}
use Rattle.records.specs.declared.refusal.Refusal.{Refusal}
use Rattle.patterns.specs.views.Note.{Note}
use Rattle.sheet.specs.views.NoteArray.{notes_in}

-- How many notes the rule made.
abbrev pub notes_taken : Result Took Refusal → ℕ
notes_taken (Ok t) = t.notes
notes_taken (Err r) = 0

-- The notes, where the rule was not refused.
abbrev pub taken_notes : List ℕ → Result Took Refusal → Option (List Note)
taken_notes notes (Ok t) = some (notes_in notes t.notes)
taken_notes notes (Err r) = none
