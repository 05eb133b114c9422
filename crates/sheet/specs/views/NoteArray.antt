-- What the reader leaves in its array of notes.
use Rattle.std.specs.Prelude.{ℕ, ◌≤◌, ◌≡◌, List, map, length, take, Result, Ok, Err}
use Rattle.records.specs.Reading.{Reading, took}
use Rattle.records.specs.Refusals.{reading_in}
use Rattle.records.specs.declared.refusal.Refusal.{Refusal}
use Rattle.sheet.specs.declared.Took.{Took}
use Rattle.patterns.specs.views.Note.{Note}
use Rattle.patterns.specs.views.NoteCode.{note_of}

-- The first n notes of an array.
unfoldable pub notes_in : List ℕ → ℕ → List Note
notes_in codes n = map note_of (take n codes)

-- What was read, as what is held where there are n notes.
abbrev pub took_as : {A : Type 0} → (ℕ → A) → Result Took Refusal → Reading A
took_as held = reading_in (λ t. took t.bytes (held t.notes))

-- What was read, as notes. After a refusal the array holds nothing of use.
abbrev pub took_notes : List ℕ → Result Took Refusal → Reading (List Note)
took_notes codes r = took_as (notes_in codes) r

-- The bytes used and the notes made, none where there was a refusal.
abbrev pub bytes_used : Result Took Refusal → ℕ
bytes_used (Ok t) = t.bytes
bytes_used (Err r) = 0

abbrev pub notes_made : Result Took Refusal → ℕ
notes_made (Ok t) = t.notes
notes_made (Err r) = 0

-- The reader used at most so many bytes and made at most so many notes, and the array has its 680 entries.
pub record TookWithin (bytes notes : ℕ) (codes : List ℕ) (r : Result Took Refusal) : Type 0 where
  pub used : bytes_used r ≤ bytes
  pub made : notes_made r ≤ notes
  pub entries : length codes ≡ 680
