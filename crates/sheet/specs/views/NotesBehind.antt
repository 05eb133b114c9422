-- What reading comes to, as what is held with the notes that are made, note by note.
use Rattle.std.specs.Prelude.{ℕ, List, [], ◌∷◌, ◌++◌}
use Rattle.records.specs.Reading.{Reading, map_reading}
use Rattle.terms.specs.Pattern.{Pattern, Patterns}
use Rattle.patterns.specs.declared.PatternRecord.{PatternRecord}
use Rattle.sheet.specs.ReadSheet.{read_pattern, read_patterns}
use Rattle.patterns.specs.views.Note.{Note}
use Rattle.sheet.specs.views.Noted.{pattern_notes, patterns_notes}
use Rattle.patterns.specs.views.PatternRecord.{read_leaf}

module _ {A : Type 0} (put : A → Note → A) where
  -- What is held, with notes put one after another.
  abbrev pub held_with : A → List Note → A
  held_with held [] = held
  held_with held (n ∷ notes) = held_with (put held n) notes

  -- With a record that has no level below it, at a place.
  abbrev pub leaf_held : ℕ → A → PatternRecord → Reading A
  leaf_held place held what = map_reading (λ (p : Pattern). held_with held (pattern_notes p 0 place)) (read_leaf what)

  -- With a pattern with so many levels below it, at a place.
  abbrev pub pattern_held : ℕ → ℕ → A → List ℕ → Reading A
  pattern_held below place held s =
      map_reading (λ (p : Pattern). held_with held (pattern_notes p below place)) (read_pattern below s)

  -- With so many patterns in a row, of which the first stands at a place.
  abbrev pub row_held : ℕ → ℕ → ℕ → A → List ℕ → Reading A
  row_held below count place held s =
      map_reading (λ (ps : Patterns). held_with held (patterns_notes ps below place)) (read_patterns below count s)

-- A note put behind the notes before it.
abbrev pub behind : List Note → Note → List Note
behind before n = before ++ (n ∷ [])
