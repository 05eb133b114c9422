-- Loops over the notes in an array that put the places of place tests into a list.
use Prim.Native.Nat.{ℕ, ◌+◌, ◌≤◌, ◌<◌}
use mathlib.Core.Path.{◌≡◌, sym, ap, ◌∙◌}
use mathlib.Core.Bool.{Bool, true, false}
use mathlib.Core.List.{List}
use lib.Dec.{ltb}
use lib.ListN.{length, get_or, drop}
use Rattle.basics.specs.Order.{insert_by}
use Rattle.patterns.specs.views.Note.{Note}
use Rattle.patterns.specs.views.NoteCode.{code_place, code_record}
use Rattle.sheet.specs.views.NoteArray.{notes_in}
use Rattle.pairs.proofs.NoteRows.{notes_next, notes_end}
use Rattle.sheet_tests.specs.views.TestedPlaces.{insert_all}
use Rattle.sheet_tests.specs.views.NoteTests.{is_tested, tested_places}
use Rattle.masks.proofs.Listed.{cons_if}

-- The places of the place tests from note i on, put into a list.
abbrev pub places_from : (ℕ → Bool) → List ℕ → ℕ → ℕ → List ℕ → List ℕ
places_from ranged codes n i l = insert_all (tested_places ranged (drop i (notes_in codes n))) l

module _ (ranged : ℕ → Bool) (codes : List ℕ) (n : ℕ) (within : n ≤ length codes) (i : ℕ) where
  -- A note that is a place test has its place put in.
  pub places_yes
      : i < n → is_tested ranged (code_record (get_or codes i 0)) ≡ true → (l : List ℕ)
      → places_from ranged codes n (i + 1) (insert_by ltb (code_place (get_or codes i 0)) l) ≡ places_from ranged codes n i l
  places_yes h e l =
      let c = get_or codes i 0 in
      let rest = tested_places ranged (drop (i + 1) (notes_in codes n)) in
      sym
      (ap (λ (ns : List Note). insert_all (tested_places ranged ns) l) (notes_next codes n within i h)
      ∙ ap (λ (b : Bool). insert_all (cons_if b (code_place c) rest) l) e)

  -- Any other note is passed.
  pub places_no
      : i < n → is_tested ranged (code_record (get_or codes i 0)) ≡ false → (l : List ℕ) → places_from ranged codes n (i + 1) l ≡ places_from ranged codes n i l
  places_no h e l =
      let c = get_or codes i 0 in
      let rest = tested_places ranged (drop (i + 1) (notes_in codes n)) in
      sym
      (ap (λ (ns : List Note). insert_all (tested_places ranged ns) l) (notes_next codes n within i h)
      ∙ ap (λ (b : Bool). insert_all (cons_if b (code_place c) rest) l) e)

  -- At the end none is left.
  pub places_end : n ≤ i → (l : List ℕ) → places_from ranged codes n i l ≡ l
  places_end h l = ap (λ (ns : List Note). insert_all (tested_places ranged ns) l) (notes_end codes n within i h)
