-- Laws of the notes in an array.
use Prim.Native.Nat.{ℕ, ◌+◌, ◌<◌}
use mathlib.Core.Path.{◌≡◌, refl, sym, ap, ◌∙◌}
use mathlib.Core.List.{List, [], ◌∷◌, ◌++◌, map, map-append}
use native.Mathlib.Numerals.{add-one}
use lib.ListN.{length, take, get_or, set}
use lib.Seq.{take-suc, take-suc-set}
use Rattle.std.specs.Prelude.{Result, Ok, Err}
use Rattle.std.specs.Result.{IsErrAnd}
use Rattle.records.specs.Reading.{Reading, took, refused}
use Rattle.records.specs.Refusals.{number, reading_in}
use Rattle.records.specs.declared.refusal.Refusal.{Refusal}
use Rattle.sheet.specs.declared.Took.{Took}
use Rattle.patterns.specs.declared.PatternRecord.{PatternRecord}
use Rattle.patterns.specs.views.Note.{Note, note}
use Rattle.patterns.specs.views.NoteCode.{note_code, note_of, Fitting}
use Rattle.sheet.specs.views.NoteArray.{notes_in, took_as}
use Rattle.patterns.proofs.NoteCodes.{note_kept}

-- A note put behind the first n notes comes after them.
pub notes_put
    : (codes : List ℕ) (n place : ℕ) (what : PatternRecord) → n < length codes → Fitting what
    → notes_in (set codes n (note_code (note place what))) (n + 1) ≡ notes_in codes n ++ (note place what ∷ [])
unfolding notes_in
notes_put codes n place what h fits =
    let code = note_code (note place what) in
    ap (λ (k : ℕ). map note_of (take k (set codes n code))) (add-one n)
    ∙ ap (map note_of) (take-suc-set codes n code h)
    ∙ map-append note_of (take n codes) (code ∷ [])
    ∙ ap (λ (x : Note). map note_of (take n codes) ++ (x ∷ [])) (note_kept place what fits)

-- The next note comes after the first n notes.
pub notes_next
    : (codes : List ℕ) (n : ℕ) → n < length codes
    → notes_in codes (n + 1) ≡ notes_in codes n ++ (note_of (get_or codes n 0) ∷ [])
unfolding notes_in
notes_next codes n h =
    ap (λ (k : ℕ). map note_of (take k codes)) (add-one n)
    ∙ ap (map note_of) (take-suc codes n 0 h)
    ∙ map-append note_of (take n codes) (get_or codes n 0 ∷ [])

-- There are none at first.
pub notes_none : (codes : List ℕ) → notes_in codes 0 ≡ []
unfolding notes_in
notes_none codes = refl

-- What was read, by how reading went.
module _ {A : Type 0} (held : ℕ → A) where
  pub was_used
      : {read : Result Took Refusal} {t : Took} {r : Reading A} → read ≡ Ok t → took_as held read ≡ r
      → took t.bytes (held t.notes) ≡ r
  was_used e h = sym (ap (took_as held) e) ∙ h

  pub was_refused
      : {read : Result Took Refusal} {x : Refusal} {r : Reading A} → read ≡ Err x → took_as held read ≡ r → refused (number x) ≡ r
  was_refused e h = sym (ap (took_as held) e) ∙ h

-- A refusal that is handed on.
pub handed_on
    : {T A : Type 0} (read : T → Reading A) (result : Result T Refusal) (x : Refusal) {r : Reading A}
    → IsErrAnd result (λ e. e ≡ x) → refused (number x) ≡ r → reading_in read result ≡ r
handed_on read (Ok t) x h k = absurd h
handed_on read (Err e) x h k = ap (λ (y : Refusal). refused (number y)) h ∙ k
