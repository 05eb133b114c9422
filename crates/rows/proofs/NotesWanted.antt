-- What the notes in an array want, note by note.
use Prim.Native.Nat.{ℕ, ◌+◌, ◌≤◌, ◌<◌}
use mathlib.Core.Path.{◌≡◌, refl, sym, ap, ◌∙◌}
use mathlib.Core.Bool.{true, false, false≢true}
use mathlib.Core.List.{List, []}
use mathlib.Core.Option.{Option, some, none}
use lib.ListN.{length, get_or, drop}
use Rattle.std.specs.Prelude as std
use Rattle.std.specs.Prelude.{Some, None, is_some}
use Rattle.terms.specs.RuleTests.{Want, PlaceTest}
use Rattle.patterns.specs.views.NoteCode.{code_place, code_record}
use Rattle.sheet.specs.views.NoteArray.{notes_in}
use Rattle.pairs.proofs.NoteRows.{notes_next, notes_end}
use Rattle.basics.proofs.Clash.{clash}
use Rattle.codes.specs.views.Codes.{want_low, want_high}
use Rattle.rows.specs.declared.Codes.{Codes}
use Rattle.rows.specs.views.Wants.{record_want, test_if, notes_tests, wanted_codes}

-- Codes are those of a want, and where there are none nothing is wanted.
pub wanted_some
    : (x : Option Want) {codes : Codes} → Some codes ≡ wanted_codes x
    → (w : Want) × (x ≡ some w) × (codes.low ≡ want_low w) × (codes.high ≡ want_high w)
wanted_some none e = clash (cc)
wanted_some (some w) {codes} e =
    let same : codes ≡ record { low = want_low w; high = want_high w } = cc in
    (w, refl, ap (λ (c : Codes). c.low) same, ap (λ (c : Codes). c.high) same)

pub wanted_none : (x : Option Want) → None ≡ wanted_codes x → x ≡ none
wanted_none none e = refl
wanted_none (some w) e = clash (cc)

pub wants_some
    : (x : Option Want) {codes : std.Option Codes} → codes ≡ wanted_codes x → is_some codes ≡ true → (w : Want) × (x ≡ some w)
wants_some none e t = absurd (false≢true (ap is_some (sym e) ∙ t))
wants_some (some w) e t = (w, refl)

pub wants_none : (x : Option Want) {codes : std.Option Codes} → codes ≡ wanted_codes x → is_some codes ≡ false → x ≡ none
wants_none none e t = refl
wants_none (some w) e t = absurd (false≢true (sym t ∙ ap is_some e))

module _ (low high codes : List ℕ) (n : ℕ) (within : n ≤ length codes) (i : ℕ) where
  abbrev pub want_here : Option Want
  want_here = record_want low high (code_record (get_or codes i 0))

  -- The place tests of the notes from one on.
  abbrev pub tests_from : ℕ → List PlaceTest
  tests_from j = notes_tests low high (drop j (notes_in codes n))

  -- A note more gives its test, if it wants something.
  pub tests_turn
      : i < n → (x : Option Want) → want_here ≡ x
      → tests_from i ≡ test_if (code_place (get_or codes i 0)) x (tests_from (i + 1))
  tests_turn h x e =
      ap (notes_tests low high) (notes_next codes n within i h)
      ∙ ap (λ (y : Option Want). test_if (code_place (get_or codes i 0)) y (tests_from (i + 1))) e

  pub tests_end : n ≤ i → tests_from i ≡ []
  tests_end h = ap (notes_tests low high) (notes_end codes n within i h)
