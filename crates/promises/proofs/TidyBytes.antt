-- What tidying bytes s into a buffer comes to (document 02, request 2): the refusal of a sheet that is not accepted, 31, or the
-- tidy bytes at the front of the buffer.
use Prim.Native.Nat.{ℕ, ◌+◌, ◌*◌, ◌≤◌, ◌<◌}
use mathlib.Core.Path.{◌≡◌, refl, sym, ap, subst, ◌∙◌}
use mathlib.Core.Bool.{Bool, true, false}
use mathlib.Core.Logic.{◌↔◌}
use mathlib.Core.List.{List}
use native.Mathlib.Omega.{arith}
use lib.Dec.{leb}
use lib.ListN.{length, take, drop}
use lib.Seq.{take-append_seam}
use borrow.Author.Tests.{leb-true, leb-false, le-leb, lt-leb}
use Rattle.records.specs.Fields.{AreBytes}
use Rattle.records.specs.Reading.{Reading, took, refused, ask, and_then}
use Rattle.records.specs.Writing.{splice}
use Rattle.records.specs.Written.{Result, result_of, ask_fits}
use Rattle.sheet.specs.Sheet.{Sheet, most_rules}
use Rattle.sheet_tests.specs.CheckSheet.{accept_sheet}
use Rattle.accepted.specs.Questions.{SheetQuestion}
use Rattle.accepted.proofs.Acceptance.{sheet_accepted_lem}
use Rattle.accepted.proofs.Named.{Named}
use Rattle.accepted.proofs.Questions.{sheet_named}
use Rattle.tidy.specs.TidySheet.{tidy_bytes}
use Rattle.tidy.specs.Tidied.{tidied}
use Rattle.tidy.proofs.TidyLength.{tidy_short}
use Rattle.promises.specs.TidyWritten.{TidyWritten}

module _ (s buffer : List ℕ) where
  abbrev leaves : Reading Sheet → Result
  leaves r = result_of buffer (and_then r (λ _ sheet. ask_fits 31 buffer (tidy_bytes sheet)))

  abbrev asked : Sheet → Bool → Result
  asked sheet b = result_of buffer (ask 31 b (took (length (tidy_bytes sheet)) (tidy_bytes sheet)))

  -- The sheet's questions come first: a sheet that is not accepted is refused by its own,
  pub sheet_refused_first
      : {q : ℕ} → accept_sheet s ≡ refused q → tidied s buffer ≡ record { refusal = q; bytes = 0; buffer = buffer }
  unfolding tidied
  sheet_refused_first e = ap leaves e

  module _ {k : ℕ} {sheet : Sheet} (e : accept_sheet s ≡ took k sheet) where
    -- and an accepted one is asked 31: its whole length before a byte is written.
    is_asked : {b : Bool} → leb (length (tidy_bytes sheet)) (length buffer) ≡ b → tidied s buffer ≡ asked sheet b
    unfolding tidied
    is_asked d = ap leaves e ∙ ap (asked sheet) d

    -- What just fits fits; it stands at the front of the buffer, and what stood after it is as it was.
    pub tidy_fits
        : length (tidy_bytes sheet) ≤ length buffer
        → tidied s buffer
        ≡ record { refusal = 0; bytes = length (tidy_bytes sheet); buffer = splice buffer 0 (tidy_bytes sheet) }
    tidy_fits h = is_asked (le-leb (length (tidy_bytes sheet)) (length buffer) h)

    -- "It refuses a buffer that is too short (31), after the sheet's questions."
    pub tidy_too_short
        : length buffer < length (tidy_bytes sheet) → tidied s buffer ≡ record { refusal = 31; bytes = 0; buffer = buffer }
    tidy_too_short h = is_asked (lt-leb (length (tidy_bytes sheet)) (length buffer) h)

-- There is no other end.
data End (s buffer : List ℕ) : Type 0 where
  by_question : (q : ℕ) → SheetQuestion q → accept_sheet s ≡ refused q → End s buffer
  too_short : (k : ℕ) (sheet : Sheet) → accept_sheet s ≡ took k sheet → length buffer < length (tidy_bytes sheet) → End s buffer
  fitting : (k : ℕ) (sheet : Sheet) → accept_sheet s ≡ took k sheet → length (tidy_bytes sheet) ≤ length buffer → End s buffer

module _ (s buffer : List ℕ) where
  the_end : End s buffer
  the_end = read (accept_sheet s) refl (sheet_named s)
    where
      fit
          : (k : ℕ) (sheet : Sheet) → accept_sheet s ≡ took k sheet → (b : Bool)
          → leb (length (tidy_bytes sheet)) (length buffer) ≡ b → End s buffer
      fit k sheet e true d = fitting k sheet e (leb-true (length (tidy_bytes sheet)) (length buffer) d)
      fit k sheet e false d = too_short k sheet e (leb-false (length (tidy_bytes sheet)) (length buffer) d)

      read : (r : Reading Sheet) → accept_sheet s ≡ r → Named SheetQuestion r → End s buffer
      read (took k sheet) e named = fit k sheet e (leb (length (tidy_bytes sheet)) (length buffer)) refl
      read (refused q) e named = by_question q named e

  abbrev refusal_of_lem : Result → ℕ
  refusal_of_lem x = x.refusal

  -- 31 is given exactly where the sheet is accepted and its tidy bytes are more than the buffer has,
  pub tidy_31_exactly
      : ((tidied s buffer).refusal ≡ 31)
      ↔ ((k : ℕ) × (sheet : Sheet) × (accept_sheet s ≡ took k sheet) × (length buffer < length (tidy_bytes sheet)))
  tidy_31_exactly = (
    forth the_end,
    λ (k, sheet, e, short). ap refusal_of_lem (tidy_too_short s buffer e short),
  )
    where
      forth
          : End s buffer → (tidied s buffer).refusal ≡ 31
          → (k : ℕ) × (sheet : Sheet) × (accept_sheet s ≡ took k sheet) × (length buffer < length (tidy_bytes sheet))
      forth (by_question q named e) h =
          absurd (omega (arith, named.1, ap refusal_of_lem (sheet_refused_first s buffer e), h))
      forth (too_short k sheet e short) h = (k, sheet, e, short)
      forth (fitting k sheet e fits) h = absurd (omega (arith, ap refusal_of_lem (tidy_fits s buffer e fits), h))

  -- and 0 exactly where it is accepted and they are not.
  pub tidy_written_exactly
      : ((tidied s buffer).refusal ≡ 0)
      ↔ ((k : ℕ) × (sheet : Sheet) × (accept_sheet s ≡ took k sheet) × (length (tidy_bytes sheet) ≤ length buffer))
  tidy_written_exactly = (
    forth the_end,
    λ (k, sheet, e, fits). ap refusal_of_lem (tidy_fits s buffer e fits),
  )
    where
      forth
          : End s buffer → (tidied s buffer).refusal ≡ 0
          → (k : ℕ) × (sheet : Sheet) × (accept_sheet s ≡ took k sheet) × (length (tidy_bytes sheet) ≤ length buffer)
      forth (by_question q named e) h =
          absurd (omega (arith, named.0, ap refusal_of_lem (sheet_refused_first s buffer e), h))
      forth (too_short k sheet e short) h = absurd (omega (arith, ap refusal_of_lem (tidy_too_short s buffer e short), h))
      forth (fitting k sheet e fits) h = (k, sheet, e, fits)

-- The bytes that a sheet gets are the tidy bytes of what it is accepted as, and what stood behind them stays.
module _ {s buffer w : List ℕ} (written : TidyWritten s buffer w) {k : ℕ} {sheet : Sheet} (e : accept_sheet s ≡ took k sheet) where
  tidy_left
      : tidied s buffer
      ≡ record { refusal = 0; bytes = length (tidy_bytes sheet); buffer = splice buffer 0 (tidy_bytes sheet) }
  tidy_left =
      let (j, other, d, fits) = (tidy_written_exactly s buffer).0 written.not_refused in
      let read : took j other ≡ took k sheet = sym d ∙ e in
      let same : other ≡ sheet = cc in
      tidy_fits s buffer e (subst (λ (x : Sheet). length (tidy_bytes x) ≤ length buffer) same fits)

  pub written_is : w ≡ tidy_bytes sheet
  written_is =
      written.wrote
      ∙ ap (λ (x : Result). take x.bytes x.buffer) tidy_left
      ∙ take-append_seam (tidy_bytes sheet) (drop (0 + length (tidy_bytes sheet)) buffer)

  -- Behind them the buffer is as it was.
  pub tidy_rest_stays : (tidied s buffer).buffer ≡ splice buffer 0 w
  tidy_rest_stays = ap (λ (x : Result). x.buffer) tidy_left ∙ ap (splice buffer 0) (sym written_is)

-- A buffer of 3 + 656 × 64 bytes, 41,987, is enough for every sheet: no more are written,
module _ (s buffer : List ℕ) (are_bytes : AreBytes s) where
  short : {k : ℕ} {sheet : Sheet} → accept_sheet s ≡ took k sheet → length (tidy_bytes sheet) ≤ 3 + 656 * most_rules
  short {k} {sheet} e = tidy_short sheet ((sheet_accepted_lem s are_bytes k sheet).0 e).0

  pub few_bytes_written : (tidied s buffer).bytes ≤ 3 + 656 * most_rules
  few_bytes_written = go (the_end s buffer)
    where
      go : End s buffer → (tidied s buffer).bytes ≤ 3 + 656 * most_rules
      go (by_question q named e) = omega (arith, ap (λ (x : Result). x.bytes) (sheet_refused_first s buffer e))
      go (too_short k sheet e few) = omega (arith, ap (λ (x : Result). x.bytes) (tidy_too_short s buffer e few))
      go (fitting k sheet e fits) = omega (arith, ap (λ (x : Result). x.bytes) (tidy_fits s buffer e fits), short e)

  -- and it is not refused by 31.
  pub enough_room : 3 + 656 * most_rules ≤ length buffer → (tidied s buffer).refusal ≡ 31 → ⊥
  enough_room room h = let (k, sheet, e, few) = (tidy_31_exactly s buffer).0 h in omega (arith, few, short e)
