-- What tidying a sheet answers, by the check of the sheet.
use Prim.Native.Nat.{ℕ, ◌+◌, ◌≤◌, ◌<◌}
use mathlib.Core.Path.{◌≡◌, sym, ap, ◌∙◌}
use mathlib.Core.Bool.{Bool}
use mathlib.Core.List.{List, [], ◌∷◌, ◌++◌, map}
use native.Mathlib.Omega.{arith}
use lib.ListN.{length, drop, length-map}
use borrow.Author.Tests.{le-leb, lt-leb}
use Rattle.std.specs.Prelude.{Ok, Err}
use Rattle.records.specs.Fields.{AreBytes}
use Rattle.records.specs.Reading.{Reading, took, refused, ask, and_then}
use Rattle.records.specs.Writing.{splice}
use Rattle.records.specs.Refusals.{number}
use Rattle.records.specs.declared.refusal.Refusal.{Refusal}
use Rattle.records.specs.declared.refusal.Refusal.TheVariants.{TidyTooLong}
use Rattle.records.specs.Written.{result_of, ask_fits}
use Rattle.records.proofs.Writing.{splice_more}
use Rattle.sheet.specs.Sheet.{Sheet}
use Rattle.sheet_tests.specs.CheckSheet.{SheetValues, accept_sheet, sheet_check_values, sheet_values}
use Rattle.sheet_tests.specs.declared.SheetSizes.{SheetSizes}
use Rattle.accepted.proofs.Acceptance.{sheet_accepted_lem}
use Rattle.accepted.proofs.CheckedSheets.{check_accepts}
use Rattle.accepted.specs.views.AcceptedAs.{AcceptedAs}
use Rattle.sheet.specs.WriteSheet.{rules_bytes}
use Rattle.tidy.specs.TidyRule.{tidy_rule}
use Rattle.tidy.specs.TidySheet.{tidy_bytes}
use Rattle.tidy.specs.Tidied.{tidied}
use Rattle.tidying.specs.views.HandedBack.{left_by}
use Rattle.tidying.specs.views.TidyRows.{tidy_rows}
use Rattle.tidying.proofs.TidyForms.{rules_tidy}

-- A sheet that its questions refuse.
pub tidy_refused
    : (s buffer : List ℕ) (r : Refusal) → accept_sheet s ≡ refused (number r) → left_by (Err r) buffer ≡ tidied s buffer
unfolding tidied
tidy_refused s buffer r e =
    sym (ap (λ (x : Reading Sheet). result_of buffer (and_then x (λ _ sheet. ask_fits 31 buffer (tidy_bytes sheet)))) e)

module _ (s : List ℕ) (bytes : AreBytes s) (x : SheetSizes)
    (told : sheet_check_values (Ok x) ≡ sheet_values (accept_sheet s)) where
  abbrev a : ℕ
  a = x.arity

  abbrev n : ℕ
  n = x.rules

  known : AcceptedAs s a n
  known = check_accepts s x told

  abbrev sheet : Sheet
  sheet = known.sheet

  pub sheet_whole : 3 ≤ length s
  sheet_whole = known.whole

  count : n ≡ length sheet.rules
  count = ap (λ (x : SheetValues). x.rules) (told ∙ ap sheet_values known.accepted)

  -- The header and the tidy rules are the tidy sheet.
  abbrev pub header : List ℕ
  header = 0x10 ∷ a ∷ n ∷ []

  abbrev pub rows : List ℕ
  rows = tidy_rows a n (drop 3 s)

  tidy_is : header ++ rows ≡ tidy_bytes sheet
  tidy_is =
      let (accepted, spelled, size) = (sheet_accepted_lem s bytes known.bytes sheet).0 known.accepted in
      let arity = sym known.arity_is in
      let few : sheet.arity ≤ 8 = omega (arith, known.few, known.arity_is) in
      (λ j. 0x10 ∷ arity j ∷ count j ∷ tidy_rows (arity j) (count j) (drop 3 (sym spelled j)))
      ∙ ap (λ (l : List ℕ). 0x10 ∷ sheet.arity ∷ length sheet.rules ∷ l)
      (rules_tidy sheet.arity sheet.rules few accepted.sound.accepted_rules)
      ∙ ap (λ (k : ℕ). 0x10 ∷ sheet.arity ∷ k ∷ rules_bytes (map tidy_rule sheet.rules))
      (sym (length-map sheet.rules tidy_rule))

  module _ (buffer : List ℕ) where
    asked : tidied s buffer ≡ result_of buffer (ask_fits 31 buffer (header ++ rows))
    unfolding tidied
    asked =
        ap (λ (x : Reading Sheet). result_of buffer (and_then x (λ _ y. ask_fits 31 buffer (tidy_bytes y)))) known.accepted
        ∙ ap (λ (l : List ℕ). result_of buffer (ask_fits 31 buffer l)) (sym tidy_is)

    -- Question 31 got a no: it does not fit.
    pub tidy_large : length buffer < 3 + length rows → left_by (Err TidyTooLong) buffer ≡ tidied s buffer
    tidy_large more =
        sym
        (asked
        ∙ ap (λ (b : Bool). result_of buffer (ask 31 b (took (length (header ++ rows)) (header ++ rows))))
        (lt-leb (length (header ++ rows)) (length buffer) (omega arith)))

    -- The header is written, and the rules behind it.
    pub tidy_written
        : {start end : ℕ} {first left : List ℕ} → 3 + length rows ≤ length buffer → start ≡ 0 + length header
        → first ≡ splice buffer 0 header → end ≡ start + length rows → left ≡ splice first start rows
        → left_by (Ok end) left ≡ tidied s buffer
    tidy_written {start} {end} {first} {left} fits at was to is =
        let whole : end ≡ length (header ++ rows) = omega (arith, at, to) in
        let all : left ≡ splice buffer 0 (header ++ rows) =
        is ∙ (λ j. splice (was j) (at j) rows) ∙ splice_more buffer 0 header rows (omega arith) in
        (λ j. left_by (Ok (whole j)) (all j))
        ∙ sym
        (asked
        ∙ ap (λ (b : Bool). result_of buffer (ask 31 b (took (length (header ++ rows)) (header ++ rows))))
        (le-leb (length (header ++ rows)) (length buffer) (omega arith)))
