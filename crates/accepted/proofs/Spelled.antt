-- Bytes are accepted by questions 1 to 10 exactly when they spell a sound sheet, and every sound sheet is spelled by
-- its written bytes.
use Prim.Native.Nat.{ℕ, suc, ◌+◌, ◌-◌}
use mathlib.Core.Path.{◌≡◌, refl, sym, ap, subst, ◌∙◌}
use mathlib.Core.Logic.{◌↔◌}
use mathlib.Core.List.{List, [], ◌∷◌, ◌++◌, append-nil}
use native.Mathlib.Omega.{arith}
use lib.ListN.{length, drop, length-drop, drop_of_length-le}
use borrow.Author.Tests.{le-leb, eq-eqb}
use Rattle.records.specs.Fields.{AreBytes}
use Rattle.records.specs.Reading.{took, and_then}
use Rattle.records.proofs.Rows.{row_size}
use Rattle.sheet.specs.Sheet.{Sheet, SoundSheet, most_rules}
use Rattle.sheet.specs.ReadSheet.{read_rule, read_rules, read_header, end_sheet, read_sheet}
use Rattle.sheet.specs.WriteSheet.{rules_bytes, sheet_bytes}
use Rattle.patterns.proofs.HeadBytes.{first_bytes_lem}
use Rattle.sheet.proofs.SheetReads.{sheet_is}
use Rattle.sheet.proofs.ReadsSound.{sheet_sound}
use Rattle.accepted.proofs.ReadsSpelled.{rules_spelled}
use Rattle.sheet.proofs.SpelledReads.{rules_read_lem}
use Rattle.records.proofs.ByteLists.{bytes_drop}

-- The first record of a sound sheet is read from its bytes.
header_read_lem
    : (sheet : Sheet) (rest : List ℕ) → SoundSheet sheet
    → read_header (0x10 ∷ sheet.arity ∷ length sheet.rules ∷ rest)
    ≡ took 3 (record { arity = sheet.arity; rule_count = length sheet.rules })
unfolding read_header
header_read_lem sheet rest sound =
    simp (
      le-leb 3 (suc (suc (suc (length rest)))) (omega arith),
      le-leb 1 sheet.arity sound.some_argument,
      le-leb sheet.arity 8 sound.few_arguments,
      le-leb (length sheet.rules) most_rules sound.few_rules,
    )

-- A sound sheet is read from its written bytes.
pub sheet_read_lem
    : (sheet : Sheet) → SoundSheet sheet → read_sheet (sheet_bytes sheet) ≡ took (length (sheet_bytes sheet)) sheet
unfolding read_sheet
sheet_read_lem sheet sound =
    let rest = rules_bytes sheet.rules in
    let s = sheet_bytes sheet in
    let read =
    ap (read_rules sheet.arity (length sheet.rules)) (sym (append-nil rest))
    ∙ rules_read_lem sheet.arity sheet.rules [] sound.accepted_rules in
    let end : length rest ≡ length s - 3 = omega arith in
    let all : 3 + length rest ≡ length s = omega arith in
    ap (λ x. and_then x (λ a head. end_sheet head.arity (length s - a)
    (read_rules head.arity head.rule_count (drop a s))))
    (header_read_lem sheet rest sound)
    ∙ ap (end_sheet sheet.arity (length s - 3)) read
    ∙ simp (eq-eqb (length rest) (length s - 3) end) (ap (λ (k : ℕ). took k sheet) all)

-- A sheet that is read from bytes is spelled by them.
pub sheet_written
    : (s : List ℕ) {k : ℕ} {sheet : Sheet} → AreBytes s → read_sheet s ≡ took k sheet → sheet_bytes sheet ≡ s
sheet_written s {k} {sheet} bytes e =
    let is = sheet_is s e in
    let rest = drop 3 s in
    let rules = rules_spelled sheet.arity is.count rest (bytes_drop 3 s bytes) is.rules_read in
    let count =
    row_size [] ◌∷◌ (read_rule sheet.arity) length refl (λ rule rules. refl) is.count rest is.rules_read in
    let none_left : drop (length s - 3) rest ≡ [] =
    drop_of_length-le rest {i = length s - 3} (omega (arith, length-drop 3 s)) in
    let written : rest ≡ rules_bytes sheet.rules =
    rules.begins ∙ ap (rules_bytes sheet.rules ++◌) none_left ∙ append-nil (rules_bytes sheet.rules) in
    sym (first_bytes_lem 3 s is.header.whole
    ∙ λ j. is.header.kind j ∷ is.header.arity_there j ∷ (is.header.count_there ∙ sym count) j ∷ written j)

-- The theorem: both directions.
pub sheet_spelled_lem
    : (s : List ℕ) → AreBytes s → (k : ℕ) (sheet : Sheet)
    → (read_sheet s ≡ took k sheet) ↔ (SoundSheet sheet × (sheet_bytes sheet ≡ s) × (k ≡ length s))
sheet_spelled_lem s bytes k sheet = (
  λ e. (sheet_sound s bytes e, sheet_written s bytes e, (sheet_is s e).all_bytes),
  λ h. subst (λ (l : List ℕ). read_sheet l ≡ took (length l) sheet) h.1 (sheet_read_lem sheet h.0)
      ∙ ap (λ (n : ℕ). took n sheet) (sym h.2),
)
