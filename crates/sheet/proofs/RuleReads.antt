-- A rule, read as a row of patterns and then asked question 9 of its notes.
use Prim.Native.Nat.{ℕ, ◌-◌}
use mathlib.Core.Path.{◌≡◌, refl, sym, ap, ◌∙◌}
use mathlib.Core.Bool.{Bool, true, false}
use mathlib.Core.List.{List, [], ◌∷◌, ◌++◌, append-nil, append_assoc}
use mathlib.Core.Option.{Option, some, none}
use lib.Dec.{leb}
use lib.ListN.{length, take, drop}
use Rattle.records.specs.Reading.{Reading, took, refused, ask, map_reading, and_then}
use Rattle.records.proofs.Rows.{took_view, refused_view}
use Rattle.terms.specs.Pattern.{Patterns}
use Rattle.terms.specs.RuleTests.{Range}
use Rattle.sheet.specs.ReadSheet.{read_patterns, read_rule, in_common, ranges_meet}
use Rattle.patterns.specs.views.Note.{Note}
use Rattle.sheet.specs.views.Noted.{rule_notes}
use Rattle.sheet.specs.views.NoteArray.{notes_in}
use Rattle.sheet.specs.views.NotesBehind.{held_with, row_held, behind}
use Rattle.sheet.specs.views.NoteRanges.{range_in, low_end, high_end, ends_meet, notes_meet}
use Rattle.sheet.proofs.NoteArrays.{notes_none}
use Rattle.basics.proofs.AllBelow.{all_same}
use Rattle.sheet.proofs.CommonRanges.{rule_range}
use Rattle.sheet.proofs.RangeArrays.{variable_at}
use Rattle.sheet.proofs.Rows.{part_read}

in_common_ends : (x : Option Range) → leb (low_end x) (high_end x) ≡ in_common x
in_common_ends none = refl
in_common_ends (some x) = refl

-- The ends of the ranges in the notes of a rule meet where its ranges do.
pub rule_ends_meet
    : (rule : Patterns) → notes_meet (rule_notes rule) ≡ ranges_meet rule
unfolding ends_meet
rule_ends_meet rule =
    let in-notes : ℕ → Option Range = range_in (rule_notes rule) in
    all_same 16 _ _
    (λ v below.
    (λ j. leb (variable_at (λ (u : ℕ). low_end (in-notes u)) v below j)
    (variable_at (λ (u : ℕ). high_end (in-notes u)) v below j))
    ∙ in_common_ends (in-notes v)
    ∙ ap in_common (rule_range rule v))

-- Notes put behind others are the notes that follow them.
held_behind : (before notes : List Note) → held_with behind before notes ≡ before ++ notes
held_behind before [] = sym (append-nil before)
held_behind before (n ∷ notes) = held_behind (before ++ (n ∷ [])) notes ∙ append_assoc before (n ∷ []) notes

module _ (arity : ℕ) (s : List ℕ) where
  -- The notes of the rule's patterns, and of the rule.
  abbrev pub patterns_read : Reading (List Note)
  patterns_read = map_reading rule_notes (read_patterns 3 arity s)

  abbrev pub rule_read : Reading (List Note)
  rule_read = map_reading rule_notes (read_rule arity s)

  -- With no notes before them, the notes of the part that begins at 0 are the rule's.
  pub from_none
      : (codes : List ℕ) {r : Reading (List Note)}
      → r ≡ row_held behind 3 arity 0 (notes_in codes 0) (take (length s - 0) (drop 0 s)) → r ≡ patterns_read
  from_none codes e =
      part_read behind 3 arity 0 s e (notes_none codes) refl
      ∙ λ j. map_reading (λ (rule : Patterns). held_behind [] (rule_notes rule) j) (read_patterns 3 arity s)

  abbrev asked : ℕ → Patterns → Reading Patterns
  asked a rule = ask 9 (ranges_meet rule) (took a rule)

  -- The patterns were refused.
  pub patterns_no : {q : ℕ} → refused q ≡ patterns_read → refused q ≡ rule_read
  patterns_no e =
      let read = refused_view rule_notes (read_patterns 3 arity s) e in
      sym (ap (λ x. map_reading rule_notes (and_then x asked)) read)

  -- Question 9, by the ranges in the notes.
  module _ {bytes : ℕ} {notes : List Note} (e : took bytes notes ≡ patterns_read) where
    by_answer
        : {b : Bool} → b ≡ notes_meet notes
        → rule_read ≡ map_reading rule_notes (ask 9 b (took bytes (took_view rule_notes (read_patterns 3 arity s) e).0))
    by_answer same =
        let (rule, read, are) = took_view rule_notes (read_patterns 3 arity s) e in
        ap (λ x. map_reading rule_notes (and_then x asked)) read
        ∙ ap (λ b. map_reading rule_notes (ask 9 b (took bytes rule)))
        (sym (same ∙ ap notes_meet are ∙ rule_ends_meet rule))

    pub ranges_yes : notes_meet notes ≡ true → took bytes notes ≡ rule_read
    ranges_yes meet =
        let (rule, read, are) = took_view rule_notes (read_patterns 3 arity s) e in
        ap (took bytes) are ∙ sym (by_answer (sym meet))

    pub ranges_no : notes_meet notes ≡ false → refused 9 ≡ rule_read
    ranges_no apart = sym (by_answer (sym apart))
