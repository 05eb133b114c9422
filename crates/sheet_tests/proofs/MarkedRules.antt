-- A rule read with its places marked and its variables noted, in a loop over the rules of a sheet.
use Prim.Native.Nat.{ℕ, ◌+◌, ◌-◌, ◌≤◌, ◌<◌}
use mathlib.Core.Path.{◌≡◌, refl, sym, ap, ◌∙◌, subst}
use mathlib.Core.Bool.{Bool, true, false}
use mathlib.Core.List.{List, ◌++◌}
use native.Mathlib.Omega.{arith}
use lib.ListN.{length, take, drop}
use Rattle.std.specs.Prelude.{Result, Ok, Err}
use Rattle.records.specs.Fields.{AreBytes}
use Rattle.records.specs.Refusals.{number}
use Rattle.records.specs.declared.refusal.Refusal.{Refusal}
use Rattle.records.specs.Reading.{Reading, took, refused, ask, and_then}
use Rattle.records.proofs.Parts.{rest_length}
use Rattle.records.proofs.Rows.{took_view, refused_view}
use Rattle.records.proofs.ByteLists.{bytes_drop}
use Rattle.basics.specs.Lists.{All}
use Rattle.terms.specs.Pattern.{Patterns}
use Rattle.terms.specs.Accepted.{AcceptedRule}
use Rattle.sheet.specs.declared.Took.{Took}
use Rattle.sheet.specs.ReadSheet.{read_patterns, read_rule, ranges_meet}
use Rattle.patterns.specs.views.Note.{Note}
use Rattle.sheet.specs.views.Noted.{rule_notes}
use Rattle.sheet.specs.views.NoteArray.{notes_in, took_as, bytes_used, notes_made, TookWithin}
use Rattle.sheet.specs.views.NotesBehind.{row_held}
use Rattle.sheet.specs.views.NoteRanges.{notes_meet}
use Rattle.sheet.proofs.NoteArrays.{notes_none}
use Rattle.sheet.proofs.Rows.{part_read}
use Rattle.sheet.proofs.RuleReads.{rule_ends_meet}
use Rattle.sheet.proofs.Compounds.{row_count}
use Rattle.sheet.proofs.ReadsSound.{patterns_sound, rule_sound}
use Rattle.sheet_tests.specs.views.TestedPlaces.{places_in, insert_all}
use Rattle.pairs.specs.views.NoteVariables.{Placed}
use Rattle.marks.specs.views.Marks.{Marks, marked, marks_in}
use Rattle.sheet_tests.specs.views.Gathered.{Gathered, gather_notes, held}
use Rattle.sheet_tests.proofs.NotedTests.{sounds_placed}
use Rattle.sheet_tests.proofs.PlaceSets.{places_ascend_lem}
use Rattle.sheet_tests.proofs.Marking.{names_of, fixed_places, marks_all, fixed_places_lem, names_meet, names_placed}
use Rattle.sheet_tests.proofs.Gathering.{notes_fit, gather_marked}
use Rattle.sheet_tests.proofs.Scanning.{scan_from, scan_next}

-- The patterns of a rule behind the first bytes of a list, b bytes, where the set of places was `words` before: its variables are
-- the n notes.
pub record RuleMarked (arity at : ℕ) (s words marks notes : List ℕ) (b n : ℕ) : Type 0 where
  pub rule : Patterns
  pub read : read_patterns 3 arity (drop at s) ≡ took b rule
  pub noted : notes_in notes n ≡ names_of (rule_notes rule)
  pub places : places_in marks ≡ insert_all (fixed_places (rule_notes rule)) (places_in words)
  pub placed : All Placed (rule_notes rule)
  pub used : b ≤ length s - at
  pub made : n ≤ 680

-- Question 9 of a rule's patterns.
abbrev asked : ℕ → Patterns → Reading Patterns
asked a rule = ask 9 (ranges_meet rule) (took a rule)

module _ (arity at : ℕ) (s words notes₀ marks notes : List ℕ) (r : Result Took Refusal)
    (e : took_as (marks_in marks notes) r ≡ row_held marked 3 arity 0 (marks_in words notes₀ 0) (take (length s - at) (drop at s))) where
  marks_behind : took_as (marks_in marks notes) r ≡ row_held marked 3 arity 0 (marks_in words notes₀ 0) (drop at s)
  marks_behind = part_read marked 3 arity at s e refl refl

  -- What the reader says where it read a rule's patterns.
  pub rule_marked
      : {t : Took} → arity ≤ 8 → AreBytes s → length words ≡ 11 → r ≡ Ok t
      → TookWithin (length (take (length s - at) (drop at s))) 680 notes r
      → RuleMarked arity at s words marks notes t.bytes t.notes
  rule_marked few bytes size same within =
      let (rule, read, are) =
      took_view _ (read_patterns 3 arity (drop at s)) (sym (ap (took_as (marks_in marks notes)) same) ∙ marks_behind) in
      let all = are ∙ marks_all (rule_notes rule) (marks_in words notes₀ 0) in
      let sounds = patterns_sound 3 arity (drop at s) (bytes_drop at s bytes) read in
      let inside = sounds_placed rule sounds (omega (arith, row_count 3 arity (drop at s) read)) in
      record {
        rule = rule;
        read = read;
        noted = ap (λ (m : Marks). m.names) all ∙ ap (λ (l : List Note). l ++ names_of (rule_notes rule)) (notes_none notes₀);
        places = ap (λ (m : Marks). places_in m.words) all ∙ fixed_places_lem (rule_notes rule) words size inside;
        placed = inside;
        used = omega (arith, within.used, ap bytes_used same, rest_length s at);
        made = omega (arith, within.made, ap notes_made same);
      }

  -- What it says where it refused.
  pub marks_refused : {x : Refusal} → r ≡ Err x → read_rule arity (drop at s) ≡ refused (number x)
  marks_refused same =
      ap (λ x. and_then x asked)
      (refused_view _ (read_patterns 3 arity (drop at s)) (sym (ap (took_as (marks_in marks notes)) same) ∙ marks_behind))

module _ {arity at : ℕ} {s words marks notes : List ℕ} {b n : ℕ} (k : RuleMarked arity at s words marks notes b n) where
  -- Question 9, by the ranges of the variables noted.
  by_names : {answer : Bool} → notes_meet (notes_in notes n) ≡ answer → read_rule arity (drop at s) ≡ ask 9 answer (took b k.rule)
  by_names meet =
      ap (λ x. and_then x asked) k.read
      ∙ ap (λ (a : Bool). ask 9 a (took b k.rule))
      (sym (ap notes_meet k.noted ∙ names_meet (rule_notes k.rule) ∙ rule_ends_meet k.rule) ∙ meet)

  -- The variables stand at places among the 680.
  pub marked_placed : All Placed (notes_in notes n)
  marked_placed = subst (All Placed) (sym k.noted) (names_placed (rule_notes k.rule) k.placed)

  pub names_apart : notes_meet (notes_in notes n) ≡ false → read_rule arity (drop at s) ≡ refused 9
  names_apart apart = by_names apart

  pub names_meets : notes_meet (notes_in notes n) ≡ true → read_rule arity (drop at s) ≡ took b k.rule
  names_meets meet = by_names meet

  module _ (bytes : AreBytes s) (meet : notes_meet (notes_in notes n) ≡ true) where
    accepted : AcceptedRule arity k.rule
    accepted = rule_sound arity (drop at s) (bytes_drop at s bytes) (by_names meet)

    -- A rule gathered from its variables is gathered with the others.
    pub scan_turn
        : (rules i : ℕ) (codes : List ℕ) (count : ℕ) (after : Gathered) → i < rules
        → after ≡ gather_notes (notes_in notes n) (held marks codes count)
        → scan_from arity rules s (i + 1) (at + b) after ≡ scan_from arity rules s i at (held words codes count)
    scan_turn rules i codes count after h e =
        let g = held words codes count in
        ap (scan_from arity rules s (i + 1) (at + b))
        (e
        ∙ ap (λ (ps : List ℕ). gather_notes (notes_in notes n) (record { places = ps; pairs = g.pairs })) k.places
        ∙ gather_marked k.rule (notes_in notes n) g k.noted accepted (notes_fit notes n) (places_ascend_lem words))
        ∙ scan_next arity rules s i at g h k.rule (by_names meet)
