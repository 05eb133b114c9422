-- The arguments of a rule up to its first compound: a test that is contradicted there is a test of the rule.
use Prim.Native.Nat.{ℕ, suc, ◌+◌, ◌-◌, ◌*◌, ◌≤◌, ◌<◌}
use mathlib.Core.Path.{◌≡◌, refl, sym, ap, subst, ◌∙◌}
use mathlib.Core.List.{List}
use native.Mathlib.Omega.{arith}
use lib.ListN.{drop}
use lib.Seq.{drop-drop}
use Rattle.basics.specs.Lists.{Mem, here}
use Rattle.basics.proofs.Filters.{mem_left, mem_right}
use Rattle.records.specs.Reading.{took}
use Rattle.records.proofs.Rows.{RowRead, row_split}
use Rattle.terms.specs.Pattern.{Pattern, Patterns, count_patterns, pnil, pcons}
use Rattle.terms.specs.Outcome.{Outcome, holds, not_known, contradicted, Holds, Contradicted}
use Rattle.terms.proofs.Outcomes.{contradicted_left, contradicted_together}
use Rattle.patterns.specs.declared.PatternRecord.{PatternRecord}
use Rattle.patterns.specs.declared.PatternRecord.TheVariants.{Anything, Symbol, Range, Compound, Variable, Ranged, Series, Gauged}
use Rattle.std.specs.Prelude.{Result, Ok, Err}
use Rattle.records.specs.declared.refusal.Refusal.{Refusal}
use Rattle.sheet.specs.ReadSheet.{read_pattern, read_patterns}
use Rattle.patterns.specs.views.PatternRecord.{pattern_head, record_bytes}
use Rattle.patterns.specs.views.Note.{Note, note}
use Rattle.sheet.specs.views.Noted.{pattern_notes, patterns_notes, rule_notes}
use Rattle.sheet.specs.views.NoteRanges.{lows_of, highs_of}
use Rattle.sheet.proofs.Compounds.{row_count}
use Rattle.sheet.proofs.PatternReads.{PatternIs, is_anything, is_symbol, is_range, is_compound, is_variable, is_ranged, is_series, is_gauged, pattern_is}
use Rattle.codes.specs.views.Codes.{compound_code}
use Rattle.outcomes.specs.views.CellOutcome.{place_cells}
use Rattle.plain.specs.views.NotesOutcome.{flat_bytes, fixed_outcome, note_outcome}
use Rattle.plain.specs.views.NotesOutcome.{places_outcome, pairs_outcome, notes_outcome, cells_outcome}

-- The record of a head.
abbrev record_in : Result PatternRecord Refusal → PatternRecord
record_in (Ok r) = r
record_in (Err q) = Anything

same_record : (s : List ℕ) {r r' : PatternRecord} → pattern_head s ≡ Ok r → pattern_head s ≡ Ok r' → r ≡ r'
same_record s e e' = ap record_in (sym e ∙ e')

-- A record that is no compound has no more bytes than it has.
pub flat_there : (r : PatternRecord) → flat_bytes r ≤ record_bytes r
flat_there Anything = omega arith
flat_there (Symbol a) = omega arith
flat_there (Range l h) = omega arith
flat_there (Compound a n) = omega arith
flat_there (Variable v) = omega arith
flat_there (Ranged v l h) = omega arith
flat_there (Series l h) = omega arith
flat_there (Gauged g l h) = omega arith

is_out : (x : Outcome) → Contradicted x → x ≡ contradicted
is_out holds h = absurd h
is_out not_known h = absurd h
is_out contradicted h = refl

holds_no : {x : Outcome} → x ≡ holds → x ≡ contradicted → ⊥
holds_no e h = subst Holds (sym e ∙ h) tt

module _ (s : List ℕ) {r : PatternRecord} (head : pattern_head s ≡ Ok r) where
  -- It takes its bytes,
  flat_took : {k : ℕ} {p : Pattern} → (flat_bytes r ≡ 0 → ⊥) → PatternIs 3 s k p → k ≡ flat_bytes r
  flat_took flat (is_anything h) = ap flat_bytes (same_record s h head)
  flat_took flat (is_symbol h) = ap flat_bytes (same_record s h head)
  flat_took flat (is_range h range) = ap flat_bytes (same_record s h head)
  flat_took flat (is_compound h deep enough few read) = absurd (flat (ap flat_bytes (same_record s head h)))
  flat_took flat (is_variable h small) = ap flat_bytes (same_record s h head)
  flat_took flat (is_ranged h range small) = ap flat_bytes (same_record s h head)
  flat_took flat (is_series h range) = ap flat_bytes (same_record s h head)
  flat_took flat (is_gauged h range) = ap flat_bytes (same_record s h head)

  -- and where its test is contradicted, so is that of a note.
  module _ (cells low high : List ℕ) (place : ℕ) (out : fixed_outcome cells place r ≡ contradicted) where
    known : {r' : PatternRecord} → pattern_head s ≡ Ok r' → fixed_outcome cells place r' ≡ contradicted
    known h = ap (fixed_outcome cells place) (same_record s h head) ∙ out

    first_note
        : {k : ℕ} {p : Pattern} → PatternIs 3 s k p
        → (n : Note) × Mem n (pattern_notes p 3 place) × Contradicted (note_outcome cells low high n)
    first_note (is_anything h) = absurd (holds_no refl (known h))
    first_note (is_symbol {a = a} h) = (note place (Symbol a), here, subst Contradicted (sym (known h)) tt)
    first_note (is_range {l = l} {h = u} h range) = (note place (Range l u), here, subst Contradicted (sym (known h)) tt)
    first_note (is_compound {a = a} {n = n} {ps = ps} h deep enough few read) =
        let count : count_patterns ps ≡ n = row_count 2 n (drop 4 s) read in
        let same = ap (λ (c : ℕ). place_cells cells place (compound_code a c) (compound_code a c)) count in
        (note place (Compound a (count_patterns ps)), here, subst Contradicted (sym (same ∙ known h)) tt)
    first_note (is_variable h small) = absurd (holds_no refl (known h))
    first_note (is_ranged h range small) = absurd (holds_no refl (known h))
    first_note (is_series {l = l} {h = u} h range) = (note place (Series l u), here, subst Contradicted (sym (known h)) tt)
    first_note (is_gauged {g = g} {l = l} {h = u} h range) =
        (note place (Gauged g l u), here, subst Contradicted (sym (known h)) tt)

-- The arguments of a rule from argument i on, behind its first bytes.
pub record Left (arity : ℕ) (s : List ℕ) (rule : Patterns) (i at : ℕ) : Type 0 where
  pub bytes : ℕ
  pub patterns : Patterns
  pub read : read_patterns 3 (arity - i) (drop at s) ≡ took bytes patterns
  pub among : (n : Note) → Mem n (patterns_notes patterns 3 (i * 85)) → Mem n (rule_notes rule)

-- At first they are all.
pub left_all : (arity : ℕ) (s : List ℕ) {b : ℕ} {rule : Patterns} → read_patterns 3 arity s ≡ took b rule → Left arity s rule 0 0
left_all arity s {b} {rule} e =
    let all : arity - 0 ≡ arity = omega arith in
    record { bytes = b; patterns = rule; read = ap (λ (n : ℕ). read_patterns 3 n s) all ∙ e; among = λ n m. m }

module _ {arity : ℕ} {s : List ℕ} {rule : Patterns} {i at : ℕ} (left : Left arity s rule i at) (h : i < arity)
    {r : PatternRecord} (head : pattern_head (drop at s) ≡ Ok r) where
  row : RowRead pnil pcons (read_pattern 3) (arity - (i + 1)) (drop at s) left.bytes left.patterns
  row =
      let more : suc (arity - (i + 1)) ≡ arity - i = omega arith in
      row_split pnil pcons (read_pattern 3) (arity - (i + 1)) (drop at s)
      (ap (λ (n : ℕ). read_patterns 3 n (drop at s)) more ∙ left.read)

  -- A test that is contradicted is one of the rule.
  pub left_out : (cells : List ℕ) → fixed_outcome cells (i * 85) r ≡ contradicted → cells_outcome cells rule ≡ contradicted
  unfolding notes_outcome
  left_out cells out =
      let notes = rule_notes rule in
      let low = lows_of notes in
      let high = highs_of notes in
      let (n, m, one) = first_note (drop at s) head cells low high (i * 85) out (pattern_is 3 (drop at s) row.read_first) in
      let inside =
      left.among n
      (subst (λ (ps : Patterns). Mem n (patterns_notes ps 3 (i * 85))) (sym row.joined)
      (mem_left (patterns_notes row.rest 3 (i * 85 + 85)) m)) in
      is_out (notes_outcome cells notes)
      (contradicted_left (places_outcome cells low high notes) (pairs_outcome cells notes)
      (contradicted_together (note_outcome cells low high) inside one))

  -- Behind a record that is no compound the others follow.
  pub left_next : (flat_bytes r ≡ 0 → ⊥) → Left arity s rule (i + 1) (at + flat_bytes r)
  left_next flat =
      let took_bytes = flat_took (drop at s) head flat (pattern_is 3 (drop at s) row.read_first) in
      let next : (i + 1) * 85 ≡ i * 85 + 85 = omega arith in
      record {
        bytes = row.rest_bytes;
        patterns = row.rest;
        read = ap (read_patterns 3 (arity - (i + 1)))
            (sym (ap (λ (b : ℕ). drop b (drop at s)) took_bytes ∙ drop-drop (flat_bytes r) at s))
            ∙ row.read_rest;
        among = λ n m.
            left.among n
            (subst (λ (ps : Patterns). Mem n (patterns_notes ps 3 (i * 85))) (sym row.joined)
            (mem_right (pattern_notes row.first 3 (i * 85))
            (subst (λ (q : ℕ). Mem n (patterns_notes row.rest 3 q)) next m)));
      }
