-- Patterns, held with what was held before them: by the record that the input begins with.
use Prim.Native.Nat.{ℕ, zero, suc, pred, ◌+◌, ◌-◌, ◌≤◌, ◌<◌}
use mathlib.Core.Path.{◌≡◌, refl, sym, ap, ◌∙◌}
use mathlib.Core.Bool.{◌&&◌}
use mathlib.Core.Logic.{◌⊎◌, inl, inr}
use mathlib.Core.List.{List}
use native.Mathlib.Omega.{arith}
use lib.ListN.{drop}
use lib.Dec.{leb}
use borrow.Author.Tests.{le-leb, lt-leb}
use Rattle.std.specs.Prelude.{Ok, Err}
use Rattle.records.specs.Refusals.{number}
use Rattle.records.specs.declared.refusal.Refusal.{Refusal}
use Rattle.records.specs.Reading.{Reading, took, refused, ask, map_reading, after}
use Rattle.records.proofs.Rows.{map_ask, took_view, refused_view, row_size}
use Rattle.terms.specs.Pattern.{Pattern, Patterns, count_patterns, the_compound, pnil, pcons}
use Rattle.patterns.specs.declared.PatternRecord.{PatternRecord}
use Rattle.patterns.specs.declared.PatternRecord.TheVariants.{Anything, Symbol, Range, Compound, Variable, Ranged, Series, Gauged}
use Rattle.patterns.specs.views.PatternRecord.{pattern_head, on_record, on_head}
use Rattle.sheet.specs.ReadSheet.{read_pattern, read_patterns}
use Rattle.patterns.specs.views.Note.{Note, note}
use Rattle.sheet.specs.views.Noted.{pattern_notes, patterns_notes}
use Rattle.sheet.specs.views.NotesBehind.{held_with, leaf_held, pattern_held, row_held}
use Rattle.sheet.proofs.RecordKinds.{by_table_lem}

-- What a compound goes on with: question 5, or question 6 and its arguments.
abbrev pub compound_of : ℕ → List ℕ → ℕ → ℕ → Reading Pattern
compound_of zero s a n = refused 5
compound_of (suc below) s a n =
    ask 6 (leb 1 n && leb n 4) (after 4 (the_compound a) (read_patterns below n (drop 4 s)))

-- A pattern is read by its record.
pub pattern_by_head : (below : ℕ) (s : List ℕ) → read_pattern below s ≡ on_head (compound_of below s) (pattern_head s)
unfolding read_pattern
pattern_by_head zero s = by_table_lem (compound_of zero s) s
pattern_by_head (suc below) s = by_table_lem (compound_of (suc below) s) s

-- No compound.
abbrev pub Flat : PatternRecord → Type 0
Flat Anything = Unit
Flat (Symbol a) = Unit
Flat (Range l h) = Unit
Flat (Compound a n) = ⊥
Flat (Variable v) = Unit
Flat (Ranged v l h) = Unit
Flat (Series l h) = Unit
Flat (Gauged g l h) = Unit

-- A record that is not of that variant is no compound.
pub flat_record : (r : PatternRecord) → ((a n : ℕ) → r ≡ Compound a n → ⊥) → Flat r
flat_record Anything other = tt
flat_record (Symbol a) other = tt
flat_record (Range l h) other = tt
flat_record (Compound a n) other = other a n refl
flat_record (Variable v) other = tt
flat_record (Ranged v l h) other = tt
flat_record (Series l h) other = tt
flat_record (Gauged g l h) other = tt

-- As many patterns are read as are asked for.
pub row_count
    : (below n : ℕ) (s : List ℕ) {k : ℕ} {ps : Patterns} → read_patterns below n s ≡ took k ps → count_patterns ps ≡ n
row_count below n s e = row_size pnil pcons (read_pattern below) count_patterns refl (λ p ps. refl) n s e

module _ {A : Type 0} (put : A → Note → A) (below place : ℕ) (before : A) (s : List ℕ) where
  abbrev noted : Pattern → A
  noted p = held_with put before (pattern_notes p below place)

  abbrev pattern_read : Reading A
  pattern_read = pattern_held put below place before s

  abbrev on_whole : PatternRecord → Reading A
  on_whole r = map_reading noted (on_record (compound_of below s) r)

  by_record : {r : PatternRecord} → pattern_head s ≡ Ok r → pattern_read ≡ on_whole r
  by_record e = ap (map_reading noted) (pattern_by_head below s ∙ ap (on_head (compound_of below s)) e)

  -- Question 4.
  pub head_no : {x : Refusal} → pattern_head s ≡ Err x → refused (number x) ≡ pattern_read
  head_no e = sym (ap (map_reading noted) (pattern_by_head below s ∙ ap (on_head (compound_of below s)) e))

  -- A record with no level below it.
  pub lowest_read : {r : PatternRecord} → pattern_head s ≡ Ok r → below ≡ 0 → leaf_held put place before r ≡ pattern_read
  lowest_read {r} e lowest =
      sym (by_record e
      ∙ ap
      (λ (k : ℕ).
      map_reading (λ (p : Pattern). held_with put before (pattern_notes p k place)) (on_record (compound_of k s) r))
      lowest)

  flat_same : (r : PatternRecord) → Flat r → leaf_held put place before r ≡ on_whole r
  flat_same Anything f = refl
  flat_same (Symbol a) f = refl
  flat_same (Range l h) f = map_ask _ 7 (leb l h) _ ∙ sym (map_ask _ 7 (leb l h) _)
  flat_same (Compound a n) f = absurd f
  flat_same (Variable v) f = map_ask _ 8 (leb v 15) _ ∙ sym (map_ask _ 8 (leb v 15) _)
  flat_same (Ranged v l h) f =
      map_ask _ 7 (leb l h) _
      ∙ ap (ask 7 (leb l h)) (map_ask _ 8 (leb v 15) _ ∙ sym (map_ask _ 8 (leb v 15) _))
      ∙ sym (map_ask _ 7 (leb l h) _)
  flat_same (Series l h) f = map_ask _ 7 (leb l h) _ ∙ sym (map_ask _ 7 (leb l h) _)
  flat_same (Gauged g l h) f = map_ask _ 7 (leb l h) _ ∙ sym (map_ask _ 7 (leb l h) _)

  -- A record that is no compound.
  pub flat_read : {r : PatternRecord} → pattern_head s ≡ Ok r → Flat r → leaf_held put place before r ≡ pattern_read
  flat_read {r} e f = flat_same r f ∙ sym (by_record e)

  module _ {a n : ℕ} (head : pattern_head s ≡ Ok (Compound a n)) (deep : below ≡ 0 → ⊥) where
    by_arity : pattern_read ≡ map_reading noted (compound_of (suc (below - 1)) s a n)
    by_arity =
        let level : below ≡ suc (below - 1) = omega arith in
        by_record head ∙ ap (λ (k : ℕ). map_reading noted (compound_of k s a n)) level

    -- Question 6.
    pub arity_no : (n < 1) ⊎ (4 < n) → refused 6 ≡ pattern_read
    arity_no (inl h) = sym (by_arity ∙ rw (lt-leb 1 n h))
    arity_no (inr h) = let enough : 1 ≤ n = omega arith in sym (by_arity ∙ rw (le-leb 1 n enough, lt-leb n 4 h))

    module _ (enough : 1 ≤ n) (few : n ≤ 4) where
      -- What is held with the compound's note, then with those of its arguments.
      abbrev own : ℕ → A
      own k = put before (note place (Compound a k))

      abbrev arguments : Reading Patterns
      arguments = read_patterns (below - 1) n (drop 4 s)

      abbrev arguments_read : Reading A
      arguments_read = row_held put (below - 1) n (place + 1) (own n) (drop 4 s)

      goes_on : pattern_read ≡ map_reading noted (after 4 (the_compound a) arguments)
      goes_on = by_arity ∙ rw (le-leb 1 n enough, le-leb n 4 few)

      -- The arguments were read, or refused.
      pub arguments_yes : {b : ℕ} {held : A} → took b held ≡ arguments_read → took (4 + b) held ≡ pattern_read
      arguments_yes {b} e =
          let (ps, read, are) = took_view _ arguments e in
          let count = row_count (below - 1) n (drop 4 s) read in
          let level : below - 1 ≡ pred below = omega arith in
          let next : place + 1 ≡ suc place = omega arith in
          ap (took (4 + b)) (are ∙ λ j. held_with put (own (sym count j)) (patterns_notes ps (level j) (next j)))
          ∙ sym (goes_on ∙ ap (λ x. map_reading noted (after 4 (the_compound a) x)) read)

      pub arguments_no : {q : ℕ} → refused q ≡ arguments_read → refused q ≡ pattern_read
      arguments_no e =
          sym (goes_on ∙ ap (λ x. map_reading noted (after 4 (the_compound a) x)) (refused_view _ arguments e))
