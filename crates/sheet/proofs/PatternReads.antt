-- What a pattern that was read is, by its record.
use Prim.Native.Nat.{ℕ, zero, suc, pred, ◌+◌, ◌≤◌}
use mathlib.Core.Path.{◌≡◌, refl, sym, subst, ◌∙◌}
use mathlib.Core.Bool.{◌&&◌}
use mathlib.Core.List.{List}
use native.Mathlib.Omega.{arith}
use lib.ListN.{drop}
use lib.Dec.{leb}
use borrow.Author.Tests.{leb-true}
use Rattle.std.specs.Prelude.{Ok, Err}
use Rattle.records.specs.Reading.{Reading, took, refused, after}
use Rattle.records.proofs.Rows.{ask_holds}
use Rattle.terms.specs.Pattern.{Pattern, Patterns, anything, the_symbol, the_series, the_range, the_gauged, the_compound, variable, ranged_variable}
use Rattle.patterns.specs.declared.PatternRecord.TheVariants.{Anything, Symbol, Range, Compound, Variable, Ranged, Series, Gauged}
use Rattle.patterns.specs.views.PatternRecord.{PatternHead, pattern_head, on_head}
use Rattle.sheet.specs.ReadSheet.{read_pattern, read_patterns}
use Rattle.sheet.proofs.Compounds.{compound_of, pattern_by_head}
use Rattle.basics.proofs.Booleans.{and_both}

-- A pattern that takes so many bytes of the list, with so many levels below it.
pub data PatternIs (below : ℕ) (s : List ℕ) : ℕ → Pattern → Type 0 where
  is_anything : pattern_head s ≡ Ok Anything → PatternIs below s 1 anything
  is_symbol : {a : ℕ} → pattern_head s ≡ Ok (Symbol a) → PatternIs below s 3 (the_symbol a)
  is_range : {l h : ℕ} → pattern_head s ≡ Ok (Range l h) → l ≤ h → PatternIs below s 5 (the_range l h)
  is_compound
      : {a n b : ℕ} {ps : Patterns} → pattern_head s ≡ Ok (Compound a n) → 1 ≤ below → 1 ≤ n → n ≤ 4
      → read_patterns (pred below) n (drop 4 s) ≡ took b ps → PatternIs below s (4 + b) (the_compound a ps)
  is_variable : {v : ℕ} → pattern_head s ≡ Ok (Variable v) → v ≤ 15 → PatternIs below s 2 (variable v)
  is_ranged
      : {v l h : ℕ} → pattern_head s ≡ Ok (Ranged v l h) → l ≤ h → v ≤ 15 → PatternIs below s 6 (ranged_variable v l h)
  is_series : {l h : ℕ} → pattern_head s ≡ Ok (Series l h) → l ≤ h → PatternIs below s 5 (the_series l h)
  is_gauged : {g l h : ℕ} → pattern_head s ≡ Ok (Gauged g l h) → l ≤ h → PatternIs below s 6 (the_gauged g l h)

abbrev Reads : ℕ → List ℕ → Reading Pattern → Type 0
Reads below s (took k p) = PatternIs below s k p
Reads below s (refused q) = Unit

arguments_read_lem
    : (below : ℕ) (s : List ℕ) {a n : ℕ} → pattern_head s ≡ Ok (Compound a n) → 1 ≤ below → 1 ≤ n → n ≤ 4
    → (x : Reading Patterns) → read_patterns (pred below) n (drop 4 s) ≡ x → Reads below s (after 4 (the_compound a) x)
arguments_read_lem below s head deep some few (took b ps) read = is_compound head deep some few read
arguments_read_lem below s head deep some few (refused q) read = tt

compound_reads
    : (below : ℕ) (s : List ℕ) {a n : ℕ} → pattern_head s ≡ Ok (Compound a n) → Reads below s (compound_of below s a n)
compound_reads zero s head = tt
compound_reads (suc below) s {a} {n} head =
    ask_holds (Reads (suc below) s) 6 (leb 1 n && leb n 4)
    (after 4 (the_compound a) (read_patterns below n (drop 4 s))) tt
    (λ yes_both.
    let each = and_both (leb 1 n) (leb n 4) yes_both in
    arguments_read_lem (suc below) s head (omega arith) (leb-true 1 n each.0) (leb-true n 4 each.1)
    (read_patterns below n (drop 4 s)) refl)

head_reads
    : (below : ℕ) (s : List ℕ) (h : PatternHead) → pattern_head s ≡ h → Reads below s (on_head (compound_of below s) h)
head_reads below s (Ok Anything) head = is_anything head
head_reads below s (Ok (Symbol a)) head = is_symbol head
head_reads below s (Ok (Range l h)) head =
    ask_holds (Reads below s) 7 (leb l h) _ tt (λ range. is_range head (leb-true l h range))
head_reads below s (Ok (Compound a n)) head = compound_reads below s head
head_reads below s (Ok (Variable v)) head =
    ask_holds (Reads below s) 8 (leb v 15) _ tt (λ small. is_variable head (leb-true v 15 small))
head_reads below s (Ok (Ranged v l h)) head =
    ask_holds (Reads below s) 7 (leb l h) _ tt
    (λ range.
    ask_holds (Reads below s) 8 (leb v 15) _ tt (λ small. is_ranged head (leb-true l h range) (leb-true v 15 small)))
head_reads below s (Ok (Series l h)) head =
    ask_holds (Reads below s) 7 (leb l h) _ tt (λ range. is_series head (leb-true l h range))
head_reads below s (Ok (Gauged g l h)) head =
    ask_holds (Reads below s) 7 (leb l h) _ tt (λ range. is_gauged head (leb-true l h range))
head_reads below s (Err r) head = tt

-- A pattern that was read is what its record says.
pub pattern_is : (below : ℕ) (s : List ℕ) {k : ℕ} {p : Pattern} → read_pattern below s ≡ took k p → PatternIs below s k p
pattern_is below s e =
    subst (Reads below s) (sym (pattern_by_head below s) ∙ e) (head_reads below s (pattern_head s) refl)
