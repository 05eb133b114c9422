-- Two terms compare as their runs of codes say, but for the arguments of compounds.
use Prim.Native.Nat.{ℕ, ◌≤◌, ◌<◌}
use mathlib.Core.Path.{◌≡◌, refl, ap, ◌∙◌}
use mathlib.Core.Bool.{Bool, true, false, ◌&&◌, ◌||◌, not, or-false, cond}
use mathlib.Core.Logic.{◌⊎◌, inl, inr, ⊎_elim}
use native.Mathlib.Omega.{arith}
use lib.Dec.{eqb}
use borrow.Author.Tests.{lt-ltb, le-ltb, ne_eqb}
use Rattle.terms.specs.Term.{Term, count, unknown, never, symbol, numbers, compound}
use Rattle.terms.specs.Outcome.{Outcome, holds, not_known, contradicted, known, compare_spans, compare}
use Rattle.terms.specs.Outcome.{holds_never, hold_never, beside_unknown}
use Rattle.terms.specs.Filling.{WellFormed}
use Rattle.terms.proofs.Spans.{spans_numbers}
use Rattle.codes.specs.views.Codes.{symbol_code, number_code, compound_code, highest_code, never_code, term_low, term_high}
use Rattle.codes.proofs.CodeOrder.{before, same_of_sort, same_compound}
use Rattle.codes.proofs.TermRuns.{ends_ordered}
use Rattle.outcomes.specs.views.CompareCells.{is_compound, if_same, same_code, compare_runs}
use Rattle.outcomes.proofs.TwoTests.{not_both, one_of}
use Rattle.outcomes.proofs.FoundRuns.{symbol_leaf, number_leaf, compound_code_lem}

-- How two terms compare by their runs, where x is what the arguments of compounds say.
abbrev pub by_runs : Term → Term → Outcome → Outcome
by_runs unknown u x = compare unknown u
by_runs never u x = contradicted
by_runs (symbol a) u x = compare (symbol a) u
by_runs (numbers a b) u x = compare (numbers a b) u
by_runs (compound a ts) unknown x = compare (compound a ts) unknown
by_runs (compound a ts) never x = contradicted
by_runs (compound a ts) (symbol b) x = contradicted
by_runs (compound a ts) (numbers b c) x = contradicted
by_runs (compound a ts) (compound b us) x = cond (eqb a b && eqb (count ts) (count us)) x contradicted

module _ (x y u v : ℕ) (arguments unsure : Outcome) where
  -- Runs with no code in common differ.
  pub runs_differ : (y < u) ⊎ (v < x) → compare_runs x y u v arguments unsure ≡ contradicted
  runs_differ d =
      ap
      (λ (b : Bool). if_same (cond b contradicted (cond (eqb x y && eqb u v) holds not_known)) (same_code x arguments) unsure)
      (one_of _ _ (⊎_elim (λ h. inl (lt-ltb y u h)) (λ h. inr (lt-ltb v x h)) d))

  -- Where they have one and one of them has another, it is unsure.
  pub runs_overlap : u ≤ y → x ≤ v → (x ≡ y → ⊥) ⊎ (u ≡ v → ⊥) → compare_runs x y u v arguments unsure ≡ unsure
  runs_overlap left right several =
      (rw (le-ltb y u left, le-ltb v x right))
      ∙ ap (λ (b : Bool). if_same (cond b holds not_known) (same_code x arguments) unsure)
      (not_both _ _ (⊎_elim (λ h. inl (ne_eqb x y h)) (λ h. inr (ne_eqb u v h)) several))

-- Two single codes, of which none is record 35's, are the same, or differ.
single_codes
    : (a b : ℕ) (x unsure : Outcome) {is compounds : Bool} → eqb a b ≡ is → is_compound a ≡ compounds → (a ≡ never_code → ⊥)
    → compare_runs a a b b x unsure ≡ cond is (cond compounds x holds) contradicted
single_codes a b x unsure {is} {compounds} same inner other =
    (λ i. if_same (spans_numbers a a b b refl refl i) (cond (is_compound a) x (known (not (ne_eqb a never_code other i)))) unsure)
    ∙ (λ i. if_same (known (same i)) (cond (inner i) x holds) unsure) ∙ chosen is (cond compounds x holds) unsure
  where
    chosen : (b : Bool) (rest unsure : Outcome) → if_same (known b) rest unsure ≡ cond b rest contradicted
    chosen true rest unsure = refl
    chosen false rest unsure = refl

-- Nothing is left to ask of symbols that are the same,
chosen_known : (b : Bool) → cond b holds contradicted ≡ known b
chosen_known true = refl
chosen_known false = refl

-- nor of numbers and spans.
nothing_left : (o : Outcome) → if_same o holds not_known ≡ o
nothing_left holds = refl
nothing_left not_known = refl
nothing_left contradicted = refl

-- Spans compare by their codes as by their numbers.
spans_compare
    : (a b c d : ℕ) → compare_spans (number_code a) (number_code b) (number_code c) (number_code d) ≡ compare_spans a b c d
spans_compare a b c d =
    let k : ℕ = 0x3000000 in
    λ i. cond (before k b c i || before k d a i) contradicted (cond (same_of_sort k a b i && same_of_sort k c d i) holds not_known)

-- What is known of two terms, where their runs say it.
module _ (t u : Term) (x : Outcome) where
  -- Where it is unsure, they differ if one of them holds record 35.
  abbrev unsure : Outcome
  unsure = beside_unknown (holds_never t || holds_never u)

  abbrev compared : Outcome
  compared = compare_runs (term_low t) (term_high t) (term_low u) (term_high u) x unsure

  abbrev differ : (term_high t < term_low u) ⊎ (term_high u < term_low t) → compared ≡ contradicted
  differ = runs_differ (term_low t) (term_high t) (term_low u) (term_high u) x unsure

-- Every code is among those of an unknown but record 35's, which is above them.
all_codes_lem : (t : Term) → WellFormed t → ((symbol_code 0 ≤ term_high t) × (term_high t ≤ highest_code)) ⊎ (t ≡ never)
all_codes_lem unknown ok = inl (omega arith, omega arith)
all_codes_lem never ok = inr refl
all_codes_lem (symbol a) ok = inl (omega arith, omega arith)
all_codes_lem (numbers a b) ok = inl (omega arith, omega (arith, ok.1))
all_codes_lem (compound a ts) ok = inl (omega arith, omega (arith, ok.0, ok.2))

module _ (t : Term) (x : Outcome) (ok : WellFormed t) where
  -- So beside an unknown it is unsure, or record 35 differs from it;
  first_unknown : compared unknown t x ≡ compare unknown t
  first_unknown =
      elim (all_codes_lem t ok) [
        | inl codes ↦
            let ordered = ends_ordered t ok in
            runs_overlap (symbol_code 0) highest_code (term_low t) (term_high t) x _ (omega arith) codes.0 (inl (λ e. omega arith))
        | inr is ↦ rw is (differ unknown never x (inl (omega arith)))
      ]

  second_unknown : compared t unknown x ≡ unsure t unknown x
  second_unknown =
      elim (all_codes_lem t ok) [
        | inl codes ↦
            let ordered = ends_ordered t ok in
            runs_overlap (term_low t) (term_high t) (symbol_code 0) highest_code x _ codes.0 (omega arith) (inr (λ e. omega arith))
        | inr is ↦ rw is (differ never unknown x (inr (omega arith)))
      ]

  -- and record 35 differs from every term, itself included.
  first_never : compared never t x ≡ contradicted
  first_never =
      elim (all_codes_lem t ok) [
        | inl codes ↦ differ never t x (inr (omega arith))
        | inr is ↦ rw is refl
      ]

  second_never : compared t never x ≡ contradicted
  second_never =
      elim (all_codes_lem t ok) [
        | inl codes ↦ differ t never x (inl (omega arith))
        | inr is ↦ rw is refl
      ]

-- Two runs compare as their terms do.
pub runs_compare : (t u : Term) (x : Outcome) → WellFormed t → WellFormed u → compared t u x ≡ by_runs t u x
runs_compare unknown u x ok ok-other = first_unknown u x ok-other
runs_compare never u x ok ok-other = first_never u x ok-other
runs_compare (symbol a) unknown x ok ok-other = second_unknown (symbol a) x ok
runs_compare (symbol a) never x ok ok-other = second_never (symbol a) x ok
runs_compare (symbol a) (symbol b) x ok ok-other =
    single_codes (symbol_code a) (symbol_code b) x _ (same_of_sort 0x1000000 a b) (symbol_leaf a ok) (λ e. omega arith)
    ∙ chosen_known (eqb a b)
runs_compare (symbol a) (numbers b c) x ok ok-other = differ (symbol a) (numbers b c) x (inl (omega arith))
runs_compare (symbol a) (compound b us) x ok ok-other = differ (symbol a) (compound b us) x (inl (omega arith))
runs_compare (numbers a b) unknown x ok ok-other = second_unknown (numbers a b) x ok
runs_compare (numbers a b) never x ok ok-other = second_never (numbers a b) x ok
runs_compare (numbers a b) (symbol c) x ok ok-other = differ (numbers a b) (symbol c) x (inr (omega arith))
runs_compare (numbers a b) (numbers c d) x ok ok-other =
    let spans = compare_spans (number_code a) (number_code b) (number_code c) (number_code d) in
    let other = ne_eqb (number_code a) never_code (λ e. omega (arith, ok.0, ok.1)) in
    (λ i. if_same spans (cond (number_leaf a i) x (known (not (other i)))) not_known) ∙ nothing_left spans ∙ spans_compare a b c d
runs_compare (numbers a b) (compound c us) x ok ok-other =
    differ (numbers a b) (compound c us) x (inr (omega (arith, ok-other.0, ok-other.2)))
runs_compare (compound a ts) unknown x ok ok-other =
    second_unknown (compound a ts) x ok ∙ ap beside_unknown (or-false (hold_never ts))
runs_compare (compound a ts) never x ok ok-other = second_never (compound a ts) x ok
runs_compare (compound a ts) (symbol b) x ok ok-other = differ (compound a ts) (symbol b) x (inr (omega arith))
runs_compare (compound a ts) (numbers b c) x ok ok-other =
    differ (compound a ts) (numbers b c) x (inl (omega (arith, ok.0, ok.2)))
runs_compare (compound a ts) (compound b us) x ok ok-other =
    single_codes (compound_code a (count ts)) (compound_code b (count us)) x _
    (same_compound a (count ts) b (count us) (omega (arith, ok.2)) (omega (arith, ok-other.2)))
    (compound_code_lem a (count ts) ok.0 ok.2) (λ e. omega (arith, ok.0, ok.2))
