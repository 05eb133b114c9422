-- Laws of the arrays of the variables' common ranges.
use Prim.Native.Nat.{ℕ, zero, suc, ◌+◌, ◌<◌, min, max}
use mathlib.Core.Path.{◌≡◌, refl, sym, ap, subst, ◌∙◌}
use mathlib.Core.List.{List, [], ◌∷◌, map}
use mathlib.Core.Option.{Option, some, none}
use native.Mathlib.Decide.{ℕ_discrete}
use native.Mathlib.Omega.{arith}
use lib.ListN.{length, get_or, set, replicate, length-set}
use borrow.Author.Tests.{eq-eqb, ne_eqb}
use lib.Seq.{ext_get_or, get_or-set_same, get_or-set_other}
use Rattle.basics.specs.Lists.{count_from}
use Rattle.terms.specs.Term.{Wide}
use Rattle.terms.specs.RuleTests.{Range, common_part}
use Rattle.patterns.specs.declared.PatternRecord.{PatternRecord}
use Rattle.patterns.specs.declared.PatternRecord.TheVariants.{Anything, Symbol, Range as RangeOf, Compound, Variable, Ranged, Series, Gauged}
use Rattle.patterns.specs.views.Note.{Note}
use Rattle.patterns.specs.views.NoteCode.{note_of, code_record, Fitting}
use Rattle.sheet.specs.views.NoteArray.{notes_in}
use Rattle.sheet.specs.views.NoteRanges.{record_range, range_in, low_end, high_end, for_variables, lows_of, highs_of}
use Rattle.patterns.proofs.NoteCodes.{code_fits}
use Rattle.sheet.proofs.NoteArrays.{notes_next}
use Rattle.sheet.proofs.CommonRanges.{common_none, range_append}

listed_length : (f : ℕ → ℕ) (i n : ℕ) → length (map f (count_from i n)) ≡ n
listed_length f i zero = refl
listed_length f i (suc n) = ap suc (listed_length f (suc i) n)

listed_at : (f : ℕ → ℕ) (i n k : ℕ) → k < n → get_or (map f (count_from i n)) k 0 ≡ f (i + k)
listed_at f i zero k h = absurd (omega arith)
listed_at f i (suc n) zero h = ap f (omega arith)
listed_at f i (suc n) (suc k) h = listed_at f (suc i) n k (omega arith) ∙ ap f (omega arith)

-- There are 16 entries.
pub variables_length : (f : ℕ → ℕ) → length (for_variables f) ≡ 16
unfolding for_variables
variables_length f = listed_length f 0 16

-- The entry of a variable.
pub variable_at : (f : ℕ → ℕ) (v : ℕ) → v < 16 → get_or (for_variables f) v 0 ≡ f v
unfolding for_variables
variable_at f v h = listed_at f 0 16 v h ∙ ap f (omega arith)

-- Entries that are the same for each variable.
pub variables_same : (f g : ℕ → ℕ) → ((v : ℕ) → v < 16 → f v ≡ g v) → for_variables f ≡ for_variables g
variables_same f g same =
    ext_get_or 0 (for_variables f) (for_variables g) (variables_length f ∙ sym (variables_length g))
    (λ v h.
    let below : v < 16 = omega (arith, variables_length f) in
    variable_at f v below ∙ same v below ∙ sym (variable_at g v below))

-- One entry changed.
pub variable_set
    : (f g : ℕ → ℕ) (u : ℕ) {x : ℕ} → u < 16 → x ≡ g u → ((v : ℕ) → (v ≡ u → ⊥) → f v ≡ g v)
    → set (for_variables f) u x ≡ for_variables g
variable_set f g u {x} inside here other =
    let set-length : length (set (for_variables f) u x) ≡ 16 = length-set (for_variables f) u x ∙ variables_length f in
    ext_get_or 0 (set (for_variables f) u x) (for_variables g) (set-length ∙ sym (variables_length g))
    (λ v h.
    let below : v < 16 = omega (arith, set-length) in
    elim (ℕ_discrete v u) [
      | yes same ↦
          ap (λ (k : ℕ). get_or (set (for_variables f) u x) k 0) same
          ∙ get_or-set_same (for_variables f) u x 0 (omega (arith, variables_length f))
          ∙ here
          ∙ sym (ap (λ (k : ℕ). get_or (for_variables g) k 0) same ∙ variable_at g u inside)
      | no apart ↦
          get_or-set_other (for_variables f) u v x 0 apart
          ∙ variable_at f v below
          ∙ other v apart
          ∙ sym (variable_at g v below)
    ])

-- With no notes there are no ranges.
pub lows_none : replicate {A = ℕ} 16 0 ≡ lows_of []
unfolding for_variables
lows_none = refl

pub highs_none : replicate {A = ℕ} 16 65536 ≡ highs_of []
unfolding for_variables
highs_none = refl

-- The ends of the common part of two ranges, and of a range with that of another variable.
low_common
    : (x : Option Range) (l h : ℕ) → low_end (common_part x (some (record { low = l; high = h }))) ≡ max (low_end x) l
low_common none l h = omega arith
low_common (some x) l h = refl

high_common
    : (x : Option Range) (l h : ℕ) → h < 65536
    → high_end (common_part x (some (record { low = l; high = h }))) ≡ min (high_end x) h
high_common none l h k = omega arith
high_common (some x) l h k = refl

-- A record that is no ranged variable gives no range.
pub no_range_lem
    : (r : PatternRecord) → ((u l h : ℕ) → r ≡ Ranged u l h → ⊥) → (v : ℕ) → record_range r v ≡ none
no_range_lem Anything other v = refl
no_range_lem (Symbol a) other v = refl
no_range_lem (RangeOf l h) other v = refl
no_range_lem (Compound a n) other v = refl
no_range_lem (Variable u) other v = refl
no_range_lem (Ranged u l h) other v = absurd (other u l h refl)
no_range_lem (Series l h) other v = refl
no_range_lem (Gauged g l h) other v = refl

-- The fields of a ranged record that a number stands for.
pub ranged_fits : (c : ℕ) {u l h : ℕ} → code_record c ≡ Ranged u l h → (u < 16) × Wide l × Wide h
ranged_fits c e = subst Fitting e (code_fits c)

module _ (codes : List ℕ) (i : ℕ) (inside : i < length codes) where
  next_range
      : {r : PatternRecord} → code_record (get_or codes i 0) ≡ r → (v : ℕ)
      → range_in (notes_in codes (i + 1)) v ≡ common_part (range_in (notes_in codes i) v) (record_range r v)
  next_range {r} e v =
      let own = note_of (get_or codes i 0) in
      ap (λ (l : List Note). range_in l v) (notes_next codes i inside)
      ∙ range_append (notes_in codes i) (own ∷ []) v
      ∙ ap (common_part (range_in (notes_in codes i) v))
      (common_none (record_range own.what v) ∙ ap (λ (x : PatternRecord). record_range x v) e)

  -- A record with no range leaves every range.
  pub ranges_kept
      : {r : PatternRecord} → code_record (get_or codes i 0) ≡ r → ((v : ℕ) → record_range r v ≡ none)
      → (end : Option Range → ℕ)
      → for_variables (λ (v : ℕ). end (range_in (notes_in codes i) v))
      ≡ for_variables (λ (v : ℕ). end (range_in (notes_in codes (i + 1)) v))
  ranges_kept e no_range_lem end =
      variables_same _ _
      (λ v below.
      let was = range_in (notes_in codes i) v in
      ap end (sym (next_range e v ∙ ap (common_part was) (no_range_lem v) ∙ common_none was)))

  -- A ranged record narrows the range of its variable: either end of it.
  module _ {u l h : ℕ} (e : code_record (get_or codes i 0) ≡ Ranged u l h) where
    abbrev own : Option Range
    own = some (record { low = l; high = h })

    abbrev narrowed : ℕ → Option Range
    narrowed v = common_part (range_in (notes_in codes i) v) (record_range (Ranged u l h) v)

    narrowed_own : narrowed u ≡ common_part (range_in (notes_in codes i) u) own
    narrowed_own =
        let here : record_range (Ranged u l h) u ≡ own = rw (eq-eqb u u refl, record_range) in
        ap (common_part (range_in (notes_in codes i) u)) here

    narrowed_other : (v : ℕ) → (v ≡ u → ⊥) → range_in (notes_in codes i) v ≡ narrowed v
    narrowed_other v apart =
        let there : record_range (Ranged u l h) v ≡ none = rw (ne_eqb u v (λ same. apart (sym same)), record_range) in
        let was = range_in (notes_in codes i) v in
        sym (ap (common_part was) there ∙ common_none was)

    abbrev small : u < 16
    small = (ranged_fits (get_or codes i 0) e).0

    end_narrowed
        : (end : Option Range → ℕ) (join : ℕ → ℕ → ℕ) (x : ℕ)
        → ((o : Option Range) → end (common_part o own) ≡ join (end o) x)
        → {ends : List ℕ} → ends ≡ for_variables (λ (v : ℕ). end (range_in (notes_in codes i) v))
        → set ends u (join (get_or ends u 0) x) ≡ for_variables (λ (v : ℕ). end (range_in (notes_in codes (i + 1)) v))
    end_narrowed end join x common {ends} was =
        let before : ℕ → ℕ = λ v. end (range_in (notes_in codes i) v) in
        let there : get_or ends u 0 ≡ before u = ap (λ (xs : List ℕ). get_or xs u 0) was ∙ variable_at before u small in
        ap (λ (xs : List ℕ). set xs u (join (get_or ends u 0) x)) was
        ∙ variable_set before (λ (v : ℕ). end (narrowed v)) u small
        (ap (λ (y : ℕ). join y x) there ∙ sym (ap end narrowed_own ∙ common (range_in (notes_in codes i) u)))
        (λ v apart. ap end (narrowed_other v apart))
        ∙ variables_same _ _ (λ v below. ap end (sym (next_range e v)))

    pub low_narrowed
        : {low : List ℕ} → low ≡ lows_of (notes_in codes i)
        → set low u (max (get_or low u 0) l) ≡ lows_of (notes_in codes (i + 1))
    low_narrowed was = end_narrowed low_end max l (λ o. low_common o l h) was

    pub high_narrowed
        : {high : List ℕ} → high ≡ highs_of (notes_in codes i)
        → set high u (min (get_or high u 0) h) ≡ highs_of (notes_in codes (i + 1))
    high_narrowed was = end_narrowed high_end min h (λ o. high_common o l h (ranged_fits (get_or codes i 0) e).2) was
