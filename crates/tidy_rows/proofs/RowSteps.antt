-- One record further in a rule: what is read, measured and written.
use Prim.Native.Nat.{ℕ, ◌+◌, ◌≤◌}
use mathlib.Core.Path.{◌≡◌, refl, sym, ap, ◌∙◌}
use mathlib.Core.List.{List, [], ◌∷◌, ◌++◌}
use native.Mathlib.Omega.{arith}
use lib.ListN.{length, length-append}
use Rattle.records.specs.Writing.{splice}
use Rattle.records.proofs.Writing.{splice_more}
use Rattle.patterns.specs.declared.PatternRecord.{PatternRecord}
use Rattle.patterns.specs.declared.PatternRecord.TheVariants.{Anything, Symbol, Series, Range, Compound, Variable, Ranged, Gauged}
use Rattle.patterns.specs.views.PatternRecord.{record_bytes, record_spelling, records_spelling}
use Rattle.rule_rows.specs.declared.Row.{Row}
use Rattle.rule_rows.specs.views.Row.{records_from}
use Rattle.rule_rows.specs.views.Words.{Numbering, number_record}
use Rattle.tidy_rows.specs.views.TidyRow.{tidy_in, tidy_spelling, tidy_onward}

-- A record has as many bytes as spell it, at most 6.
pub spelled_length : (r : PatternRecord) → length (record_spelling r) ≡ record_bytes r
spelled_length Anything = refl
spelled_length (Symbol a) = refl
spelled_length (Series l h) = refl
spelled_length (Gauged g l h) = refl
spelled_length (Range l h) = refl
spelled_length (Compound a n) = refl
spelled_length (Variable v) = refl
spelled_length (Ranged v l h) = refl

pub few_bytes : (r : PatternRecord) → record_bytes r ≤ 6
few_bytes Anything = omega arith
few_bytes (Symbol a) = omega arith
few_bytes (Series l h) = omega arith
few_bytes (Gauged g l h) = omega arith
few_bytes (Range l h) = omega arith
few_bytes (Compound a n) = omega arith
few_bytes (Variable v) = omega arith
few_bytes (Ranged v l h) = omega arith

-- The first record's bytes, and those of the others.
pub first_spelled
    : (r : PatternRecord) (rs : List PatternRecord)
    → length (records_spelling (r ∷ rs)) ≡ record_bytes r + length (records_spelling rs)
first_spelled r rs =
    length-append (record_spelling r) (records_spelling rs) ∙ ap (λ (k : ℕ). k + length (records_spelling rs)) (spelled_length r)

-- Where a rule ends: behind its records.
abbrev pub end_from : List ℕ → Row → ℕ
end_from s row = row.at + length (records_spelling (records_from s row))

abbrev pub size_from : List ℕ → List ℕ → Row → ℕ
size_from words s row = length (tidy_spelling words (records_from s row))

module _ (s : List ℕ) (row : Row) where
  -- Behind the last record the rule ends, and nothing is left to be written.
  module _ (none : records_from s row ≡ []) where
    pub ends_here : row.at ≡ end_from s row
    ends_here = omega (arith, ap (λ (rs : List PatternRecord). length (records_spelling rs)) none)

    pub nothing_left : (words : List ℕ) → tidy_spelling words (records_from s row) ≡ []
    nothing_left words = ap (tidy_spelling words) none

    pub nothing_onward : (x : Numbering) → tidy_onward x (records_from s row) ≡ []
    nothing_onward x = ap (tidy_onward x) none

  -- Behind the first record it ends where it did, and the others are left.
  module _ (more : Row) {what : PatternRecord} (whole : records_from s row ≡ what ∷ records_from s more) where
    pub ends_same : more.at ≡ row.at + record_bytes what → end_from s more ≡ end_from s row
    ends_same at =
        omega
        (arith, at, ap (λ (rs : List PatternRecord). length (records_spelling rs)) whole, first_spelled what (records_from s more))

    module _ (words : List ℕ) where
      pub spelled_next
          : tidy_spelling words (records_from s row)
          ≡ record_spelling (tidy_in words what) ++ tidy_spelling words (records_from s more)
      spelled_next = ap (tidy_spelling words) whole

      pub size_next : size_from words s row ≡ record_bytes (tidy_in words what) + size_from words s more
      size_next =
          ap length spelled_next
          ∙ length-append (record_spelling (tidy_in words what)) (tidy_spelling words (records_from s more))
          ∙ ap (λ (k : ℕ). k + size_from words s more) (spelled_length (tidy_in words what))

    -- Where the first record's variable got its number, it is written by it, and the others behind.
    pub onward_next
        : (x : Numbering) {y : Numbering} → y ≡ number_record what x
        → tidy_onward x (records_from s row)
        ≡ record_spelling (tidy_in y.words what) ++ tidy_onward y (records_from s more)
    onward_next x e =
        ap (tidy_onward x) whole
        ∙ ap (λ (z : Numbering). record_spelling (tidy_in z.words what) ++ tidy_onward z (records_from s more)) (sym e)

-- What is written behind a part is written behind what that part was written behind.
pub Written-next
    : (whole part rest buf : List ℕ) (end : ℕ) {left : List ℕ} {to : ℕ} → whole ≡ part ++ rest → end + length part ≤ length buf
    → left ≡ splice buf end part → to ≡ end + length part → splice left to rest ≡ splice buf end whole
Written-next whole part rest buf end {left} {to} w room l t =
    (λ j. splice (l j) (t j) rest) ∙ splice_more buf end part rest room ∙ ap (splice buf end) (sym w)
