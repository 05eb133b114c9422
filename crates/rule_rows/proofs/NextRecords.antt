-- A row of records, one after another.
use Prim.Native.Nat.{ℕ, zero, suc, ◌+◌, ◌-◌, ◌≤◌, min}
use mathlib.Core.Path.{◌≡◌, refl, sym, ap, subst, ◌∙◌}
use mathlib.Core.List.{List, [], ◌∷◌}
use native.Mathlib.Omega.{arith}
use lib.ListN.{length, take, drop, length-drop}
use lib.Seq.{drop-drop}
use Rattle.std.specs.Prelude.{Option, Some, None, Ok, Err}
use Rattle.records.proofs.Parts.{rest}
use Rattle.records.specs.declared.refusal.Refusal.{Refusal}
use Rattle.patterns.specs.declared.PatternRecord.{PatternRecord}
use Rattle.patterns.specs.views.PatternRecord.{PatternHead, record_bytes, pattern_head}
use Rattle.patterns.proofs.Heads.{head_whole}
use Rattle.rule_rows.specs.declared.Row.{Row}
use Rattle.rule_rows.specs.declared.Next.{Next}
use Rattle.rule_rows.specs.views.Row.{arguments_of, head_then, row_records, records_from, records_with, Going, GoesOn}

-- There is no record where none may come or no pattern is to come, nor where none begins.
row_ends : (most patterns : ℕ) (s : List ℕ) → min most patterns ≡ 0 → row_records most patterns s ≡ []
unfolding row_records
row_ends zero patterns s e = refl
row_ends (suc most) zero s e = refl
row_ends (suc most) (suc patterns) s e = absurd (omega arith)

pub row_last : (most patterns : ℕ) (s : List ℕ) → patterns ≡ 0 → row_records most patterns s ≡ []
row_last most patterns s e = row_ends most patterns s (omega arith)

row_cut : (most patterns : ℕ) (s : List ℕ) {q : Refusal} → pattern_head s ≡ Err q → row_records most patterns s ≡ []
unfolding row_records
row_cut zero patterns s e = refl
row_cut (suc most) zero s e = refl
row_cut (suc most) (suc patterns) s e =
    ap (λ (h : PatternHead). head_then h (λ r. row_records most (patterns + arguments_of r) (drop (record_bytes r) s))) e

-- A whole record comes first, and its arguments next.
pub row_more
    : (most patterns : ℕ) (s : List ℕ) {r : PatternRecord} → 1 ≤ most → 1 ≤ patterns → pattern_head s ≡ Ok r
    → row_records most patterns s ≡ r ∷ row_records (most - 1) (patterns - 1 + arguments_of r) (drop (record_bytes r) s)
unfolding row_records
row_more zero patterns s a b e = absurd (omega arith)
row_more (suc most) zero s a b e = absurd (omega arith)
row_more (suc most) (suc patterns) s {r} a b e =
    let m : most ≡ suc most - 1 = omega arith in
    let n : patterns ≡ suc patterns - 1 = omega arith in
    ap (λ (h : PatternHead). head_then h (λ r. row_records most (patterns + arguments_of r) (drop (record_bytes r) s))) e
    ∙ (λ j. r ∷ row_records (m j) (n j + arguments_of r) (drop (record_bytes r) s))

module _ (s : List ℕ) (row : Row) where
  pub ends_last : min row.most row.patterns ≡ 0 → records_from s row ≡ []
  ends_last e = row_ends row.most row.patterns (drop row.at s) e

  module _ {h : PatternHead} (is : h ≡ pattern_head (take (length s - row.at) (drop row.at s))) where
    own : h ≡ pattern_head (drop row.at s)
    own = is ∙ ap pattern_head (rest s row.at)

    pub ends_cut : {q : Refusal} → h ≡ Err q → records_from s row ≡ []
    ends_cut e = row_cut row.most row.patterns (drop row.at s) (sym own ∙ e)

    module _ {what : PatternRecord} (e : h ≡ Ok what) {bytes : ℕ} (size : bytes ≡ record_bytes what) where
      pub record_there : Going s row → row.at + bytes ≤ length s
      record_there going =
          omega (arith, size, head_whole (drop row.at s) (sym own ∙ e), length-drop row.at s, going.inside)

      module _ {more : ℕ} (arguments : more ≡ arguments_of what) (a : 1 ≤ row.most) (b : 1 ≤ row.patterns) where
        abbrev behind : Row
        behind = record { at = row.at + bytes; patterns = row.patterns - 1 + more; most = row.most - 1 }

        pub goes_next : records_from s row ≡ what ∷ records_from s behind
        goes_next =
            row_more row.most row.patterns (drop row.at s) a b (sym own ∙ e)
            ∙ (λ j.
            what
            ∷ row_records (row.most - 1) (row.patterns - 1 + sym arguments j)
            ((ap (λ (k : ℕ). drop k (drop row.at s)) (sym size) ∙ drop-drop bytes row.at s) j))

        pub goes_on : Going s row → more ≤ 255 → GoesOn s row (Some (record { what = what; rest = behind }))
        goes_on going few = (
          record { inside = record_there going; counted = omega (arith, going.counted) },
          omega arith,
          ap (λ (k : ℕ). row.at + k) size,
        )

-- What the next record says of the row.
module _ (s : List ℕ) (row : Row) {r : Option Next} (is : records_from s row ≡ records_with s r) where
  pub goes : {next : Next} → r ≡ Some next → records_from s row ≡ next.what ∷ records_from s next.rest
  goes e = is ∙ ap (records_with s) e

  pub ends : r ≡ None → records_from s row ≡ []
  ends e = is ∙ ap (records_with s) e

  pub behind_it
      : GoesOn s row r → {next : Next} → r ≡ Some next
      → Going s next.rest × (suc next.rest.most ≡ row.most) × (next.rest.at ≡ row.at + record_bytes next.what)
  behind_it on e = subst (GoesOn s row) e on
