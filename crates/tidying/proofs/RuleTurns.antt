-- One rule further in a sheet: what is measured and written.
use Prim.Native.Nat.{ℕ, zero, suc, ◌+◌, ◌-◌, ◌≤◌, ◌<◌}
use mathlib.Core.Path.{◌≡◌, refl, sym, ap, ◌∙◌}
use mathlib.Core.List.{List, [], ◌++◌}
use native.Mathlib.Omega.{arith}
use lib.ListN.{length, drop, length-append}
use lib.Seq.{drop-drop}
use Rattle.records.specs.Writing.{splice}
use Rattle.patterns.specs.declared.PatternRecord.{PatternRecord}
use Rattle.patterns.specs.views.PatternRecord.{records_spelling}
use Rattle.rule_rows.specs.views.Row.{rule_records}
use Rattle.tidy_rows.specs.views.TidyRow.{tidy_spelling, tidy_onward, met_in, tidy_row}
use Rattle.tidying.specs.views.TidyRows.{tidy_rows}
use Rattle.tidy_rows.proofs.RowSteps.{Written-next}
use Rattle.tidying.proofs.SameSize.{same_size}

-- With no rule left there is nothing left.
pub rows_none : (arity n : ℕ) (s : List ℕ) → n ≡ 0 → tidy_rows arity n s ≡ []
unfolding tidy_rows
rows_none arity zero s e = refl
rows_none arity (suc n) s e = absurd (omega arith)

rows_next
    : (arity n : ℕ) (s : List ℕ) → 1 ≤ n
    → tidy_rows arity n s
    ≡ tidy_row (rule_records arity s) ++ tidy_rows arity (n - 1) (drop (length (records_spelling (rule_records arity s))) s)
unfolding tidy_rows
rows_next arity zero s some = absurd (omega arith)
rows_next arity (suc n) s some =
    let e : n ≡ suc n - 1 = omega arith in
    ap
    (λ (k : ℕ). tidy_row (rule_records arity s) ++ tidy_rows arity k (drop (length (records_spelling (rule_records arity s))) s))
    e

-- The rules from i on, whose bytes begin at a position.
abbrev pub rows_from : ℕ → ℕ → List ℕ → ℕ → ℕ → List ℕ
rows_from arity rules s i at = tidy_rows arity (rules - i) (drop at s)

module _ (arity rules : ℕ) (s : List ℕ) where
  -- Before the first rule all are left, and after the last none.
  pub rows_all : rows_from arity rules s 0 3 ≡ tidy_rows arity rules (drop 3 s)
  rows_all = let e : rules - 0 ≡ rules = omega arith in ap (λ (k : ℕ). tidy_rows arity k (drop 3 s)) e

  pub rows_done : (i at : ℕ) → rules ≤ i → rows_from arity rules s i at ≡ []
  rows_done i at h = rows_none arity (rules - i) (drop at s) (omega arith)

  module _ (i at : ℕ) (h : i < rules) {from : ℕ} (e : from ≡ at + length (records_spelling (rule_records arity (drop at s)))) where
    abbrev own : List PatternRecord
    own = rule_records arity (drop at s)

    -- The first of the rules left, and the others.
    pub rows_turn : rows_from arity rules s i at ≡ tidy_row own ++ rows_from arity rules s (i + 1) from
    rows_turn =
        let less : rules - i - 1 ≡ rules - (i + 1) = omega arith in
        let behind : drop (length (records_spelling own)) (drop at s) ≡ drop from s =
        drop-drop (length (records_spelling own)) at s ∙ ap (λ (k : ℕ). drop k s) (sym e) in
        rows_next arity (rules - i) (drop at s) (omega arith) ∙ (λ j. tidy_row own ++ tidy_rows arity (less j) (behind j))

    pub turn_size
        : length (rows_from arity rules s i at) ≡ length (tidy_row own) + length (rows_from arity rules s (i + 1) from)
    turn_size = ap length rows_turn ∙ length-append (tidy_row own) (rows_from arity rules s (i + 1) from)

    -- A rule measured before its variables have numbers.
    pub turn_measured
        : {words : List ℕ} → words ≡ met_in own
        → length (rows_from arity rules s i at) ≡ length (tidy_spelling words own) + length (rows_from arity rules s (i + 1) from)
    turn_measured {words} is =
        omega (arith, turn_size, ap (λ (l : List ℕ). length (tidy_spelling l own)) is, same_size own)

    -- A rule written behind those before it.
    pub turn_row : {words : List ℕ} → words ≡ met_in own → tidy_onward (record { words = words; count = 0 }) own ≡ tidy_row own
    turn_row is = ap (λ (l : List ℕ). tidy_onward (record { words = l; count = 0 }) own) is

    pub turn_written
        : {words : List ℕ} → words ≡ met_in own → (buf : List ℕ) (end : ℕ) {left : List ℕ} {to : ℕ}
        → end + length (tidy_onward (record { words = words; count = 0 }) own) ≤ length buf
        → left ≡ splice buf end (tidy_onward (record { words = words; count = 0 }) own)
        → to ≡ end + length (tidy_onward (record { words = words; count = 0 }) own)
        → splice left to (rows_from arity rules s (i + 1) from) ≡ splice buf end (rows_from arity rules s i at)
    turn_written {words} is buf end {left} {to} room l t =
        let rest = rows_from arity rules s (i + 1) from in
        Written-next (rows_from arity rules s i at) (tidy_onward (record { words = words; count = 0 }) own) rest buf end
        (rows_turn ∙ ap (λ (k : List ℕ). k ++ rest) (sym (turn_row is))) room l t
