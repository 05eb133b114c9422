-- How long a tidy form can be: three times what it was made from, and 6 bytes a record.
use Prim.Native.Nat.{ℕ, zero, suc, ◌+◌, ◌*◌, ◌≤◌}
use mathlib.Core.Path.{◌≡◌, refl, ap, ◌∙◌}
use mathlib.Core.List.{List, [], ◌∷◌}
use native.Mathlib.Omega.{arith}
use lib.ListN.{length, drop, length-drop, length-append}
use Rattle.patterns.specs.declared.PatternRecord.{PatternRecord}
use Rattle.patterns.specs.declared.PatternRecord.TheVariants.{Anything, Symbol, Series, Range, Compound, Variable, Ranged, Gauged}
use Rattle.std.specs.Prelude.{Ok, Err}
use Rattle.patterns.specs.views.PatternRecord.{PatternHead, record_bytes, record_spelling, records_spelling, pattern_head}
use Rattle.patterns.proofs.Heads.{head_whole}
use Rattle.rule_rows.specs.views.Row.{arguments_of, head_then, row_records, rule_records}
use Rattle.rule_rows.specs.views.Words.{Numbering, number_record}
use Rattle.tidy_rows.specs.views.TidyRow.{tidy_in, tidy_onward, met_in, tidy_row}
use Rattle.tidying.specs.views.TidyRows.{tidy_rows}
use Rattle.tidy_rows.proofs.RowSteps.{spelled_length, few_bytes, first_spelled}

-- Only a variable's record grows: from 2 bytes to 6 at most.
grows : (words : List ℕ) (r : PatternRecord) → record_bytes (tidy_in words r) ≤ 3 * record_bytes r
grows words Anything = omega arith
grows words (Symbol a) = omega arith
grows words (Series l h) = omega (arith, few_bytes (tidy_in words (Series l h)))
grows words (Gauged g l h) = omega (arith, few_bytes (tidy_in words (Gauged g l h)))
grows words (Range l h) = omega arith
grows words (Compound a n) = omega arith
grows words (Variable v) = few_bytes (tidy_in words (Variable v))
grows words (Ranged v l h) = omega (arith, few_bytes (tidy_in words (Ranged v l h)))

-- The bytes of a row, of which the first record is written by its number.
onward_length
    : (x : Numbering) (r : PatternRecord) (rs : List PatternRecord)
    → length (tidy_onward x (r ∷ rs))
    ≡ record_bytes (tidy_in (number_record r x).words r) + length (tidy_onward (number_record r x) rs)
onward_length x r rs =
    let own = tidy_in (number_record r x).words r in
    let rest = tidy_onward (number_record r x) rs in
    length-append (record_spelling own) rest ∙ ap (λ (k : ℕ). k + length rest) (spelled_length own)

onward_three : (x : Numbering) (rs : List PatternRecord) → length (tidy_onward x rs) ≤ 3 * length (records_spelling rs)
onward_three x [] = omega arith
onward_three x (r ∷ rs) =
    omega
    (arith, onward_length x r rs, first_spelled r rs, grows (number_record r x).words r, onward_three (number_record r x) rs)

onward_six : (x : Numbering) (rs : List PatternRecord) → length (tidy_onward x rs) ≤ 6 * length rs
onward_six x [] = omega arith
onward_six x (r ∷ rs) =
    omega (arith, onward_length x r rs, few_bytes (tidy_in (number_record r x).words r), onward_six (number_record r x) rs)

row_three : (rs : List PatternRecord) → length (tidy_row rs) ≤ 3 * length (records_spelling rs)
row_three rs = onward_three (record { words = met_in rs; count = 0 }) rs

row_six : (rs : List PatternRecord) → length (tidy_row rs) ≤ 6 * length rs
row_six rs = onward_six (record { words = met_in rs; count = 0 }) rs

-- A row has at most as many records as may come, and they are bytes of its list.
row_few : (most patterns : ℕ) (s : List ℕ) → length (row_records most patterns s) ≤ most
unfolding row_records
row_few zero patterns s = omega arith
row_few (suc most) zero s = omega arith
row_few (suc most) (suc patterns) s =
    go (pattern_head s) (λ r. row_few most (patterns + arguments_of r) (drop (record_bytes r) s))
  where
    go
        : (h : PatternHead)
        → ((r : PatternRecord) → length (row_records most (patterns + arguments_of r) (drop (record_bytes r) s)) ≤ most)
        → length (head_then h (λ r. row_records most (patterns + arguments_of r) (drop (record_bytes r) s))) ≤ suc most
    go (Ok r) rest = omega (arith, rest r)
    go (Err q) rest = omega arith

row_inside : (most patterns : ℕ) (s : List ℕ) → length (records_spelling (row_records most patterns s)) ≤ length s
unfolding row_records
row_inside zero patterns s = omega arith
row_inside (suc most) zero s = omega arith
row_inside (suc most) (suc patterns) s =
    go (pattern_head s) refl (λ r. row_inside most (patterns + arguments_of r) (drop (record_bytes r) s))
  where
    go
        : (h : PatternHead) → pattern_head s ≡ h
        → ((r : PatternRecord)
        → length (records_spelling (row_records most (patterns + arguments_of r) (drop (record_bytes r) s)))
        ≤ length (drop (record_bytes r) s))
        → length (records_spelling (head_then h (λ r. row_records most (patterns + arguments_of r) (drop (record_bytes r) s))))
        ≤ length s
    go (Ok r) e rest =
        let others = row_records most (patterns + arguments_of r) (drop (record_bytes r) s) in
        omega (arith, first_spelled r others, rest r, length-drop (record_bytes r) s, head_whole s e)
    go (Err q) e rest = omega arith

-- The tidy forms of so many rules have at most three times the bytes, and at most 680 records of 6 bytes a rule.
pub rows_three : (arity rules : ℕ) (s : List ℕ) → length (tidy_rows arity rules s) ≤ 3 * length s
unfolding tidy_rows
rows_three arity zero s = omega arith
rows_three arity (suc rules) s =
    let rs = rule_records arity s in
    let size = length (records_spelling rs) in
    omega (
      arith,
      length-append (tidy_row rs) (tidy_rows arity rules (drop size s)),
      row_three rs,
      row_inside 680 arity s,
      rows_three arity rules (drop size s),
      length-drop size s,
    )

pub rows_few : (arity rules : ℕ) (s : List ℕ) → length (tidy_rows arity rules s) ≤ 4080 * rules
unfolding tidy_rows
rows_few arity zero s = omega arith
rows_few arity (suc rules) s =
    let rs = rule_records arity s in
    let size = length (records_spelling rs) in
    omega (
      arith,
      length-append (tidy_row rs) (tidy_rows arity rules (drop size s)),
      row_six rs,
      row_few 680 arity s,
      rows_few arity rules (drop size s),
    )
