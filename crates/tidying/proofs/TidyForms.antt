-- The tidy form of an accepted sheet, rule by rule and record by record.
use Prim.Native.Nat.{ℕ, suc, ◌+◌, ◌/◌, ◌%◌, ◌≤◌, ◌<◌, min}
use mathlib.Core.Path.{◌≡◌, refl, sym, ap, subst, ◌∙◌}
use mathlib.Core.Bool.{Bool, true, false, cond, ◌&&◌}
use mathlib.Core.List.{List, [], ◌∷◌, ◌++◌, map}
use mathlib.Core.Option.{Option, some, none}
use native.Mathlib.Omega.{arith}
use lib.Dec.{eqb}
use lib.ListN.{length, get_or, drop}
use lib.Seq.{drop_at}
use borrow.Author.Tests.{lt-ltb, le-ltb, eq-eqb, ne_eqb, leb-false}
use Rattle.basics.specs.Lists.{All, any_of}
use Rattle.basics.proofs.Booleans.{both_true, is_true, true_is}
use Rattle.basics.proofs.Filters.{any_mem, mem_any}
use Rattle.terms.specs.Pattern.{Patterns, count_patterns}
use Rattle.terms.specs.RuleTests.{Occurrence, patterns_range, rule_variables}
use Rattle.terms.specs.RuleTests as tests
use Rattle.terms.specs.Accepted.{AcceptedRule}
use Rattle.terms.proofs.Ascending.{Ascends}
use Rattle.terms.proofs.PairTests.{variable_place, all_variables_ascend}
use Rattle.terms.proofs.Ranges.{WideRange, ranges_wide}
use Rattle.terms.proofs.TermPlaces.{extent}
use Rattle.patterns.specs.declared.PatternRecord.{PatternRecord}
use Rattle.patterns.specs.declared.PatternRecord.TheVariants.{Anything, Symbol, Series, Range, Compound, Variable, Ranged, Gauged}
use Rattle.sheet.specs.WriteSheet.{patterns_bytes, rules_bytes}
use Rattle.patterns.specs.views.NoteCode.{Fitting}
use Rattle.sheet.specs.views.NoteRanges.{low_end, high_end}
use Rattle.patterns.specs.views.PatternRecord.{records_spelling}
use Rattle.sheet.proofs.RangeArrays.{variable_at, variables_same}
use Rattle.tidy.specs.TidyRule.{is_named, stands_again, is_again, is_repeated, new_number, tidy_rule}
use Rattle.tidy.proofs.NewNumbers.{number_lt}
use Rattle.tidy.proofs.TidyAccepted.{all_names_small}
use Rattle.tidy.proofs.TidyRecords.{patterns_records, records_spell, single_record, repeated_record, tidy_record, tidy_spelling_lem}
use Rattle.tidy.proofs.Uses.{uses, repeated_uses}
use Rattle.rule_rows.specs.views.Words.{packed_word, number_record, word_high, word_uses, word_place, Numbering}
use Rattle.tidy_rows.specs.views.TidyRow.{tidy_word, tidy_in, tidy_spelling, met_in, tidy_row}
use Rattle.tidying.specs.views.TidyRows.{tidy_rows}
use Rattle.rule_rows.proofs.WordLaws.{word_parts}
use Rattle.tidy_rows.proofs.TidyWords.{tidy_by}
use Rattle.tidying.proofs.Settled.{number_records, numbered_in, row_is}
use Rattle.tidying.proofs.RuleRecords.{records_fit, rule_row}
use Rattle.tidying.proofs.MetVariables.{record_names, times, name_at, patterns_names, patterns_over}
use Rattle.tidying.proofs.MetVariables.{known_word, EndsFit, range_fits, met_says}
use Rattle.tidying.proofs.NumberedVariables.{number_names, word_with, is_given, words_after, after, numbered_all}

-- The word of a repeated variable is written as one, with its number,
repeated_word
    : (n : ℕ) (x : Option tests.Range) → n < 256 → EndsFit x → WideRange x
    → tidy_word (packed_word n 3 (high_end x) (low_end x)) ≡ repeated_record n x
repeated_word n none small fits wide =
    let w = packed_word n 3 65536 0 in
    let p = word_parts n 3 65536 0 (omega arith) (omega arith) (omega arith) in
    let number : w / 0x8_0000_0000 % 256 ≡ n = omega (arith, p.number) in
    sym (tidy_by w false true (le-ltb (word_uses w) 2 (omega (arith, p.uses))) (eq-eqb (word_high w) 65536 p.high))
    ∙ ap Variable number
repeated_word n (some x) small fits wide =
    let w = packed_word n 3 x.high x.low in
    let p = word_parts n 3 x.high x.low (omega arith) (omega arith) fits.low in
    let number : w / 0x8_0000_0000 % 256 ≡ n = omega (arith, p.number) in
    let high : w / 0x1_0000 % 0x1_0000 ≡ x.high = omega (arith, fits.low, wide) in
    sym
    (tidy_by w false false (le-ltb (word_uses w) 2 (omega (arith, p.uses)))
    (ne_eqb (word_high w) 65536 (λ e. omega (arith, e, p.high, wide))))
    ∙ (λ j. Ranged (number j) (p.low j) (high j))

-- and that of one that stands once as anything or its range.
single_word
    : (u : ℕ) (x : Option tests.Range) → u < 2 → EndsFit x → WideRange x
    → tidy_word (packed_word 0 u (high_end x) (low_end x)) ≡ single_record x
single_word u none small fits wide =
    let w = packed_word 0 u 65536 0 in
    let p = word_parts 0 u 65536 0 (omega arith) (omega arith) (omega arith) in
    sym (tidy_by w true true (lt-ltb (word_uses w) 2 (omega (arith, p.uses))) (eq-eqb (word_high w) 65536 p.high))
single_word u (some x) small fits wide =
    let w = packed_word 0 u x.high x.low in
    let p = word_parts 0 u x.high x.low (omega arith) (omega arith) fits.low in
    let high : w / 0x1_0000 % 0x1_0000 ≡ x.high = omega (arith, fits.low, wide) in
    sym
    (tidy_by w true false (lt-ltb (word_uses w) 2 (omega (arith, p.uses)))
    (ne_eqb (word_high w) 65536 (λ e. omega (arith, e, p.high, wide))))
    ∙ (λ j. Range (p.low j) (high j))

-- Numbers go by the variables that records name.
number_names_lem : (x : Numbering) (rs : List PatternRecord) → number_records x rs ≡ number_names x (record_names rs)
number_names_lem x [] = refl
number_names_lem x (Anything ∷ rs) = number_names_lem x rs
number_names_lem x (Symbol a ∷ rs) = number_names_lem x rs
number_names_lem x (Series l h ∷ rs) = number_names_lem x rs
number_names_lem x (Range l h ∷ rs) = number_names_lem x rs
number_names_lem x (Gauged g l h ∷ rs) = number_names_lem x rs
number_names_lem x (Compound a n ∷ rs) = number_names_lem x rs
number_names_lem x (Variable v ∷ rs) = number_names_lem (number_record (Variable v) x) rs
number_names_lem x (Ranged v l h ∷ rs) = number_names_lem (number_record (Ranged v l h) x) rs

uses_times : (v : ℕ) (os : List Occurrence) → times v (map name_at os) ≡ uses v os
uses_times v [] = refl
uses_times v (o ∷ os) = ap (λ (k : ℕ). cond (eqb o.name v) (suc k) k) (uses_times v os)

and_false : (a : Bool) → (a && false) ≡ false
and_false true = refl
and_false false = refl

module _ (arity : ℕ) (rule : Patterns) (accepted : AcceptedRule arity rule) where
  abbrev os : List Occurrence
  os = rule_variables rule

  abbrev rs : List PatternRecord
  rs = patterns_records rule

  abbrev end : ℕ
  end = 0 + extent (count_patterns rule) 4

  up : Ascends variable_place 0 end os
  up = all_variables_ascend rule 4 0 accepted.sound

  fits : (v : ℕ) → EndsFit (patterns_range rule v)
  fits v = subst EndsFit (patterns_over rule v) (range_fits rs v (records_fit arity rule accepted))

  abbrev words : List ℕ
  words = words_after 0 end os up (patterns_range rule) fits os

  -- What is known behind the records, and with the numbers.
  known_first : met_in rs ≡ words_after 0 end os up (patterns_range rule) fits []
  known_first =
      met_says rs (records_fit arity rule accepted)
      ∙ variables_same _ _
      (λ v small.
      let many = ap (times v) (sym (patterns_names rule 4 0)) ∙ uses_times v os in
      (λ j. known_word (many j) (patterns_over rule v j))
      ∙ ap (λ (c : Bool). word_with 0 end os up (patterns_range rule) fits c v) (sym (and_false (is_repeated os v))))

  known_last : numbered_in rs ≡ words
  known_last =
      let first = after 0 end os up (patterns_range rule) fits [] in
      ap (λ (l : List ℕ). (number_records (record { words = l; count = 0 }) rs).words) known_first
      ∙ ap (λ (x : Numbering). x.words)
      (number_names_lem first rs
      ∙ ap (number_names first) (sym (patterns_names rule 4 0))
      ∙ numbered_all 0 end os up (patterns_range rule) fits [] os refl (all_names_small rule 4 0 accepted.sound))

  -- So each variable's word is written as the book says.
  tidy_word_lem
      : (v : ℕ)
      → tidy_word (word_with 0 end os up (patterns_range rule) fits (is_given 0 end os up (patterns_range rule) fits os v) v)
      ≡ cond (is_repeated os v) (repeated_record (new_number os v) (patterns_range rule v)) (single_record (patterns_range rule v))
  tidy_word_lem v = go (is_repeated os v) refl
    where
      x : Option tests.Range
      x = patterns_range rule v

      choose : Bool → ℕ
      choose c = word_with 0 end os up (patterns_range rule) fits c v

      go
          : (f : Bool) → is_repeated os v ≡ f
          → tidy_word (choose (is_given 0 end os up (patterns_range rule) fits os v))
          ≡ cond f (repeated_record (new_number os v) x) (single_record x)
      go true twice =
          let (o, m, t) = any_mem (is_again os v) os (is_true twice) in
          let named = (both_true (is_named v o) (stands_again os o) t).0 in
          let there : any_of (is_named v) os ≡ true = true_is (any_of (is_named v) os) (mem_any (is_named v) m named) in
          let number = number_lt 0 end os up 16 (all_names_small rule 4 0 accepted.sound) v (is_true twice) in
          ap (λ (c : Bool). tidy_word (choose c)) (λ j. twice j && there j)
          ∙ repeated_word (new_number os v) x (omega arith) (fits v) (ranges_wide rule 4 accepted.sound v)
      go false once =
          let few = leb-false 2 (uses v os) (sym (repeated_uses 0 end os up v) ∙ once) in
          ap (λ (c : Bool). tidy_word (choose (c && any_of (is_named v) os))) once
          ∙ single_word (min 2 (uses v os)) x (omega arith) (fits v) (ranges_wide rule 4 accepted.sound v)

  variable_tidy
      : (v : ℕ) → v < 16
      → tidy_word (get_or words (word_place v) 0)
      ≡ cond (is_repeated os v) (repeated_record (new_number os v) (patterns_range rule v)) (single_record (patterns_range rule v))
  variable_tidy v small =
      let here : word_place v ≡ v = omega arith in
      ap (λ (k : ℕ). tidy_word (get_or words k 0)) here ∙ ap tidy_word (variable_at _ v small) ∙ tidy_word_lem v

  record_tidy : (r : PatternRecord) → Fitting r → tidy_in words r ≡ tidy_record os (patterns_range rule) r
  record_tidy Anything h = refl
  record_tidy (Symbol a) h = refl
  record_tidy (Series l u) h = refl
  record_tidy (Gauged g l u) h = refl
  record_tidy (Range l u) h = refl
  record_tidy (Compound a n) h = refl
  record_tidy (Variable v) h = variable_tidy v h
  record_tidy (Ranged v l u) h = variable_tidy v h.0

  records_tidy
      : (qs : List PatternRecord) → All Fitting qs → map (tidy_in words) qs ≡ map (tidy_record os (patterns_range rule)) qs
  records_tidy [] h = refl
  records_tidy (q ∷ qs) h = λ j. record_tidy q h.0 j ∷ records_tidy qs h.1 j

  -- The tidy form of an accepted rule from its records.
  pub rule_tidy : tidy_row rs ≡ patterns_bytes (tidy_rule rule)
  rule_tidy =
      row_is rs
      ∙ ap (λ (l : List ℕ). tidy_spelling l rs) known_last
      ∙ ap records_spelling (records_tidy rs (records_fit arity rule accepted))
      ∙ sym (tidy_spelling_lem os (patterns_range rule) rule)

-- The tidy forms of accepted rules, one behind another.
pub rules_tidy
    : (arity : ℕ) (rules : List Patterns) → arity ≤ 8 → All (AcceptedRule arity) rules
    → tidy_rows arity (length rules) (rules_bytes rules) ≡ rules_bytes (map tidy_rule rules)
unfolding tidy_rows
rules_tidy arity [] few accepted = refl
rules_tidy arity (rule ∷ rules) few accepted =
    let row = rule_row arity rule accepted.0 few (rules_bytes rules) in
    let size = length (records_spelling (patterns_records rule)) in
    let behind : drop size (patterns_bytes rule ++ rules_bytes rules) ≡ rules_bytes rules =
    drop_at (patterns_bytes rule) (rules_bytes rules) size (ap length (sym (records_spell rule))) in
    (λ j.
    tidy_row (row j)
    ++ tidy_rows arity (length rules) (drop (length (records_spelling (row j))) (patterns_bytes rule ++ rules_bytes rules)))
    ∙ (λ j. rule_tidy arity rule accepted.0 j ++ tidy_rows arity (length rules) (behind j))
    ∙ ap (patterns_bytes (tidy_rule rule) ++◌) (rules_tidy arity rules few accepted.1)
