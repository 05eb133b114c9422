-- The records of a rule in a row, as its bytes have them: tidying changes each record by itself, and the row keeps its length.
-- So the writer needs no recursion.
use Prim.Native.Nat.{ℕ}
use mathlib.Core.Path.{◌≡◌, refl, sym, ap, ◌∙◌}
use mathlib.Core.Bool.{Bool, true, false, cond}
use mathlib.Core.List.{List, [], ◌∷◌, ◌++◌, map, append_assoc}
use mathlib.Core.Option.{Option, some, none}
use lib.Dec.{eqb}
use Rattle.basics.proofs.Filters.{map_join}
use Rattle.terms.specs.Pattern.{Pattern, Patterns, count_patterns, pnil, pcons}
use Rattle.terms.specs.Pattern.{anything, the_symbol, the_series, the_range, the_gauged, the_compound, variable, ranged_variable}
use Rattle.terms.specs.RuleTests.{Occurrence}
use Rattle.terms.specs.RuleTests as tests
use Rattle.sheet.specs.WriteSheet.{pattern_bytes, patterns_bytes}
use Rattle.patterns.specs.declared.PatternRecord.{PatternRecord}
use Rattle.patterns.specs.declared.PatternRecord.TheVariants.{Anything, Symbol, Series, Range, Compound, Variable, Ranged, Gauged}
use Rattle.patterns.specs.views.PatternRecord.{series_record, gauged_record, record_spelling, records_spelling}
use Rattle.tidy.specs.TidyRule.{is_repeated, new_number, single, repeated, tidy_series, tidy_gauged, tidy_pattern, tidy_patterns}
use Rattle.tidy.proofs.TidyTests.{tidy_count}

-- The records of a pattern, in preorder.
abbrev mutual
  pub pattern_records : Pattern → List PatternRecord
  pattern_records anything = Anything ∷ []
  pattern_records (the_symbol a) = Symbol a ∷ []
  pattern_records (the_series l h) = Series l h ∷ []
  pattern_records (the_range l h) = Range l h ∷ []
  pattern_records (the_gauged g l h) = Gauged g l h ∷ []
  pattern_records (the_compound a ps) = Compound a (count_patterns ps) ∷ patterns_records ps
  pattern_records (variable v) = Variable v ∷ []
  pattern_records (ranged_variable v l h) = Ranged v l h ∷ []

  pub patterns_records : Patterns → List PatternRecord
  patterns_records pnil = []
  patterns_records (pcons p ps) = pattern_records p ++ patterns_records ps

-- Those of two rows are those of the first, then those of the second.
pub spelling_join : (rs qs : List PatternRecord) → records_spelling (rs ++ qs) ≡ records_spelling rs ++ records_spelling qs
spelling_join [] qs = refl
spelling_join (r ∷ rs) qs =
    ap (record_spelling r ++◌) (spelling_join rs qs)
    ∙ sym (append_assoc (record_spelling r) (records_spelling rs) (records_spelling qs))

-- A pattern's records spell it.
mutual
  pub pattern_records_spell : (p : Pattern) → records_spelling (pattern_records p) ≡ pattern_bytes p
  pattern_records_spell anything = refl
  pattern_records_spell (the_symbol a) = refl
  pattern_records_spell (the_series l h) = refl
  pattern_records_spell (the_range l h) = refl
  pattern_records_spell (the_gauged g l h) = refl
  pattern_records_spell (the_compound a ps) =
      ap (λ (l : List ℕ). record_spelling (Compound a (count_patterns ps)) ++ l) (records_spell ps)
  pattern_records_spell (variable v) = refl
  pattern_records_spell (ranged_variable v l h) = refl

  pub records_spell : (ps : Patterns) → records_spelling (patterns_records ps) ≡ patterns_bytes ps
  records_spell pnil = refl
  records_spell (pcons p ps) =
      spelling_join (pattern_records p) (patterns_records ps) ∙ (λ i. pattern_records_spell p i ++ records_spell ps i)

-- What a variable's record becomes: one that stands once, and a repeated one.
abbrev pub single_record : Option tests.Range → PatternRecord
single_record none = Anything
single_record (some x) = Range x.low x.high

abbrev pub repeated_record : ℕ → Option tests.Range → PatternRecord
repeated_record n none = Variable n
repeated_record n (some x) = Ranged n x.low x.high

variable_records
    : (c : Bool) (n : ℕ) (x : Option tests.Range)
    → pattern_records (cond c (repeated n x) (single x)) ≡ cond c (repeated_record n x) (single_record x) ∷ []
variable_records true n none = refl
variable_records true n (some x) = refl
variable_records false n none = refl
variable_records false n (some x) = refl

-- What the record of a series becomes.
series_records : (l h : ℕ) → pattern_records (tidy_series l h) ≡ series_record l h ∷ []
series_records l h = go (eqb l h)
  where
    go : (c : Bool) → pattern_records (cond c (the_symbol l) (the_series l h)) ≡ cond c (Symbol l) (Series l h) ∷ []
    go true = refl
    go false = refl

-- What the record of a range on a gauge becomes.
gauged_records : (g l h : ℕ) → pattern_records (tidy_gauged g l h) ≡ gauged_record g l h ∷ []
gauged_records g l h = go (eqb g 0)
  where
    go : (c : Bool) → pattern_records (cond c (the_range l h) (the_gauged g l h)) ≡ cond c (Range l h) (Gauged g l h) ∷ []
    go true = refl
    go false = refl

-- The tidy form of a record: only that of a series, that of a range on a gauge and that of a variable change.
module _ (os : List Occurrence) (range_of : ℕ → Option tests.Range) where
  abbrev pub tidy_variable_record : ℕ → PatternRecord
  tidy_variable_record v = cond (is_repeated os v) (repeated_record (new_number os v) (range_of v)) (single_record (range_of v))

  abbrev pub tidy_record : PatternRecord → PatternRecord
  tidy_record Anything = Anything
  tidy_record (Symbol a) = Symbol a
  tidy_record (Series l h) = series_record l h
  tidy_record (Range l h) = Range l h
  tidy_record (Gauged g l h) = gauged_record g l h
  tidy_record (Compound a n) = Compound a n
  tidy_record (Variable v) = tidy_variable_record v
  tidy_record (Ranged v l h) = tidy_variable_record v

  -- The records of the tidy form are the tidy records, one for one.
  mutual
    pub tidy_pattern_records : (p : Pattern) → pattern_records (tidy_pattern os range_of p) ≡ map tidy_record (pattern_records p)
    tidy_pattern_records anything = refl
    tidy_pattern_records (the_symbol a) = refl
    tidy_pattern_records (the_series l h) = series_records l h
    tidy_pattern_records (the_range l h) = refl
    tidy_pattern_records (the_gauged g l h) = gauged_records g l h
    tidy_pattern_records (the_compound a ps) = λ i. Compound a (tidy_count os range_of ps i) ∷ tidy_records ps i
    tidy_pattern_records (variable v) = variable_records (is_repeated os v) (new_number os v) (range_of v)
    tidy_pattern_records (ranged_variable v l h) = variable_records (is_repeated os v) (new_number os v) (range_of v)

    pub tidy_records : (ps : Patterns) → patterns_records (tidy_patterns os range_of ps) ≡ map tidy_record (patterns_records ps)
    tidy_records pnil = refl
    tidy_records (pcons p ps) =
        (λ i. tidy_pattern_records p i ++ tidy_records ps i) ∙ sym (map_join tidy_record (pattern_records p) (patterns_records ps))

  -- So the tidy rule's bytes are those of the tidy records.
  pub tidy_spelling_lem
      : (ps : Patterns) → patterns_bytes (tidy_patterns os range_of ps) ≡ records_spelling (map tidy_record (patterns_records ps))
  tidy_spelling_lem ps = sym (records_spell (tidy_patterns os range_of ps)) ∙ ap records_spelling (tidy_records ps)
