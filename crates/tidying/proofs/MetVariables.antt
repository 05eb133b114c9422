-- What the words say behind a row of records: how often each variable stands, and its common range.
use Prim.Native.Nat.{ℕ, suc, pred, ◌+◌, ◌≤◌, ◌<◌, min, max}
use mathlib.Core.Path.{◌≡◌, refl, sym, ap, ◌∙◌}
use mathlib.Core.Bool.{Bool, true, false, cond}
use mathlib.Core.List.{List, [], ◌∷◌, ◌++◌, map, append_assoc}
use mathlib.Core.Option.{Option, some, none}
use native.Mathlib.Omega.{arith}
use lib.Dec.{eqb}
use lib.ListN.{get_or, set}
use borrow.Author.Tests.{eq-eqb, ne_eqb}
use Rattle.basics.specs.Lists.{All}
use Rattle.basics.proofs.Booleans.{cond_holds}
use Rattle.basics.proofs.Filters.{map_join}
use Rattle.places.specs.Numbering.{stride}
use Rattle.terms.specs.Pattern.{Pattern, Patterns, pnil, pcons}
use Rattle.terms.specs.Pattern.{anything, the_symbol, the_series, the_range, the_gauged, the_compound, variable, ranged_variable}
use Rattle.terms.specs.RuleTests.{Occurrence, common_part, pattern_range, patterns_range, pattern_variables, patterns_variables}
use Rattle.terms.specs.RuleTests as tests
use Rattle.patterns.specs.declared.PatternRecord.{PatternRecord}
use Rattle.patterns.specs.declared.PatternRecord.TheVariants.{Anything, Symbol, Series, Range, Compound, Variable, Ranged, Gauged}
use Rattle.patterns.specs.views.NoteCode.{Fitting}
use Rattle.sheet.specs.views.NoteRanges.{record_range, low_end, high_end, for_variables}
use Rattle.sheet.proofs.CommonRanges.{common_none, common_assoc}
use Rattle.sheet.proofs.RangeArrays.{variable_at, variables_same, variable_set}
use Rattle.tidy.proofs.TidyRecords.{pattern_records, patterns_records}
use Rattle.rule_rows.specs.views.Words.{packed_word, fresh_words, word_place}
use Rattle.rule_rows.specs.views.Words.{met_word, met_at, met_record, met_records}
use Rattle.tidy_rows.specs.views.TidyRow.{met_in}
use Rattle.rule_rows.proofs.WordLaws.{word_parts, one_more}

-- The variable that a record names, if it is one, and those of records in a row.
abbrev pub record_name : PatternRecord → List ℕ
record_name Anything = []
record_name (Symbol a) = []
record_name (Series l h) = []
record_name (Gauged g l h) = []
record_name (Range l h) = []
record_name (Compound a n) = []
record_name (Variable v) = v ∷ []
record_name (Ranged v l h) = v ∷ []

abbrev pub record_names : List PatternRecord → List ℕ
record_names [] = []
record_names (r ∷ rs) = record_name r ++ record_names rs

-- How often a variable is among them.
abbrev pub times : ℕ → List ℕ → ℕ
times v [] = 0
times v (n ∷ ns) = cond (eqb n v) (suc (times v ns)) (times v ns)

-- The common part of a variable's ranges.
abbrev pub range_over : List PatternRecord → ℕ → Option tests.Range
range_over [] v = none
range_over (r ∷ rs) v = common_part (record_range r v) (range_over rs v)

names_join : (rs qs : List PatternRecord) → record_names (rs ++ qs) ≡ record_names rs ++ record_names qs
names_join [] qs = refl
names_join (r ∷ rs) qs =
    ap (record_name r ++◌) (names_join rs qs) ∙ sym (append_assoc (record_name r) (record_names rs) (record_names qs))

range_join
    : (rs qs : List PatternRecord) (v : ℕ) → range_over (rs ++ qs) v ≡ common_part (range_over rs v) (range_over qs v)
range_join [] qs v = refl
range_join (r ∷ rs) qs v =
    ap (common_part (record_range r v)) (range_join rs qs v)
    ∙ sym (common_assoc (record_range r v) (range_over rs v) (range_over qs v))

-- The name of an occurrence.
abbrev pub name_at : Occurrence → ℕ
name_at o = o.name

mutual
  -- The variables of a pattern, in order, are those that its records name.
  pattern_names
      : (p : Pattern) (r b : ℕ) → map name_at (pattern_variables p r b) ≡ record_names (pattern_records p)
  pattern_names anything r b = refl
  pattern_names (the_symbol a) r b = refl
  pattern_names (the_series l h) r b = refl
  pattern_names (the_range l h) r b = refl
  pattern_names (the_gauged g l h) r b = refl
  pattern_names (the_compound a ps) r b = patterns_names ps (pred r) (suc b)
  pattern_names (variable v) r b = refl
  pattern_names (ranged_variable v l h) r b = refl

  pub patterns_names
      : (ps : Patterns) (r b : ℕ) → map name_at (patterns_variables ps r b) ≡ record_names (patterns_records ps)
  patterns_names pnil r b = refl
  patterns_names (pcons p ps) r b =
      map_join name_at (pattern_variables p r b) (patterns_variables ps r (b + stride r))
      ∙ (λ j. pattern_names p r b j ++ patterns_names ps r (b + stride r) j)
      ∙ sym (names_join (pattern_records p) (patterns_records ps))

mutual
  -- Its ranges are those of its records.
  pattern_over : (p : Pattern) (v : ℕ) → range_over (pattern_records p) v ≡ pattern_range p v
  pattern_over anything v = refl
  pattern_over (the_symbol a) v = refl
  pattern_over (the_series l h) v = refl
  pattern_over (the_range l h) v = refl
  pattern_over (the_gauged g l h) v = refl
  pattern_over (the_compound a ps) v = patterns_over ps v
  pattern_over (variable u) v = refl
  pattern_over (ranged_variable u l h) v = common_none (pattern_range (ranged_variable u l h) v)

  pub patterns_over : (ps : Patterns) (v : ℕ) → range_over (patterns_records ps) v ≡ patterns_range ps v
  patterns_over pnil v = refl
  patterns_over (pcons p ps) v =
      range_join (pattern_records p) (patterns_records ps) v
      ∙ (λ j. common_part (pattern_over p v j) (patterns_over ps v j))

-- The word of a variable without a number: so many uses, 2 for more, and a range.
abbrev pub known_word : ℕ → Option tests.Range → ℕ
known_word uses x = packed_word 0 (min 2 uses) (high_end x) (low_end x)

-- The ends of a range fit their bits.
pub record EndsFit (x : Option tests.Range) : Type 0 where
  pub low : low_end x < 65536
  pub high : high_end x ≤ 65536

-- The ends of the common part are the larger of the low ends and the smaller of the high ends.
low_common : (x y : Option tests.Range) → low_end (common_part x y) ≡ max (low_end x) (low_end y)
low_common none y = omega arith
low_common (some x) none = omega arith
low_common (some x) (some y) = refl

high_common
    : (x y : Option tests.Range) → EndsFit x → EndsFit y → high_end (common_part x y) ≡ min (high_end x) (high_end y)
high_common none y f g = omega (arith, g.high)
high_common (some x) none f g = omega (arith, f.high)
high_common (some x) (some y) f g = refl

pub common_fits : (x y : Option tests.Range) → EndsFit x → EndsFit y → EndsFit (common_part x y)
common_fits x y f g = record {
  low = omega (arith, low_common x y, f.low, g.low);
  high = omega (arith, high_common x y f g, f.high, g.high);
}

-- A word with one more use.
met_known
    : (uses : ℕ) (x y : Option tests.Range) → EndsFit x → EndsFit y
    → met_word (known_word uses x) (low_end y) (high_end y) ≡ known_word (suc uses) (common_part x y)
unfolding met_word
met_known uses x y f g =
    let few : min 2 uses < 4 = omega arith in
    let p = word_parts 0 (min 2 uses) (high_end x) (low_end x) few (omega (arith, f.high)) f.low in
    (λ j. packed_word 0 (min 2 (suc (p.uses j))) (min (p.high j) (high_end y)) (max (p.low j) (low_end y)))
    ∙ (λ j. packed_word 0 (one_more uses j) (sym (high_common x y f g) j) (sym (low_common x y) j))

-- The range that a record gives to a variable fits.
record_ends : (r : PatternRecord) (v : ℕ) → Fitting r → EndsFit (record_range r v)
record_ends Anything v h = record { low = omega arith; high = omega arith }
record_ends (Symbol a) v h = record { low = omega arith; high = omega arith }
record_ends (Series l u) v h = record { low = omega arith; high = omega arith }
record_ends (Gauged g l u) v h = record { low = omega arith; high = omega arith }
record_ends (Range l u) v h = record { low = omega arith; high = omega arith }
record_ends (Compound a n) v h = record { low = omega arith; high = omega arith }
record_ends (Variable u) v h = record { low = omega arith; high = omega arith }
record_ends (Ranged u l k) v h =
    cond_holds EndsFit (eqb u v) (some (record { low = l; high = k })) none
    (record { low = h.1; high = omega (arith, h.2) }) (record { low = omega arith; high = omega arith })

pub range_fits : (rs : List PatternRecord) (v : ℕ) → All Fitting rs → EndsFit (range_over rs v)
range_fits [] v h = record { low = omega arith; high = omega arith }
range_fits (r ∷ rs) v h =
    common_fits (record_range r v) (range_over rs v) (record_ends r v h.0) (range_fits rs v h.1)

-- What is known of each variable, in a list of words: uses and ranges.
abbrev pub known_words : (ℕ → ℕ) → (ℕ → Option tests.Range) → List ℕ
known_words uses range = for_variables (λ (v : ℕ). known_word (uses v) (range v))

module _ (uses : ℕ → ℕ) (range : ℕ → Option tests.Range) (fits : (v : ℕ) → EndsFit (range v)) where
  -- One more place of a variable, with a range or none.
  variable_met
      : (u : ℕ) (x : Option tests.Range) (own : ℕ → Option tests.Range) → u < 16 → EndsFit x → own u ≡ x
      → ((v : ℕ) → (v ≡ u → ⊥) → own v ≡ none)
      → met_at (known_words uses range) u (low_end x) (high_end x)
      ≡ known_words (λ (v : ℕ). uses v + times v (u ∷ [])) (λ (v : ℕ). common_part (range v) (own v))
  variable_met u x own small fit is apart =
      let here : word_place u ≡ u = omega arith in
      let before : ℕ → ℕ = λ v. known_word (uses v) (range v) in
      let after : ℕ → ℕ = λ v. known_word (uses v + times v (u ∷ [])) (common_part (range v) (own v)) in
      let one : suc (uses u) ≡ uses u + times u (u ∷ []) =
      omega (arith, ap {B = ℕ} (λ (b : Bool). cond b 1 0) (eq-eqb u u refl)) in
      let now : met_word (get_or (for_variables before) u 0) (low_end x) (high_end x) ≡ after u =
      ap (λ (w : ℕ). met_word w (low_end x) (high_end x)) (variable_at before u small)
      ∙ met_known (uses u) (range u) x (fits u) fit
      ∙ (λ j. known_word (one j) (common_part (range u) (sym is j))) in
      ap (λ (k : ℕ). set (for_variables before) k (met_word (get_or (for_variables before) k 0) (low_end x) (high_end x))) here
      ∙ variable_set before after u small now
      (λ v differ.
      let none_more : uses v ≡ uses v + times v (u ∷ []) =
      omega (arith, ap {B = ℕ} (λ (b : Bool). cond b 1 0) (ne_eqb u v (λ e. differ (sym e)))) in
      λ j. known_word (none_more j) (sym (ap (common_part (range v)) (apart v differ) ∙ common_none (range v)) j))

  -- A record that is no variable changes nothing.
  no_more
      : known_words uses range ≡ known_words (λ (v : ℕ). uses v + 0) (λ (v : ℕ). common_part (range v) none)
  no_more =
      variables_same _ _
      (λ v small. let same : uses v ≡ uses v + 0 = omega arith in λ j. known_word (same j) (sym (common_none (range v)) j))

  -- One more record.
  record_met
      : (r : PatternRecord) → Fitting r
      → met_record (known_words uses range) r
      ≡ known_words (λ (v : ℕ). uses v + times v (record_name r)) (λ (v : ℕ). common_part (range v) (record_range r v))
  record_met Anything h = no_more
  record_met (Symbol a) h = no_more
  record_met (Series l u) h = no_more
  record_met (Gauged g l u) h = no_more
  record_met (Range l u) h = no_more
  record_met (Compound a n) h = no_more
  record_met (Variable u) h =
      variable_met u none (λ v. none) h (record { low = omega arith; high = omega arith }) refl (λ v differ. refl)
  record_met (Ranged u l k) h =
      variable_met u (some (record { low = l; high = k })) (record_range (Ranged u l k)) h.0
      (record { low = h.1; high = omega (arith, h.2) })
      (ap (λ (b : Bool). cond b (some (record { low = l; high = k })) none) (eq-eqb u u refl))
      (λ v differ. ap (λ (b : Bool). cond b (some (record { low = l; high = k })) none) (ne_eqb u v (λ e. differ (sym e))))

times_join : (v : ℕ) (ns ms : List ℕ) → times v (ns ++ ms) ≡ times v ns + times v ms
times_join v [] ms = omega arith
times_join v (n ∷ ns) ms = go (eqb n v) (times_join v ns ms)
  where
    go
        : (b : Bool) → times v (ns ++ ms) ≡ times v ns + times v ms
        → cond b (suc (times v (ns ++ ms))) (times v (ns ++ ms)) ≡ cond b (suc (times v ns)) (times v ns) + times v ms
    go true e = omega (arith, e)
    go false e = e

-- A row of records.
records_met
    : (uses : ℕ → ℕ) (range : ℕ → Option tests.Range) (rs : List PatternRecord) → ((v : ℕ) → EndsFit (range v))
    → All Fitting rs
    → met_records (known_words uses range) rs
    ≡ known_words (λ (v : ℕ). uses v + times v (record_names rs)) (λ (v : ℕ). common_part (range v) (range_over rs v))
records_met uses range [] fits h = no_more uses range fits
records_met uses range (r ∷ rs) fits h =
    ap (λ (words : List ℕ). met_records words rs) (record_met uses range fits r h.0)
    ∙ records_met (λ v. uses v + times v (record_name r)) (λ v. common_part (range v) (record_range r v)) rs
    (λ v. common_fits (range v) (record_range r v) (fits v) (record_ends r v h.0)) h.1
    ∙ variables_same _ _
    (λ v small.
    let sum : uses v + times v (record_name r) + times v (record_names rs) ≡ uses v + times v (record_names (r ∷ rs)) =
    omega (arith, times_join v (record_name r) (record_names rs)) in
    λ j. known_word (sum j) (common_assoc (range v) (record_range r v) (range_over rs v) j))

fresh_known : fresh_words ≡ known_words (λ (v : ℕ). 0) (λ (v : ℕ). none)
unfolding for_variables
fresh_known = refl

-- Behind a row of records that fit, each word says how often its variable stands and what its common range is.
pub met_says
    : (rs : List PatternRecord) → All Fitting rs
    → met_in rs ≡ known_words (λ (v : ℕ). times v (record_names rs)) (range_over rs)
met_says rs h =
    ap (λ (words : List ℕ). met_records words rs) fresh_known
    ∙ records_met (λ v. 0) (λ v. none) rs (λ v. record { low = omega arith; high = omega arith }) h
    ∙ variables_same _ _
    (λ v small.
    let sum : 0 + times v (record_names rs) ≡ times v (record_names rs) = omega arith in
    ap (λ (k : ℕ). known_word k (range_over rs v)) sum)
