-- What a rule says of its arguments, in one page: a term matches a pattern, with σ for the variables. "20 anything", "21 symbol
-- (wide id)", "22 range (wide low, wide high): a number from low to high", "23 compound (wide id, arity), then its arguments", "24
-- variable (its number)", "25 ranged variable (its number, wide low, wide high)"; document 02: "pattern 26 (wide low, wide high)
-- accepts every symbol with an id from low to high", "pattern 27 (gauge, wide low, wide high)" the gauge "it names".
use Prim.Native.Nat.{ℕ, suc, ◌-◌, ◌≤◌, min, max}
use mathlib.Core.Path.{◌≡◌, refl, ap, sym, subst, ◌∙◌}
use mathlib.Core.Option.{Option, some, none}
use native.Mathlib.Omega.{arith}
use lib.Dec.{eqb, eqb→eq, eqb_refl}
use Rattle.basics.proofs.Booleans.{cond_by}
use Rattle.terms.specs.Term.{Term, Terms, count, on_gauge, symbol, number, numbers, compound, nil, cons}
use Rattle.terms.specs.Pattern.{Pattern, Patterns, count_patterns, anything, the_symbol, the_series, the_range, the_gauged, the_compound, variable, ranged_variable, pnil, pcons}
use Rattle.terms.specs.RuleTests.{a_symbol, a_number, Range, common_part, pattern_range, patterns_range}
use Rattle.terms.specs.Outcome.{Holds, fits}
use Rattle.terms.specs.Filling.{Known}
use Rattle.terms.proofs.PlaceSentences.{Wanted, in_series, in_range, fits_wanted, wanted_fits}
use Rattle.terms.proofs.Instances.{InRange}

-- Anything matches `anything`; a symbol, a series, a range and a compound match what they say; a variable matches its term,
-- wherever it stands; and a ranged variable's term is a number in the range besides.
mutual
  pub data Matches (σ : ℕ → Term) : Pattern → Term → Type 0 where
    as_anything : {t : Term} → Matches σ anything t
    as_symbol : {a : ℕ} → Matches σ (the_symbol a) (symbol a)
    as_series : {l h a : ℕ} → l ≤ a → a ≤ h → Matches σ (the_series l h) (symbol a)
    as_range : {l h n : ℕ} → l ≤ n → n ≤ h → Matches σ (the_range l h) (number n)
    as_gauged : {g l h v n : ℕ} → n ≡ on_gauge g v → l ≤ v → v ≤ h → Matches σ (the_gauged g l h) (number n)
    as_compound : {a : ℕ} {ps : Patterns} {ts : Terms} → AllMatch σ ps ts → Matches σ (the_compound a ps) (compound a ts)
    as_variable : {v : ℕ} {t : Term} → t ≡ σ v → Matches σ (variable v) t
    as_ranged : {v l h n : ℕ} → number n ≡ σ v → l ≤ n → n ≤ h → Matches σ (ranged_variable v l h) (number n)

  pub data AllMatch (σ : ℕ → Term) : Patterns → Terms → Type 0 where
    as_nil : AllMatch σ pnil nil
    as_cons
        : {p : Pattern} {ps : Patterns} {t : Term} {ts : Terms} → Matches σ p t → AllMatch σ ps ts
        → AllMatch σ (pcons p ps) (cons t ts)

-- As many terms match as there are patterns.
pub match_count : {σ : ℕ → Term} {ps : Patterns} {ts : Terms} → AllMatch σ ps ts → count_patterns ps ≡ count ts
match_count as_nil = refl
match_count (as_cons m ms) = ap suc (match_count ms)

-- A term in a series is a symbol of it.
pub series_in : (l h : ℕ) {t : Term} → Wanted (a_symbol l h) t → (a : ℕ) × (t ≡ symbol a) × (l ≤ a) × (a ≤ h)
series_in l h (in_series {a = a} p q) = (a, refl, p, q)

-- A term in a range is a number or a span,
span_in : (l h : ℕ) {t : Term} → Wanted (a_number l h) t → (a b : ℕ) × (t ≡ numbers a b) × (l ≤ a) × (b ≤ h)
span_in l h (in_range {a = a} {b = b} p q) = (a, b, refl, p, q)

-- and one without unknowns is a number.
pub range_in_lem : (l h : ℕ) {t : Term} → Known t → Wanted (a_number l h) t → (n : ℕ) × (t ≡ number n) × (l ≤ n) × (n ≤ h)
range_in_lem l h known (in_range {a = a} {b = b} p q) =
    (a, λ i. numbers a (sym known i), p, omega (arith, known))

-- In a range on a gauge it is a number of that gauge.
pub gauged_in
    : (g l h : ℕ) {t : Term} → Known t → Wanted (a_number (on_gauge g l) (on_gauge g h)) t
    → (v n : ℕ) × (t ≡ number n) × (n ≡ on_gauge g v) × (l ≤ v) × (v ≤ h)
gauged_in g l h known w =
    let n = range_in_lem (on_gauge g l) (on_gauge g h) known w in
    let v = n.0 - on_gauge g 0 in
    let e : n.0 ≡ on_gauge g v = omega (arith, n.2) in
    (v, n.0, n.1, e, omega (arith, n.2), omega (arith, n.2, n.3))

-- A term in two ranges is in their common part.
in_common_lem : (x y : Option Range) (t : Term) → InRange x t → InRange y t → InRange (common_part x y) t
in_common_lem none y t h k = k
in_common_lem (some x) none t h k = h
in_common_lem (some x) (some y) t h k =
    let a = span_in x.low x.high (fits_wanted (a_number x.low x.high) t h) in
    let b = span_in y.low y.high (fits_wanted (a_number y.low y.high) t k) in
    let lows : a.0 ≡ b.0 = cc (a.2, b.2) in
    let highs : a.1 ≡ b.1 = cc (a.2, b.2) in
    let low : max x.low y.low ≤ a.0 = omega (arith, a.3, b.3) in
    let high : a.1 ≤ min x.high y.high = omega (arith, a.4, b.4) in
    rw a.2 (wanted_fits (in_range low high))

module _ {σ : ℕ → Term} where
  mutual
    -- Where terms match, each variable's term is in the common part of its ranges.
    pub match_range : {p : Pattern} {t : Term} → Matches σ p t → (v : ℕ) → InRange (pattern_range p v) (σ v)
    match_range as_anything v = tt
    match_range as_symbol v = tt
    match_range (as_series p q) v = tt
    match_range (as_range p q) v = tt
    match_range (as_gauged e p q) v = tt
    match_range (as_compound ms) v = match_ranges ms v
    match_range (as_variable e) v = tt
    match_range (as_ranged {v = u} {l = l} {h = h} {n = n} e p q) v =
        cond_by (λ (x : Option Range). InRange x (σ v)) (eqb u v)
        (λ k. subst (λ (t : Term). Holds (fits (a_number l h) t)) (e ∙ ap σ (eqb→eq u v k))
        (wanted_fits (in_range {l = l} {h = h} {a = n} {b = n} p q)))
        (λ k. tt)

    pub match_ranges : {ps : Patterns} {ts : Terms} → AllMatch σ ps ts → (v : ℕ) → InRange (patterns_range ps v) (σ v)
    match_ranges as_nil v = tt
    match_ranges (as_cons {p = p} {ps = ps} m ms) v =
        in_common_lem (pattern_range p v) (patterns_range ps v) (σ v) (match_range m v) (match_ranges ms v)

-- The range lies within l to h.
abbrev pub Narrows : Option Range → ℕ → ℕ → Type 0
Narrows none l h = ⊥
Narrows (some x) l h = (l ≤ x.low) × (x.high ≤ h)

-- Q holds of each ranged record: of the variable's number, low and high.
module _ (Q : ℕ → ℕ → ℕ → Type 0) where
  abbrev mutual
    pub EachRanged : Pattern → Type 0
    EachRanged anything = Unit
    EachRanged (the_symbol a) = Unit
    EachRanged (the_series l h) = Unit
    EachRanged (the_range l h) = Unit
    EachRanged (the_gauged g l h) = Unit
    EachRanged (the_compound a ps) = AllRanged ps
    EachRanged (variable v) = Unit
    EachRanged (ranged_variable v l h) = Q v l h

    pub AllRanged : Patterns → Type 0
    AllRanged pnil = Unit
    AllRanged (pcons p ps) = EachRanged p × AllRanged ps

module _ (P Q : ℕ → ℕ → ℕ → Type 0) (f : (v l h : ℕ) → P v l h → Q v l h) where
  mutual
    ranged_map : (p : Pattern) → EachRanged P p → EachRanged Q p
    ranged_map anything k = tt
    ranged_map (the_symbol a) k = tt
    ranged_map (the_series l h) k = tt
    ranged_map (the_range l h) k = tt
    ranged_map (the_gauged g l h) k = tt
    ranged_map (the_compound a ps) k = all_ranged_map ps k
    ranged_map (variable v) k = tt
    ranged_map (ranged_variable v l h) k = f v l h k

    all_ranged_map : (ps : Patterns) → AllRanged P ps → AllRanged Q ps
    all_ranged_map pnil k = tt
    all_ranged_map (pcons p ps) k = (ranged_map p k.0, all_ranged_map ps k.1)

-- The common part lies within what either range lies in.
narrows_left : (x y : Option Range) (l h : ℕ) → Narrows x l h → Narrows (common_part x y) l h
narrows_left none y l h k = absurd k
narrows_left (some x) none l h k = k
narrows_left (some x) (some y) l h k = (omega arith, omega arith)

narrows_right : (x y : Option Range) (l h : ℕ) → Narrows y l h → Narrows (common_part x y) l h
narrows_right none y l h k = k
narrows_right (some x) none l h k = absurd k
narrows_right (some x) (some y) l h k = (omega arith, omega arith)

mutual
  -- The common part of a variable's ranges lies within each of them.
  each_narrowed : (p : Pattern) → EachRanged (λ v l h. Narrows (pattern_range p v) l h) p
  each_narrowed anything = tt
  each_narrowed (the_symbol a) = tt
  each_narrowed (the_series l h) = tt
  each_narrowed (the_range l h) = tt
  each_narrowed (the_gauged g l h) = tt
  each_narrowed (the_compound a ps) = all_narrowed ps
  each_narrowed (variable v) = tt
  each_narrowed (ranged_variable v l h) =
      cond_by (λ (x : Option Range). Narrows x l h) (eqb v v) (λ k. (omega arith, omega arith)) (λ k. k (eqb_refl v))

  pub all_narrowed : (ps : Patterns) → AllRanged (λ v l h. Narrows (patterns_range ps v) l h) ps
  all_narrowed pnil = tt
  all_narrowed (pcons p ps) =
      let Whole : ℕ → ℕ → ℕ → Type 0 = λ v l h. Narrows (patterns_range (pcons p ps) v) l h in (
        ranged_map (λ v l h. Narrows (pattern_range p v) l h) Whole
            (λ v l h k. narrows_left (pattern_range p v) (patterns_range ps v) l h k) p (each_narrowed p),
        all_ranged_map (λ v l h. Narrows (patterns_range ps v) l h) Whole
            (λ v l h k. narrows_right (pattern_range p v) (patterns_range ps v) l h k) ps (all_narrowed ps),
      )
