-- A rule that tests below a place has a test at that place: what stands below another pattern stands in a compound. For
-- place tests and for both places of equality tests, and for patterns of any depth.
use Prim.Native.Nat.{ℕ, suc, pred, ◌+◌, ◌-◌, ◌≤◌, ◌<◌}
use mathlib.Core.Path.{◌≡◌, ap, sym, subst, ◌∙◌}
use mathlib.Core.List.{List}
use mathlib.Core.Option.{Option, some, none}
use native.Mathlib.Decide.{ℕ_discrete, dec_lt}
use native.Mathlib.Omega.{arith}
use lib.Dec.{leb, ltb, ltb→lt}
use Rattle.places.specs.Numbering.{stride, levels_in, levels_at}
use Rattle.places.proofs.Levels.{levels_fit}
use Rattle.basics.specs.Lists.{Mem, All}
use Rattle.basics.proofs.Booleans.{both_true}
use Rattle.basics.proofs.ListLaws.{all_split, all_join, all_map, all_at, all_from}
use Rattle.terms.specs.Pattern.{Pattern, Patterns, count_patterns, pnil, pcons}
use Rattle.terms.specs.Pattern.{anything, the_symbol, the_series, the_range, the_gauged, the_compound, variable, ranged_variable}
use Rattle.terms.specs.RuleTests.{Want, a_compound, PlaceTest, at, PairTest, Occurrence, Range, patterns_range, range_test}
use Rattle.terms.specs.RuleTests.{pattern_tests, patterns_tests, pattern_variables, patterns_variables}
use Rattle.terms.specs.RuleTests.{place_tests, pair_tests, rule_variables}
use Rattle.terms.specs.Accepted.{Sound, Sounds}
use Rattle.terms.proofs.TermPlaces.{extent, extent_fits}
use Rattle.terms.proofs.Ascending.{Ascends, ascends_from}
use Rattle.terms.proofs.PairTests.{variable_place, all_variables_ascend, pairs_each}
use Rattle.terms.proofs.PreorderTests.{test_place, all_tests_ascend}
use Rattle.terms.proofs.Above.{Above, RowAt, row_arguments, row_head, row_tail, row_below}

-- A place of a row's first neighbour stands above no place after it.
Row-Apart
    : (r b size n m : ℕ) → RowAt r b (stride r + size) → b ≤ n → n < b + stride r → b + stride r ≤ m → Above n m → ⊥
Row-Apart r b size n m row from near after above =
    let inside : n - b < stride r = omega arith in
    let back : b + (n - b) ≡ n = omega arith in
    let levels : levels_at n ≡ levels_in r (n - b) = ap levels_at (sym back) ∙ row_head r b size row (n - b) inside in
    let below = both_true (leb n m) (ltb m (n + stride (levels_at n))) above.1 in
    let end = ltb→lt m (n + stride (levels_at n)) below.1 in
    omega (arith, levels_fit r (n - b) inside, ap stride levels)

module _ (range_of : ℕ → Option Range) (Listed : PlaceTest → Type 0) where
  -- There is a listed test at each place from b on that stands above m.
  abbrev Owned : ℕ → ℕ → Type 0
  Owned b m = (n : ℕ) → b ≤ n → Above n m → (w : Want) × Listed (at n w)

  -- It is so of all places of those tests and those variables.
  abbrev AllOwned : ℕ → List PlaceTest → List Occurrence → Type 0
  AllOwned b tests variables =
      All (λ (x : PlaceTest). Owned b x.place) tests × All (λ (o : Occurrence). Owned b o.place) variables

  -- Nothing from b on stands above b.
  first_owned : (b : ℕ) → Owned b b
  first_owned b n from above = absurd (let z : ⊥ = omega (arith, above.0) in z)

  range_owned : (b : ℕ) (x : Option Range) → All (λ (y : PlaceTest). Owned b y.place) (range_test b x)
  range_owned b none = tt
  range_owned b (some x) = (first_owned b, tt)

  -- Where a test is listed at b, what is owned from the next place on is owned from b on.
  owned_below : (b : ℕ) (w : Want) → Listed (at b w) → (m : ℕ) → Owned (suc b) m → Owned b m
  owned_below b w listed m owned n from above =
      elim (ℕ_discrete n b) [
        | yes e ↦ (w, subst (λ (k : ℕ). Listed (at k w)) (sym e) listed)
        | no d ↦ owned n (omega arith) above
      ]

  -- What is owned from after a neighbour on is owned from the neighbour on,
  owned_later
      : (r b size : ℕ) → RowAt r b (stride r + size) → (m : ℕ) → b + stride r ≤ m → Owned (b + stride r) m → Owned b m
  owned_later r b size row m after owned n from above =
      elim (dec_lt n (b + stride r)) [
        | yes near ↦ absurd (Row-Apart r b size n m row from near after above)
        | no far ↦ owned n (omega arith) above
      ]

  -- and so is what stands in a list that ascends from there on.
  all_later
      : {A : Type 0} (place : A → ℕ) (r b size e : ℕ) → RowAt r b (stride r + size) → (xs : List A)
      → Ascends place (b + stride r) e xs → All (λ (x : A). Owned (b + stride r) (place x)) xs
      → All (λ (x : A). Owned b (place x)) xs
  all_later {A} place r b size e row xs up owned =
      all_from (λ (x : A). Owned b (place x)) xs (λ x m.
      owned_later r b size row (place x)
      (all_at (λ (y : A). b + stride r ≤ place y) m (ascends_from place (b + stride r) e xs up))
      (all_at (λ (y : A). Owned (b + stride r) (place y)) m owned))

  mutual
    -- Where all tests of a pattern are listed, all that it tests is owned from its place on,
    pattern_owned
        : (p : Pattern) (r b : ℕ) → Sound p r → RowAt r b (stride r) → All Listed (pattern_tests range_of p r b)
        → AllOwned b (pattern_tests range_of p r b) (pattern_variables p r b)
    pattern_owned anything r b sound row listed = (tt, tt)
    pattern_owned (the_symbol a) r b sound row listed = ((first_owned b, tt), tt)
    pattern_owned (the_series l h) r b sound row listed = ((first_owned b, tt), tt)
    pattern_owned (the_range l h) r b sound row listed = ((first_owned b, tt), tt)
    pattern_owned (the_gauged g l h) r b sound row listed = ((first_owned b, tt), tt)
    pattern_owned (the_compound a ps) r b sound row listed =
        let n = count_patterns ps in
        let rows = row_below r b (extent n (pred r)) sound.0 row (extent_fits n r sound.0 sound.3) in
        let rest = patterns_owned ps (pred r) (suc b) sound.4 rows listed.1 in
        let wider = owned_below b (a_compound a n) listed.0 in (
          (
            first_owned b,
            all_map (λ (x : PlaceTest). Owned (suc b) x.place) (λ (x : PlaceTest). Owned b x.place)
                (λ x. wider x.place) (patterns_tests range_of ps (pred r) (suc b)) rest.0,
          ),
          all_map (λ (o : Occurrence). Owned (suc b) o.place) (λ (o : Occurrence). Owned b o.place)
              (λ o. wider o.place) (patterns_variables ps (pred r) (suc b)) rest.1,
        )
    pattern_owned (variable v) r b sound row listed = (range_owned b (range_of v), (first_owned b, tt))
    pattern_owned (ranged_variable v l h) r b sound row listed = (range_owned b (range_of v), (first_owned b, tt))

    -- and so for a row of patterns.
    patterns_owned
        : (ps : Patterns) (r b : ℕ) → Sounds ps r → RowAt r b (extent (count_patterns ps) r)
        → All Listed (patterns_tests range_of ps r b)
        → AllOwned b (patterns_tests range_of ps r b) (patterns_variables ps r b)
    patterns_owned pnil r b sound row listed = (tt, tt)
    patterns_owned (pcons p ps) r b sound row listed =
        let size = extent (count_patterns ps) r in
        let next = b + stride r in
        let tests = pattern_tests range_of p r b in
        let later = patterns_tests range_of ps r next in
        let variables = pattern_variables p r b in
        let others = patterns_variables ps r next in
        let parts = all_split Listed tests later listed in
        let x = pattern_owned p r b sound.0 (row_head r b size row) parts.0 in
        let xs = patterns_owned ps r next sound.1 (row_tail r b size row) parts.1 in
        let testsUp = all_tests_ascend range_of ps r next sound.1 in
        let variablesUp = all_variables_ascend ps r next sound.1 in (
          all_join (λ (y : PlaceTest). Owned b y.place) tests later x.0
              (all_later test_place r b size (next + size) row later testsUp xs.0),
          all_join (λ (y : Occurrence). Owned b y.place) variables others x.1
              (all_later variable_place r b size (next + size) row others variablesUp xs.1),
        )

module _ (rule : Patterns) (sound : Sounds rule 4) where
  -- The rule has a place test at each place above m.
  abbrev pub OwnAbove : ℕ → Type 0
  OwnAbove m = (n : ℕ) → Above n m → (w : Want) × Mem (at n w) (place_tests rule)

  abbrev Own : PlaceTest → Type 0
  Own x = Mem x (place_tests rule)

  all_owned : AllOwned (patterns_range rule) Own 0 (place_tests rule) (rule_variables rule)
  all_owned =
      patterns_owned (patterns_range rule) Own rule 4 0 sound (row_arguments (extent (count_patterns rule) 4))
      (all_from Own (place_tests rule) (λ x m. m))

  -- It is so of the place of each place test,
  pub place_own_above : (x : PlaceTest) → Mem x (place_tests rule) → OwnAbove x.place
  place_own_above x m n above =
      all_at (λ (y : PlaceTest). Owned (patterns_range rule) Own 0 y.place) m all_owned.0 n (omega arith) above

  -- and of both places of each equality test.
  pub pair_own_above : (x : PairTest) → Mem x (pair_tests rule) → OwnAbove x.first × OwnAbove x.second
  pair_own_above x m =
      let end = 0 + extent (count_patterns rule) 4 in
      let up = all_variables_ascend rule 4 0 sound in
      let owned = all_map AtFirst AtVariable (λ o f n above. f n (omega arith) above) (rule_variables rule) all_owned.1 in
      all_at AtBoth m (pairs_each AtVariable AtBoth (λ o y before one p q. (p, q)) 0 end (rule_variables rule) up owned)
    where
      AtFirst : Occurrence → Type 0
      AtFirst o = Owned (patterns_range rule) Own 0 o.place

      AtVariable : Occurrence → Type 0
      AtVariable o = OwnAbove o.place

      AtBoth : PairTest → Type 0
      AtBoth y = OwnAbove y.first × OwnAbove y.second
