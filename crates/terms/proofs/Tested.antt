-- A place that a rule tests is in the piece, or below an unknown or record 35, unless a place test of the rule above it is
-- contradicted. For place tests and equality tests, and for patterns of any depth.
use Prim.Native.Nat.{ℕ, suc, pred, ◌+◌, ◌≤◌, ◌<◌}
use mathlib.Core.Path.{◌≡◌, sym, ◌∙◌}
use mathlib.Core.Bool.{◌&&◌}
use mathlib.Core.Logic.{◌⊎◌, inl, inr}
use mathlib.Core.List.{List, [], ◌∷◌}
use mathlib.Core.Option.{Option, some, none}
use native.Mathlib.Omega.{arith}
use lib.Dec.{eqb, eqb→eq}
use Rattle.places.specs.Numbering.{stride}
use Rattle.basics.specs.Lists.{Mem, All}
use Rattle.terms.specs.Term.{Term, Terms, count, unknown, symbol, numbers, compound, nil, cons, never}
use Rattle.terms.specs.Pattern.{Pattern, Patterns, count_patterns, anything, the_symbol, the_series, the_range, the_gauged, the_compound, variable, ranged_variable, pnil, pcons}
use Rattle.terms.specs.RuleTests.{a_compound, PlaceTest, at, PairTest, Occurrence, Range, patterns_range, range_test}
use Rattle.terms.specs.RuleTests.{pattern_tests, patterns_tests, pattern_variables, patterns_variables}
use Rattle.terms.specs.RuleTests.{place_tests, pair_tests, rule_variables}
use Rattle.terms.specs.Lookup.{Found, lacking, found, term_at}
use Rattle.terms.specs.Outcome.{Contradicted, fits, at_place, place_outcome}
use Rattle.terms.specs.Accepted.{Sound, Sounds, AcceptedRule, AcceptedPiece}
use Rattle.basics.proofs.Booleans.{both_true}
use Rattle.basics.proofs.ListLaws.{all_split, all_join, all_at, all_from}
use Rattle.terms.proofs.Outcomes.{Open, open_or_contradicted, open_true}
use Rattle.terms.proofs.TermPlaces.{extent, extent_fits, unknowns, count_unknowns, Shows, Showss}
use Rattle.terms.proofs.TermPlaces.{shows_row, shows_root, shows_arguments, shows_unknown, shows_head, shows_tail}
use Rattle.terms.proofs.Ascending.{Ascends, ascends_le}
use Rattle.terms.proofs.PairTests.{variable_place, all_variables_ascend, pairs_each}
use Rattle.terms.proofs.PreorderTests.{test_place, all_tests_ascend}
use Rattle.terms.proofs.Above.{Above, RowAt, row_arguments, row_head, row_tail, row_below, first_above}

-- Something stands there: a term of the piece, or what hides the place.
abbrev pub IsFound : Found → Type 0
IsFound lacking = ⊥
IsFound (found t) = Unit

-- What holds of all places within bounds holds of the places of a list that ascends within them.
ascends_all
    : {A : Type 0} (place : A → ℕ) (Q : ℕ → Type 0) (b e : ℕ) → ((m : ℕ) → b ≤ m → m < e → Q m)
    → (xs : List A) → Ascends place b e xs → All (λ (x : A). Q (place x)) xs
ascends_all place Q b e all [] up = tt
ascends_all place Q b e all (x ∷ xs) up =
    let n = place x in
    let rest = ascends_all place Q (suc n) e (λ m after near. all m (omega (arith, up.0)) near) xs up.1 in
    (all n up.0 (ascends_le place (suc n) e xs up.1), rest)

module _ (range_of : ℕ → Option Range) (look : ℕ → Found) (Listed : PlaceTest → Type 0) where
  -- A place is reached when something stands there or one of the listed place tests, above it, is contradicted.
  abbrev Reached : ℕ → Type 0
  Reached n =
      IsFound (look n)
      ⊎ ((x : PlaceTest) × Listed x × Above x.place n × Contradicted (at_place (fits x.want) (look x.place)))

  -- All places of those tests and those variables are reached.
  abbrev AllReached : List PlaceTest → List Occurrence → Type 0
  AllReached tests variables =
      All (λ (x : PlaceTest). Reached x.place) tests × All (λ (x : Occurrence). Reached x.place) variables

  -- Where a term is shown, its place is reached.
  root_reached : (t : Term) (r b : ℕ) → 1 ≤ r → Shows look t r b → Reached b
  root_reached t r b deep shown = inl (rw (shows_root look t r b deep shown) tt)

  -- So it is for the range test at a variable's place, if there is one.
  range_reached : (b : ℕ) (x : Option Range) → Reached b → All (λ (y : PlaceTest). Reached y.place) (range_test b x)
  range_reached b none reached = tt
  range_reached b (some x) reached = (reached, tt)

  -- Where a compound of n arguments is wanted and the test is open, n terms are shown below it.
  shown_below
      : (a n : ℕ) (t : Term) (r b : ℕ) → 1 ≤ r → n ≤ 4 → Shows look t r b → Open (fits (a_compound a n) t)
      → (us : Terms) × (count us ≡ n) × Showss look us (pred r) (suc b)
  shown_below a n unknown r b deep few shown o = (unknowns n, count_unknowns n, shows_unknown look n r b deep few shown)
  shown_below a n never r b deep few shown o = absurd o
  shown_below a n (symbol c) r b deep few shown o = absurd o
  shown_below a n (numbers c d) r b deep few shown o = absurd o
  shown_below a n (compound c us) r b deep few shown o =
      let same = both_true (eqb a c) (eqb n (count us)) (open_true (eqb a c && eqb n (count us)) o) in
      let e : n ≡ count us = eqb→eq n (count us) same.1 in
      (us, sym e, shows_arguments look c us r b deep (omega arith) shown)

  -- Where a compound is wanted and the test is contradicted, it stands above all that is tested below it.
  below_reached
      : (a : ℕ) (ps : Patterns) (t : Term) (r b : ℕ) → Sound (the_compound a ps) r → Shows look t r b
      → RowAt r b (stride r) → Listed (at b (a_compound a (count_patterns ps)))
      → Contradicted (fits (a_compound a (count_patterns ps)) t)
      → AllReached (patterns_tests range_of ps (pred r) (suc b)) (patterns_variables ps (pred r) (suc b))
  below_reached a ps t r b sound shown row listed c =
      let tests = patterns_tests range_of ps (pred r) (suc b) in
      let variables = patterns_variables ps (pred r) (suc b) in
      let testsUp = all_tests_ascend range_of ps (pred r) (suc b) sound.4 in
      let variablesUp = all_variables_ascend ps (pred r) (suc b) sound.4 in (
        ascends_all test_place Reached (suc b) end under tests testsUp,
        ascends_all variable_place Reached (suc b) end under variables variablesUp,
      )
    where
      end : ℕ
      end = suc b + extent (count_patterns ps) (pred r)

      under : (m : ℕ) → suc b ≤ m → m < end → Reached m
      under m after near =
          let fit = extent_fits (count_patterns ps) r sound.0 sound.3 in
          let above = first_above r b m sound.0 row (omega arith) (omega arith) in
          inr (at b (a_compound a (count_patterns ps)), listed, above, rw (shows_root look t r b sound.0 shown) c)

  mutual
    -- Where a term is shown, all that a pattern there tests is reached,
    pattern_reached
        : (p : Pattern) (t : Term) (r b : ℕ) → Sound p r → Shows look t r b → RowAt r b (stride r)
        → All Listed (pattern_tests range_of p r b) → AllReached (pattern_tests range_of p r b) (pattern_variables p r b)
    pattern_reached anything t r b sound shown row listed = (tt, tt)
    pattern_reached (the_symbol a) t r b sound shown row listed = ((root_reached t r b sound.0 shown, tt), tt)
    pattern_reached (the_series l h) t r b sound shown row listed = ((root_reached t r b sound.0 shown, tt), tt)
    pattern_reached (the_range l h) t r b sound shown row listed = ((root_reached t r b sound.0 shown, tt), tt)
    pattern_reached (the_gauged g l h) t r b sound shown row listed = ((root_reached t r b sound.0 shown, tt), tt)
    pattern_reached (the_compound a ps) t r b sound shown row listed =
        let n = count_patterns ps in
        let Below = AllReached (patterns_tests range_of ps (pred r) (suc b)) (patterns_variables ps (pred r) (suc b)) in
        let rows = row_below r b (extent n (pred r)) sound.0 row (extent_fits n r sound.0 sound.3) in
        let rest : Below = elim (open_or_contradicted (fits (a_compound a n) t)) [
          | inl o ↦
              let us = shown_below a n t r b sound.0 sound.3 shown o in
              patterns_reached ps us.0 (pred r) (suc b) sound.4 us.1 us.2 rows listed.1
          | inr c ↦ below_reached a ps t r b sound shown row listed.0 c
        ] in
        ((root_reached t r b sound.0 shown, rest.0), rest.1)
    pattern_reached (variable v) t r b sound shown row listed =
        let reached = root_reached t r b sound.0 shown in (range_reached b (range_of v) reached, (reached, tt))
    pattern_reached (ranged_variable v l h) t r b sound shown row listed =
        let reached = root_reached t r b sound.0 shown in (range_reached b (range_of v) reached, (reached, tt))

    -- and so for a row of terms and of patterns.
    patterns_reached
        : (ps : Patterns) (ts : Terms) (r b : ℕ) → Sounds ps r → count ts ≡ count_patterns ps → Showss look ts r b
        → RowAt r b (extent (count_patterns ps) r) → All Listed (patterns_tests range_of ps r b)
        → AllReached (patterns_tests range_of ps r b) (patterns_variables ps r b)
    patterns_reached pnil ts r b sound same shown row listed = (tt, tt)
    patterns_reached (pcons p ps) nil r b sound same shown row listed = absurd (omega arith)
    patterns_reached (pcons p ps) (cons t ts) r b sound same shown row listed =
        let n = extent (count_patterns ps) r in
        let next = b + stride r in
        let tests = pattern_tests range_of p r b in
        let later = patterns_tests range_of ps r next in
        let variables = pattern_variables p r b in
        let others = patterns_variables ps r next in
        let parts = all_split Listed tests later listed in
        let shownHead = shows_head look t ts r b shown in
        let shownTail = shows_tail look t ts r b shown in
        let x = pattern_reached p t r b sound.0 shownHead (row_head r b n row) parts.0 in
        let xs = patterns_reached ps ts r next sound.1 (omega arith) shownTail (row_tail r b n row) parts.1 in (
          all_join (λ (y : PlaceTest). Reached y.place) tests later x.0 xs.0,
          all_join (λ (y : Occurrence). Reached y.place) variables others x.1 xs.1,
        )

module _ (rule : Patterns) (piece : Terms) where
  -- Place n is in the piece or below what hides it, or the rule has a contradicted place test above it.
  abbrev pub FoundOrContradicted : ℕ → Type 0
  FoundOrContradicted n =
      IsFound (term_at piece n)
      ⊎ ((x : PlaceTest) × Mem x (place_tests rule) × Above x.place n × Contradicted (place_outcome piece x))

-- A rule of an accepted sheet and an accepted piece of its arity.
module _ (arity : ℕ) (rule : Patterns) (piece : Terms) (a : AcceptedRule arity rule) (c : AcceptedPiece arity piece) where
  abbrev Own : PlaceTest → Type 0
  Own x = Mem x (place_tests rule)

  -- Its tests are its own, and the piece is shown from place 0 on.
  all_reached : AllReached (patterns_range rule) (term_at piece) Own (place_tests rule) (rule_variables rule)
  all_reached =
      let same = c.arguments ∙ sym a.arguments in
      let row = row_arguments (extent (count_patterns rule) 4) in
      let own = all_from Own (place_tests rule) (λ x m. m) in
      patterns_reached (patterns_range rule) (term_at piece) Own rule piece 4 0 a.sound same (shows_row piece 4) row own

  -- The place of each place test is in the piece or below what hides it, or a place test above it is contradicted.
  pub tested_place : (x : PlaceTest) → Mem x (place_tests rule) → FoundOrContradicted rule piece x.place
  tested_place x m = all_at (λ (y : PlaceTest). FoundOrContradicted rule piece y.place) m all_reached.0

  -- So it is for both places of each equality test.
  pub tested_pair
      : (x : PairTest) → Mem x (pair_tests rule)
      → FoundOrContradicted rule piece x.first × FoundOrContradicted rule piece x.second
  tested_pair x m =
      let end = 0 + extent (count_patterns rule) 4 in
      let up = all_variables_ascend rule 4 0 a.sound in
      let pairs = pairs_each AtVariable AtBoth (λ o y before one p q. (p, q)) 0 end (rule_variables rule) up in
      all_at AtBoth m (pairs all_reached.1)
    where
      AtVariable : Occurrence → Type 0
      AtVariable o = FoundOrContradicted rule piece o.place

      AtBoth : PairTest → Type 0
      AtBoth y = FoundOrContradicted rule piece y.first × FoundOrContradicted rule piece y.second
