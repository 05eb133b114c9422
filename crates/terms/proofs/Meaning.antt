-- What a rule means: a piece in which nothing is left to fill in meets a rule of an accepted sheet exactly when its arguments match
-- the rule's patterns, with one term for each variable, which is or holds record 35 at most where the variable stands once. For
-- patterns and terms of any depth.
use Prim.Native.Nat.{ℕ, suc, pred, ◌+◌, ◌≤◌}
use mathlib.Core.Path.{◌≡◌, ap, sym, subst, ◌∙◌}
use mathlib.Core.Bool.{cond}
use mathlib.Core.Logic.{◌↔◌}
use mathlib.Core.List.{List, [], ◌∷◌}
use mathlib.Core.Option.{Option, some, none}
use native.Mathlib.Omega.{arith}
use lib.Dec.{eqb, eqb→eq, eqb_refl}
use Rattle.places.specs.Numbering.{stride}
use Rattle.basics.specs.Lists.{All}
use Rattle.basics.proofs.Booleans.{cond_by}
use Rattle.basics.proofs.ListLaws.{all_split, all_join, all_map, all_at, all_from}
use Rattle.terms.specs.Term.{Term, Terms, count, on_gauge, symbol, number, compound, nil, cons}
use Rattle.terms.specs.Pattern.{Pattern, Patterns, count_patterns, anything, the_symbol, the_series, the_range, the_gauged, the_compound, variable, ranged_variable, pnil, pcons}
use Rattle.terms.specs.RuleTests.{Want, a_symbol, a_number, a_compound, at, PairTest, both, Occurrence, Range, range_test, patterns_range}
use Rattle.terms.specs.RuleTests.{pattern_variables, patterns_variables, pattern_tests, patterns_tests, pairs_with, pairs_of, rule_variables, pair_tests}
use Rattle.terms.specs.Lookup.{Found, lacking, found, finds, term_at}
use Rattle.terms.specs.Outcome.{Holds, fits, at_place, at_places, Meets}
use Rattle.terms.specs.Filling.{WellFormed, WellFormeds, Filling, Known, Knowns}
use Rattle.terms.specs.Accepted.{Sound, Sounds, AcceptedRule, AcceptedPiece}
use Rattle.terms.proofs.TermPlaces.{IfFound, finds_each, extent}
use Rattle.terms.proofs.TermPlaces.{Shows, Showss, shows_root, shows_arguments, shows_head, shows_tail, shows_row}
use Rattle.terms.proofs.Stays.{puts_count}
use Rattle.terms.proofs.Instances.{HoldsIn, InRange}
use Rattle.terms.proofs.VariableTerms.{HoldsPair}
use Rattle.terms.proofs.WellFormed.{filling_known}
use Rattle.terms.proofs.Never.{Ordinary}
use Rattle.terms.proofs.PairTests.{pairs_with_at, pairs_each, all_variables_ascend}
use Rattle.terms.proofs.CompareSentences.{holds_equal, same_holds}
use Rattle.terms.proofs.PlaceSentences.{Wanted, in_series, that_compound, in_range, fits_wanted, wanted_fits}
use Rattle.terms.proofs.Matching.{Matches, AllMatch, as_anything, as_symbol, as_series, as_range, as_gauged, as_compound, as_variable, as_ranged, as_nil, as_cons}
use Rattle.terms.proofs.Matching.{match_count, match_ranges, series_in, range_in_lem, gauged_in, Narrows, EachRanged, AllRanged, all_narrowed}

-- A term of an accepted piece in which nothing is left to fill in; and so for a row of terms.
abbrev Settled : Term → Type 0
Settled t = WellFormed t × Known t

abbrev Settleds : Terms → Type 0
Settleds ts = WellFormeds ts × Knowns ts

-- A test that holds at a place where a term is shown holds of the term, and the other way.
root_holds
    : (look : ℕ → Found) (w : Want) (t : Term) (r b : ℕ) → 1 ≤ r → Shows look t r b → HoldsIn look (at b w) → Wanted w t
root_holds look w t r b deep shown h =
    fits_wanted w t (subst (λ x. Holds (at_place (fits w) x)) (shows_root look t r b deep shown) h)

holds_root
    : (look : ℕ → Found) (w : Want) (t : Term) (r b : ℕ) → 1 ≤ r → Shows look t r b → Wanted w t → HoldsIn look (at b w)
holds_root look w t r b deep shown h =
    subst (λ x. Holds (at_place (fits w) x)) (sym (shows_root look t r b deep shown)) (wanted_fits h)

module _ (range_of : ℕ → Option Range) (σ : ℕ → Term) (look : ℕ → Found) where
  -- What stands where a variable does is the variable's term,
  abbrev SameTerm : Occurrence → Type 0
  SameTerm o = (t : Term) → look o.place ≡ found t → t ≡ σ o.name

  -- and the variable's term stands there.
  abbrev HasTerm : Occurrence → Type 0
  HasTerm o = look o.place ≡ found (σ o.name)

  -- The variable's range lies within that of each of its records.
  abbrev Narrowed : ℕ → ℕ → ℕ → Type 0
  Narrowed v l h = Narrows (range_of v) l h

  -- A ranged variable's term is in the range of its record where the variable's range test holds.
  ranged_match
      : (v l h : ℕ) (t : Term) (r b : ℕ) → 1 ≤ r → Settled t → Shows look t r b → (x : Option Range) → Narrows x l h
      → t ≡ σ v → All (HoldsIn look) (range_test b x) → Matches σ (ranged_variable v l h) t
  ranged_match v l h t r b deep settled shown none narrow e k = absurd narrow
  ranged_match v l h t r b deep settled shown (some x) narrow e k =
      let n = range_in_lem x.low x.high settled.1 (root_holds look (a_number x.low x.high) t r b deep shown k.0) in
      let low : l ≤ n.0 = omega (arith, n.2, narrow.0) in
      let high : n.0 ≤ h = omega (arith, n.3, narrow.1) in
      subst (Matches σ (ranged_variable v l h)) (sym n.1) (as_ranged {n = n.0} (sym n.1 ∙ e) low high)

  mutual
    -- Where the tests hold, the term matches,
    tests_match
        : (p : Pattern) (t : Term) (r b : ℕ) → Sound p r → Settled t → Shows look t r b → EachRanged Narrowed p
        → All (HoldsIn look) (pattern_tests range_of p r b) → All SameTerm (pattern_variables p r b) → Matches σ p t
    tests_match anything t r b sound settled shown narrow h s = as_anything
    tests_match (the_symbol a) t r b sound settled shown narrow h s =
        let x = series_in a a (root_holds look (a_symbol a a) t r b sound.0 shown h.0) in
        let same : t ≡ symbol a = x.1 ∙ ap symbol (omega (arith, x.2, x.3)) in
        subst (Matches σ (the_symbol a)) (sym same) as_symbol
    tests_match (the_series l u) t r b sound settled shown narrow h s =
        let x = series_in l u (root_holds look (a_symbol l u) t r b sound.0 shown h.0) in
        subst (Matches σ (the_series l u)) (sym x.1) (as_series x.2 x.3)
    tests_match (the_range l u) t r b sound settled shown narrow h s =
        let n = range_in_lem l u settled.1 (root_holds look (a_number l u) t r b sound.0 shown h.0) in
        subst (Matches σ (the_range l u)) (sym n.1) (as_range n.2 n.3)
    tests_match (the_gauged g l u) t r b sound settled shown narrow h s =
        let w = a_number (on_gauge g l) (on_gauge g u) in
        let n = gauged_in g l u settled.1 (root_holds look w t r b sound.0 shown h.0) in
        subst (Matches σ (the_gauged g l u)) (sym n.2) (as_gauged {v = n.0} n.3 n.4 n.5)
    tests_match (the_compound a ps) t r b sound settled shown narrow h s =
        as_compound_lem t settled shown (root_holds look (a_compound a (count_patterns ps)) t r b sound.0 shown h.0)
        (λ ts below same e. all_tests_match ps ts (pred r) (suc b) sound.4 below e same narrow h.1 s)
      where
        as_compound_lem
            : (u : Term) → Settled u → Shows look u r b → Wanted (a_compound a (count_patterns ps)) u
            → ((ts : Terms) → Settleds ts → Showss look ts (pred r) (suc b) → count_patterns ps ≡ count ts → AllMatch σ ps ts)
            → Matches σ (the_compound a ps) u
        as_compound_lem u g shows (that_compound {ts = ts} e) rest =
            as_compound (rest ts (g.0.3, g.1) (shows_arguments look a ts r b sound.0 g.0.2 shows) e)
    tests_match (variable v) t r b sound settled shown narrow h s =
        as_variable (s.0 t (shows_root look t r b sound.0 shown))
    tests_match (ranged_variable v l u) t r b sound settled shown narrow h s =
        ranged_match v l u t r b sound.0 settled shown (range_of v) narrow (s.0 t (shows_root look t r b sound.0 shown)) h

    -- and so do the terms of a row.
    all_tests_match
        : (ps : Patterns) (ts : Terms) (r b : ℕ) → Sounds ps r → Settleds ts → count_patterns ps ≡ count ts
        → Showss look ts r b → AllRanged Narrowed ps → All (HoldsIn look) (patterns_tests range_of ps r b)
        → All SameTerm (patterns_variables ps r b) → AllMatch σ ps ts
    all_tests_match pnil nil r b sound settled same shown narrow h s = as_nil
    all_tests_match pnil (cons t ts) r b sound settled same shown narrow h s = absurd (omega arith)
    all_tests_match (pcons p ps) nil r b sound settled same shown narrow h s = absurd (omega arith)
    all_tests_match (pcons p ps) (cons t ts) r b sound settled same shown narrow h s =
        let x = all_split (HoldsIn look) (pattern_tests range_of p r b) (patterns_tests range_of ps r (b + stride r)) h in
        let y = all_split SameTerm (pattern_variables p r b) (patterns_variables ps r (b + stride r)) s in
        let first = shows_head look t ts r b shown in
        let rest = shows_tail look t ts r b shown in
        as_cons (tests_match p t r b sound.0 (settled.0.0, settled.1.0) first narrow.0 x.0 y.0)
        (all_tests_match ps ts r (b + stride r) sound.1 (settled.0.1, settled.1.1) (omega arith) rest narrow.1 x.1 y.1)

  -- A variable's range test, if there is one, holds where its term stands and is in the range.
  range_holds
      : (v : ℕ) (t : Term) (r b : ℕ) → 1 ≤ r → Shows look t r b → t ≡ σ v → (x : Option Range) → InRange x (σ v)
      → All (HoldsIn look) (range_test b x)
  range_holds v t r b deep shown e none inside = tt
  range_holds v t r b deep shown e (some x) inside =
      let w : Want = a_number x.low x.high in
      (holds_root look w t r b deep shown (fits_wanted w t (rw e inside)), tt)

  module _ (inside : (v : ℕ) → InRange (range_of v) (σ v)) where
    mutual
      -- Where a term matches, the tests hold, and each variable's term stands where the variable does,
      match_tests
          : (p : Pattern) (r b : ℕ) {t : Term} → Sound p r → Shows look t r b → Matches σ p t
          → All (HoldsIn look) (pattern_tests range_of p r b) × All HasTerm (pattern_variables p r b)
      match_tests anything r b sound shown m = (tt, tt)
      match_tests (the_symbol a) r b sound shown as_symbol =
          ((holds_root look (a_symbol a a) (symbol a) r b sound.0 shown (in_series (omega arith) (omega arith)), tt), tt)
      match_tests (the_series l h) r b sound shown (as_series {a = a} p q) =
          ((holds_root look (a_symbol l h) (symbol a) r b sound.0 shown (in_series p q), tt), tt)
      match_tests (the_range l h) r b sound shown (as_range {n = n} p q) =
          ((holds_root look (a_number l h) (number n) r b sound.0 shown (in_range p q), tt), tt)
      match_tests (the_gauged g l h) r b sound shown (as_gauged {v = v} {n = n} e p q) =
          let w = a_number (on_gauge g l) (on_gauge g h) in
          ((holds_root look w (number n) r b sound.0 shown (in_range (omega arith) (omega arith)), tt), tt)
      match_tests (the_compound a ps) r b sound shown (as_compound {ts = ts} ms) =
          let e = match_count ms in
          let below = shows_arguments look a ts r b sound.0 (omega (arith, sound.3)) shown in
          let rest = all_match_tests ps (pred r) (suc b) sound.4 below ms in
          let here = holds_root look (a_compound a (count_patterns ps)) (compound a ts) r b sound.0 shown
          (that_compound e) in
          ((here, rest.0), rest.1)
      match_tests (variable v) r b {t} sound shown (as_variable e) = (
        range_holds v t r b sound.0 shown e (range_of v) (inside v),
        (shows_root look t r b sound.0 shown ∙ ap found e, tt),
      )
      match_tests (ranged_variable v l h) r b sound shown (as_ranged {n = n} e p q) = (
        range_holds v (number n) r b sound.0 shown e (range_of v) (inside v),
        (shows_root look (number n) r b sound.0 shown ∙ ap found e, tt),
      )

      -- and so for a row.
      all_match_tests
          : (ps : Patterns) (r b : ℕ) {ts : Terms} → Sounds ps r → Showss look ts r b → AllMatch σ ps ts
          → All (HoldsIn look) (patterns_tests range_of ps r b) × All HasTerm (patterns_variables ps r b)
      all_match_tests pnil r b sound shown ms = (tt, tt)
      all_match_tests (pcons p ps) r b sound shown (as_cons {t = t} {ts = ts} m ms) =
          let x = match_tests p r b sound.0 (shows_head look t ts r b shown) m in
          let xs = all_match_tests ps r (b + stride r) sound.1 (shows_tail look t ts r b shown) ms in (
            all_join (HoldsIn look) (pattern_tests range_of p r b) (patterns_tests range_of ps r (b + stride r)) x.0 xs.0,
            all_join HasTerm (pattern_variables p r b) (patterns_variables ps r (b + stride r)) x.1 xs.1,
          )

-- The term at the first place of a variable.
abbrev term_in : Found → Term
term_in lacking = symbol 0
term_in (found t) = t

abbrev first_at : (ℕ → Found) → List Occurrence → ℕ → Term
first_at look [] v = symbol 0
first_at look (o ∷ os) v = cond (eqb o.name v) (term_in (look o.place)) (first_at look os v)

module _ (look : ℕ → Found) where
  abbrev First : List Occurrence → Occurrence → Type 0
  First os o = (t : Term) → look o.place ≡ found t → t ≡ first_at look os o.name

  -- The variable's first term is that of another place of it with which the pair holds.
  beside
      : (o x : Occurrence) (os : List Occurrence) → (o.name ≡ x.name → HoldsPair look (both o.place x.place))
      → First os x → First (o ∷ os) x
  beside o x os pair first t e =
      cond_by (λ (u : Term). t ≡ u) (eqb o.name x.name)
      (λ k. same (look o.place) (subst (λ (y : Found). Holds (at_places (look o.place) y)) e
      (pair (eqb→eq o.name x.name k))))
      (λ k. first t e)
    where
      same : (y : Found) → Holds (at_places y (found t)) → t ≡ term_in y
      same lacking h = absurd h
      same (found u) h = sym (holds_equal u t h).0

  all_beside
      : (o : Occurrence) (os later : List Occurrence)
      → All (λ (x : Occurrence). o.name ≡ x.name → HoldsPair look (both o.place x.place)) later
      → All (First os) later → All (First (o ∷ os)) later
  all_beside o os [] pairs firsts = tt
  all_beside o os (x ∷ xs) pairs firsts = (beside o x os pairs.0 firsts.0, all_beside o os xs pairs.1 firsts.1)

  -- Where the equality tests hold, what stands where a variable does is its first term.
  all_first : (os : List Occurrence) → All (HoldsPair look) (pairs_of os) → All (First os) os
  all_first [] h = tt
  all_first (o ∷ os) h =
      let s = all_split (HoldsPair look) (pairs_with o.place o.name os) (pairs_of os) h in
      (own, all_beside o os os (pairs_with_at (HoldsPair look) o.place o.name os s.0) (all_first os s.1))
    where
      own : First (o ∷ os) o
      own t e =
          cond_by (λ (u : Term). t ≡ u) (eqb o.name o.name) (λ k. ap term_in (sym e)) (λ k. absurd (k (eqb_refl o.name)))

-- What stands in terms in which nothing is left to fill in is such a term.
finds_settled : (ts : Terms) → Settleds ts → (r n : ℕ) → IfFound Settled (finds ts r n)
finds_settled =
    finds_each Settled Settleds (λ a ts ok. (ok.0.3, ok.1)) (λ t ts ok. ((ok.0.0, ok.1.0), (ok.0.1, ok.1.1)))

-- At the first place of each of the rule's equality tests stands an ordinary term.
abbrev pub OrdinaryPairs : Patterns → Terms → Type 0
OrdinaryPairs rule piece = All (λ (x : PairTest). IfFound Ordinary (term_at piece x.first)) (pair_tests rule)

-- Where an equality test holds, none does.
ordinary_pair : (x y : Found) → Holds (at_places x y) → IfFound Ordinary x
ordinary_pair lacking y h = tt
ordinary_pair (found t) lacking h = absurd h
ordinary_pair (found t) (found u) h = (holds_equal t u h).2

-- A piece in which nothing is left to fill in meets an accepted rule of its arity exactly when there is a term for each variable
-- with which its arguments match the rule's patterns, and record 35 is not at or in a term that is compared.
pub meaning
    : {arity : ℕ} {rule : Patterns} → AcceptedRule arity rule → (piece : Terms) → count piece ≡ arity → Settleds piece
    → Meets rule piece ↔ (((σ : ℕ → Term) × AllMatch σ rule piece) × OrdinaryPairs rule piece)
meaning {arity} {rule} ok piece arguments settled = (forth, back)
  where
    look : ℕ → Found
    look n = term_at piece n

    forth : Meets rule piece → ((σ : ℕ → Term) × AllMatch σ rule piece) × OrdinaryPairs rule piece
    forth met =
        let σ : ℕ → Term = first_at look (rule_variables rule) in
        let same : count_patterns rule ≡ count piece = ok.arguments ∙ sym arguments in (
          (
            σ,
            all_tests_match (patterns_range rule) σ look rule piece 4 0 ok.sound settled same (shows_row piece 4)
                (all_narrowed rule) met.0 (all_first look (rule_variables rule) met.1),
          ),
          all_map (HoldsPair look) (λ (x : PairTest). IfFound Ordinary (look x.first))
              (λ x h. ordinary_pair (look x.first) (look x.second) h) (pair_tests rule) met.1,
        )

    -- The term of a variable stands where the variable does,
    There : (ℕ → Term) → Occurrence → Type 0
    There σ o = look o.place ≡ found (σ o.name)

    -- and is equal to itself where it is an ordinary one.
    HoldsIfOrdinary : PairTest → Type 0
    HoldsIfOrdinary x = IfFound Ordinary (look x.first) → HoldsPair look x

    pair
        : (σ : ℕ → Term) (o y : Occurrence) → o.name ≡ y.name → There σ o → There σ y
        → HoldsIfOrdinary (both o.place y.place)
    pair σ o y e p q ordinary =
        let one : look y.place ≡ found (σ o.name) = q ∙ ap (λ (v : ℕ). found (σ v)) (sym e) in
        let known = (subst (IfFound Settled) p (finds_settled piece settled 4 o.place)).1 in
        rw (p, one) (same_holds (σ o.name) known (subst (IfFound Ordinary) p ordinary))

    back : ((σ : ℕ → Term) × AllMatch σ rule piece) × OrdinaryPairs rule piece → Meets rule piece
    back ((σ, ms), ordinary) =
        let x = all_match_tests (patterns_range rule) σ look (match_ranges ms) rule 4 0 ok.sound (shows_row piece 4) ms in
        let pairs = pairs_each (There σ) HoldsIfOrdinary (λ o y before e p q. pair σ o y e p q) 0
        (0 + extent (count_patterns rule) 4) (rule_variables rule) (all_variables_ascend rule 4 0 ok.sound) x.1 in (
          x.0,
          all_from (HoldsPair look) (pair_tests rule) (λ y m.
              all_at HoldsIfOrdinary m pairs (all_at (λ (z : PairTest). IfFound Ordinary (look z.first)) m ordinary)),
        )

-- So it is for each filling of an accepted piece.
pub filling_meaning
    : {arity : ℕ} {rule : Patterns} {piece filled : Terms} → AcceptedRule arity rule → AcceptedPiece arity piece
    → Filling piece filled → Meets rule filled ↔ (((σ : ℕ → Term) × AllMatch σ rule filled) × OrdinaryPairs rule filled)
filling_meaning {filled = filled} ok accepted f =
    meaning ok filled (sym (puts_count f) ∙ accepted.arguments) (filling_known accepted.well_formed f)
