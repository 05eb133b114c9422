-- A filling with chosen terms at the places of the variables. Where no place test is contradicted, the chosen terms
-- fill what stands at the variables' places, and they meet the variables' ranges, there is a filling that has them
-- there and meets every place test. For patterns of any depth.
use Prim.Native.Nat.{ℕ, zero, suc, pred, ◌+◌, ◌≤◌, max}
use mathlib.Core.Path.{◌≡◌, refl, sym, subst, ◌∙◌}
use mathlib.Core.Bool.{◌&&◌}
use mathlib.Core.List.{List, [], ◌∷◌}
use mathlib.Core.Option.{Option, some, none}
use native.Mathlib.Omega.{arith}
use lib.Dec.{leb, eqb, T, eqb→eq, eqb_refl}
use Rattle.places.specs.Numbering.{stride}
use Rattle.basics.specs.Lists.{All}
use Rattle.terms.specs.Term.{Term, Terms, count, Wide, Gauged, on_gauge, unknown, never, symbol, number, numbers, compound, nil, cons}
use Rattle.terms.specs.Pattern.{Pattern, Patterns, count_patterns, anything, the_symbol, the_series, the_range, the_gauged, the_compound, variable, ranged_variable, pnil, pcons}
use Rattle.terms.specs.RuleTests.{Want, a_symbol, a_number, a_compound, PlaceTest, at, Occurrence, Range, range_test, pattern_variables, patterns_variables, pattern_tests, patterns_tests}
use Rattle.terms.specs.Lookup.{Found, found}
use Rattle.terms.specs.Outcome.{Holds, fits, at_place}
use Rattle.terms.specs.Filling.{Grounds, WellFormed, WellFormeds, Fills, Filling}
use Rattle.terms.specs.Filling.{put_unknown, put_symbol, put_numbers, put_compound, put_nil, put_cons}
use Rattle.terms.specs.Accepted.{Sound, Sounds}
use Rattle.basics.proofs.Booleans.{both_true, true_both}
use Rattle.basics.proofs.ListLaws.{all_split, all_join}
use Rattle.terms.proofs.Outcomes.{Open, open_true, true_holds}
use Rattle.terms.proofs.Spans.{range_holds_at, range_open_at}
use Rattle.terms.proofs.Series.{series_holds_at}
use Rattle.terms.proofs.Stays.{puts_count}
use Rattle.terms.proofs.TermPlaces.{IfFound, unknowns, count_unknowns, Shows, Showss, shows_root, shows_arguments, shows_unknown, shows_head, shows_tail}
use Rattle.terms.proofs.ConstantFilling.{fill_with, fill_with_lem, zero_ground}

-- A place test is open, and holds, as places are looked up.
abbrev pub OpenIn : (ℕ → Found) → PlaceTest → Type 0
OpenIn look x = Open (at_place (fits x.want) (look x.place))

abbrev pub HoldsIn : (ℕ → Found) → PlaceTest → Type 0
HoldsIn look x = Holds (at_place (fits x.want) (look x.place))

-- g fills what stands there, if anything does.
abbrev pub FillsFound : Found → Term → Type 0
FillsFound x g = IfFound (λ (t : Term). Fills t g) x

-- g is a number in the range, if there is one.
abbrev pub InRange : Option Range → Term → Type 0
InRange none g = Unit
InRange (some x) g = Holds (fits (a_number x.low x.high) g)

-- A filling of t that meets one want.
abbrev pub Fitting : Want → Term → Type 0
Fitting w t = (g : Term) × Fills t g × Holds (fits w g)

-- Where a series is not ruled out, some filling is a symbol of it.
fitting_symbol : (l h : ℕ) → l ≤ h → Wide h → (t : Term) → Open (fits (a_symbol l h) t) → Fitting (a_symbol l h) t
fitting_symbol l h le wide unknown o =
    (symbol l, put_unknown {g = symbol l} (omega arith), (series_holds_at l h l).1 (omega arith, le))
fitting_symbol l h le wide never o = absurd o
fitting_symbol l h le wide (symbol b) o = (symbol b, put_symbol, true_holds (leb l b && leb b h) (open_true (leb l b && leb b h) o))
fitting_symbol l h le wide (numbers b c) o = absurd o
fitting_symbol l h le wide (compound b ts) o = absurd o

-- Where a range is not ruled out, some filling is a number in it.
pub fitting_number
    : (l h : ℕ) → l ≤ h → Gauged h → (t : Term) → WellFormed t → Open (fits (a_number l h) t) → Fitting (a_number l h) t
fitting_number l h le wide unknown ok o =
    (number l, put_unknown {g = number l} (refl, omega arith), (range_holds_at l h l l).1 (omega arith, le))
fitting_number l h le wide never ok o = absurd o
fitting_number l h le wide (symbol b) ok o = absurd o
fitting_number l h le wide (numbers a b) ok o =
    let s = (range_open_at l h a b ok.0).0 o in
    let v = max l a in
    let high : v ≤ b = omega (arith, s.0, ok.0) in
    let ground : (v ≡ v) × Gauged v = (refl, omega (arith, ok.1)) in (
      number v,
      put_numbers {a = a} {b = b} {c = v} {d = v} (omega arith) (omega arith) high ground,
      (range_holds_at l h v v).1 (omega arith, omega (arith, s.1)),
    )
fitting_number l h le wide (compound b ts) ok o = absurd o

-- A compound of that id and that many arguments is what is wanted.
fits_compound : (a c n : ℕ) (gs : Terms) → T (eqb a c) → n ≡ count gs → Holds (fits (a_compound a n) (compound c gs))
fits_compound a c n gs h e =
    let same : T (eqb n (count gs)) = subst (λ k. T (eqb n k)) e (eqb_refl n) in
    true_holds (eqb a c && eqb n (count gs)) (true_both (eqb a c) (eqb n (count gs)) h same)

-- A filling of k unknowns is ground.
unknowns_ground : (k : ℕ) {gs : Terms} → Filling (unknowns k) gs → Grounds gs
unknowns_ground zero put_nil = tt
unknowns_ground (suc k) (put_cons (put_unknown h) fs) = (h, unknowns_ground k fs)

-- k unknowns are well-formed.
unknowns_formed : (k : ℕ) → WellFormeds (unknowns k)
unknowns_formed zero = tt
unknowns_formed (suc k) = (tt, unknowns_formed k)

-- A test that holds of a term that is shown holds at its place.
holds_root
    : (look : ℕ → Found) (w : Want) (g : Term) (r b : ℕ) → 1 ≤ r → Shows look g r b → Holds (fits w g) → HoldsIn look (at b w)
holds_root look w g r b deep shown h = subst (λ x. Holds (at_place (fits w) x)) (sym (shows_root look g r b deep shown)) h

-- And where it is open, it is open of the term.
pub open_root
    : (look : ℕ → Found) (w : Want) (t : Term) (r b : ℕ) → 1 ≤ r → Shows look t r b → OpenIn look (at b w) → Open (fits w t)
open_root look w t r b deep shown o = subst (λ x. Open (at_place (fits w) x)) (shows_root look t r b deep shown) o

-- The range test of a variable holds where a term in the range stands.
range_holds
    : (look : ℕ → Found) (b : ℕ) (g : Term) → look b ≡ found g → (x : Option Range) → InRange x g
    → All (HoldsIn look) (range_test b x)
range_holds look b g e none inside = tt
range_holds look b g e (some x) inside =
    (subst (λ y. Holds (at_place (fits (a_number x.low x.high)) y)) (sym e) inside, tt)

module _ (range_of : ℕ → Option Range) (chosen : Occurrence → Term) where
  -- The chosen term stands where the variable does.
  abbrev pub Stands : (ℕ → Found) → Occurrence → Type 0
  Stands look o = look o.place ≡ found (chosen o)

  -- The chosen term fills what stands where the variable does, and meets the variable's range.
  abbrev pub Suits : (ℕ → Found) → Occurrence → Type 0
  Suits look o = FillsFound (look o.place) (chosen o) × InRange (range_of o.name) (chosen o)

  -- A filling of the term t at place b, with r levels, that meets those place tests and has the chosen terms where
  -- those variables stand; and so for a row of terms.
  pub record Instance (t : Term) (r b : ℕ) (tests : List PlaceTest) (variables : List Occurrence) : Type 0 where
    pub term : Term
    pub fills : Fills t term
    pub meets : (look : ℕ → Found) → Shows look term r b → All (HoldsIn look) tests
    pub stand : (look : ℕ → Found) → Shows look term r b → All (Stands look) variables

  pub record Instances (ts : Terms) (r b : ℕ) (tests : List PlaceTest) (variables : List Occurrence) : Type 0 where
    pub terms : Terms
    pub fills : Filling ts terms
    pub meets : (look : ℕ → Found) → Showss look terms r b → All (HoldsIn look) tests
    pub stand : (look : ℕ → Found) → Showss look terms r b → All (Stands look) variables

  -- The instance where one test is made and no variable stands.
  leaf_instance : (w : Want) (t : Term) (r b : ℕ) → 1 ≤ r → Fitting w t → Instance t r b (at b w ∷ []) []
  leaf_instance w t r b deep x = record {
    term = x.0;
    fills = x.1;
    meets = λ look shown. (holds_root look w x.0 r b deep shown x.2, tt);
    stand = λ look shown. tt;
  }

  -- The instance where a variable stands.
  variable_instance
      : (look : ℕ → Found) (v : ℕ) (t : Term) (r b : ℕ) → 1 ≤ r → Shows look t r b
      → Suits look (record { place = b; name = v })
      → Instance t r b (range_test b (range_of v)) (record { place = b; name = v } ∷ [])
  variable_instance look v t r b deep shown suits =
      let g = chosen (record { place = b; name = v }) in
      record {
        term = g;
        fills = subst (λ x. FillsFound x g) (shows_root look t r b deep shown) suits.0;
        meets = λ after shows. range_holds after b g (shows_root after g r b deep shows) (range_of v) suits.1;
        stand = λ after shows. (shows_root after g r b deep shows, tt);
      }

  -- The instance where a compound is wanted, from instances of its arguments.
  compound_instance
      : (a c : ℕ) (ps : Patterns) (t : Term) (ts : Terms) (r b : ℕ) → Sound (the_compound a ps) r → T (eqb a c)
      → count_patterns ps ≡ count ts
      → (xs : Instances ts (pred r) (suc b) (patterns_tests range_of ps (pred r) (suc b)) (patterns_variables ps (pred r) (suc b)))
      → Fills t (compound c xs.terms)
      → Instance t r b (pattern_tests range_of (the_compound a ps) r b) (pattern_variables (the_compound a ps) r b)
  compound_instance a c ps t ts r b sound id same xs fills =
      let n = count_patterns ps in
      let e : n ≡ count xs.terms = same ∙ puts_count xs.fills in
      let few : count xs.terms ≤ 4 = omega (arith, sound.3) in
      record {
        term = compound c xs.terms;
        fills = fills;
        meets = λ look shown. (
          holds_root look (a_compound a n) (compound c xs.terms) r b sound.0 shown (fits_compound a c n xs.terms id e),
          xs.meets look (shows_arguments look c xs.terms r b sound.0 few shown),
        );
        stand = λ look shown. xs.stand look (shows_arguments look c xs.terms r b sound.0 few shown);
      }

  module _ (look : ℕ → Found) where
    mutual
      -- A term with no contradicted place test, and suitable terms for the variables, has such a filling,
      pub instance_of
          : (p : Pattern) (t : Term) (r b : ℕ) → Sound p r → WellFormed t → Shows look t r b
          → All (OpenIn look) (pattern_tests range_of p r b) → All (Suits look) (pattern_variables p r b)
          → Instance t r b (pattern_tests range_of p r b) (pattern_variables p r b)
      instance_of anything t r b sound ok shown opens suits = record {
        term = fill_with t (symbol 0);
        fills = fill_with_lem t (symbol 0) ok zero_ground;
        meets = λ after shows. tt;
        stand = λ after shows. tt;
      }
      instance_of (the_symbol a) t r b sound ok shown opens suits =
          leaf_instance (a_symbol a a) t r b sound.0
          (fitting_symbol a a (omega arith) sound.1 t (open_root look (a_symbol a a) t r b sound.0 shown opens.0))
      instance_of (the_series l h) t r b sound ok shown opens suits =
          leaf_instance (a_symbol l h) t r b sound.0
          (fitting_symbol l h sound.1 sound.2 t (open_root look (a_symbol l h) t r b sound.0 shown opens.0))
      instance_of (the_range l h) t r b sound ok shown opens suits =
          leaf_instance (a_number l h) t r b sound.0
          (fitting_number l h sound.1 (omega (arith, sound.2)) t ok
          (open_root look (a_number l h) t r b sound.0 shown opens.0))
      instance_of (the_gauged g l h) t r b sound ok shown opens suits =
          let low = on_gauge g l in
          let high = on_gauge g h in
          leaf_instance (a_number low high) t r b sound.0
          (fitting_number low high (omega (arith, sound.1)) (omega (arith, sound.2, sound.3)) t ok
          (open_root look (a_number low high) t r b sound.0 shown opens.0))
      instance_of (the_compound a ps) unknown r b sound ok shown opens suits =
          let n = count_patterns ps in
          let below = shows_unknown look n r b sound.0 sound.3 shown in
          let formed = unknowns_formed n in
          let xs = instances_of ps (unknowns n) (pred r) (suc b) sound.4 formed (count_unknowns n) below opens.1 suits in
          let e : n ≡ count xs.terms = sym (count_unknowns n) ∙ puts_count xs.fills in
          compound_instance a a ps unknown (unknowns n) r b sound (eqb_refl a) (sym (count_unknowns n)) xs
          (put_unknown {g = compound a xs.terms}
          (sound.1, omega (arith, sound.2), omega (arith, sound.3), unknowns_ground n xs.fills))
      instance_of (the_compound a ps) never r b sound ok shown opens suits =
          absurd (open_root look (a_compound a (count_patterns ps)) never r b sound.0 shown opens.0)
      instance_of (the_compound a ps) (symbol c) r b sound ok shown opens suits =
          absurd (open_root look (a_compound a (count_patterns ps)) (symbol c) r b sound.0 shown opens.0)
      instance_of (the_compound a ps) (numbers c d) r b sound ok shown opens suits =
          absurd (open_root look (a_compound a (count_patterns ps)) (numbers c d) r b sound.0 shown opens.0)
      instance_of (the_compound a ps) (compound c ts) r b sound ok shown opens suits =
          let n = count_patterns ps in
          let fit = open_root look (a_compound a n) (compound c ts) r b sound.0 shown opens.0 in
          let same = both_true (eqb a c) (eqb n (count ts)) (open_true (eqb a c && eqb n (count ts)) fit) in
          let e : n ≡ count ts = eqb→eq n (count ts) same.1 in
          let below = shows_arguments look c ts r b sound.0 (omega (arith, sound.3)) shown in
          let xs = instances_of ps ts (pred r) (suc b) sound.4 ok.3 (sym e) below opens.1 suits in
          compound_instance a c ps (compound c ts) ts r b sound same.0 e xs (put_compound xs.fills)
      instance_of (variable v) t r b sound ok shown opens suits = variable_instance look v t r b sound.0 shown suits.0
      instance_of (ranged_variable v l h) t r b sound ok shown opens suits =
          variable_instance look v t r b sound.0 shown suits.0

      -- and so has a row of terms.
      pub instances_of
          : (ps : Patterns) (ts : Terms) (r b : ℕ) → Sounds ps r → WellFormeds ts → count ts ≡ count_patterns ps
          → Showss look ts r b → All (OpenIn look) (patterns_tests range_of ps r b) → All (Suits look) (patterns_variables ps r b)
          → Instances ts r b (patterns_tests range_of ps r b) (patterns_variables ps r b)
      instances_of pnil nil r b sound ok same shown opens suits = record {
        terms = nil;
        fills = put_nil;
        meets = λ after shows. tt;
        stand = λ after shows. tt;
      }
      instances_of pnil (cons t ts) r b sound ok same shown opens suits = absurd (omega arith)
      instances_of (pcons p ps) nil r b sound ok same shown opens suits = absurd (omega arith)
      instances_of (pcons p ps) (cons t ts) r b sound ok same shown opens suits =
          let tests = pattern_tests range_of p r b in
          let later = patterns_tests range_of ps r (b + stride r) in
          let variables = pattern_variables p r b in
          let others = patterns_variables ps r (b + stride r) in
          let openParts = all_split (OpenIn look) tests later opens in
          let suitParts = all_split (Suits look) variables others suits in
          let x = instance_of p t r b sound.0 ok.0 (shows_head look t ts r b shown) openParts.0 suitParts.0 in
          let rest = shows_tail look t ts r b shown in
          let xs = instances_of ps ts r (b + stride r) sound.1 ok.1 (omega arith) rest openParts.1 suitParts.1 in
          record {
            terms = cons x.term xs.terms;
            fills = put_cons x.fills xs.fills;
            meets = λ after shows.
                all_join (HoldsIn after) tests later (x.meets after (shows_head after x.term xs.terms r b shows))
                (xs.meets after (shows_tail after x.term xs.terms r b shows));
            stand = λ after shows.
                all_join (Stands after) variables others (x.stand after (shows_head after x.term xs.terms r b shows))
                (xs.stand after (shows_tail after x.term xs.terms r b shows));
          }
