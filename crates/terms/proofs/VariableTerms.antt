-- The terms at the places of one variable: where no equality test is contradicted, no two of them differ, so some
-- term fills them all, in the variable's range if it has one.
use Prim.Native.Nat.{ℕ}
use mathlib.Core.Path.{◌≡◌, refl, sym, subst, ◌∙◌}
use mathlib.Core.Bool.{Bool, true, false, cond}
use mathlib.Core.List.{List, [], ◌∷◌, ◌++◌}
use mathlib.Core.Option.{Option, some, none}
use native.Mathlib.Omega.{arith}
use lib.Dec.{eqb, T, eqb→eq, eqb_refl}
use Rattle.basics.specs.Lists.{All}
use Rattle.terms.specs.Term.{Term, unknown, symbol}
use Rattle.terms.specs.RuleTests.{a_number, PairTest, both, Occurrence, Range, range_test, pairs_with, pairs_of}
use Rattle.terms.specs.Lookup.{Found, lacking, found}
use Rattle.terms.specs.Outcome.{Outcome, Holds, fits, compare, at_place, at_places}
use Rattle.terms.specs.Filling.{WellFormed, Fills}
use Rattle.terms.specs.Accepted.{InCommon}
use Rattle.basics.proofs.ListLaws.{all_split, all_join, all_map}
use Rattle.terms.proofs.Outcomes.{Open}
use Rattle.terms.proofs.TermPlaces.{IfFound, found_always}
use Rattle.terms.proofs.Never.{open_ordinary}
use Rattle.terms.proofs.WellFormed.{fills_ground, equal_self}
use Rattle.terms.proofs.ConstantFilling.{fill_with, fill_with_lem, zero_ground}
use Rattle.terms.proofs.Instances.{FillsFound, OpenIn, InRange, fitting_number}
use Rattle.terms.proofs.Meet.{meet_all, OpenTo, Pairwise, meet_all_fills, meet_all_well_formed, meet_all_number}
use Rattle.terms.proofs.PairTests.{pairs_with_at}
use Rattle.terms.proofs.Ranges.{WideRange}

-- The range, if there is one, is not ruled out by the term.
abbrev pub OpenRange : Option Range → Term → Type 0
OpenRange none t = Unit
OpenRange (some x) t = Open (fits (a_number x.low x.high) t)

-- A term that fills all of the list and is in the range.
pub record Common (x : Option Range) (ts : List Term) : Type 0 where
  pub term : Term
  pub fills : All (λ (t : Term). Fills t term) ts
  pub inside : InRange x term

-- Some filling of a well-formed term that does not rule out the range is in it.
in_range_lem
    : (x : Option Range) (t : Term) → InCommon x → WideRange x → WellFormed t → OpenRange x t
    → (g : Term) × Fills t g × InRange x g
in_range_lem none t nonempty wide ok may = (fill_with t (symbol 0), fill_with_lem t (symbol 0) ok zero_ground, tt)
in_range_lem (some y) t nonempty wide ok may = fitting_number y.low y.high nonempty (omega (arith, wide)) t ok may

-- An unknown rules out no range, nor does the meet of terms that do not.
unknown_open : (x : Option Range) → OpenRange x unknown
unknown_open none = tt
unknown_open (some x) = tt

meet_all_range
    : (x : Option Range) (t : Term) (us : List Term) → WellFormed t → All WellFormed us → OpenTo t us → Pairwise us
    → OpenRange x t → All (OpenRange x) us → OpenRange x (meet_all t us)
meet_all_range none t us ok oks p pairs may mays = tt
meet_all_range (some y) t us ok oks p pairs may mays = meet_all_number y.low y.high t us ok oks p pairs may mays

-- Terms of which no two differ, and of which none rules out the range, have such a term.
pub common
    : (x : Option Range) (ts : List Term) → InCommon x → WideRange x → All WellFormed ts → Pairwise ts
    → All (OpenRange x) ts → Common x ts
common x [] nonempty wide ok pairs may =
    let z = in_range_lem x unknown nonempty wide tt (unknown_open x) in record { term = z.0; fills = tt; inside = z.2 }
common x (t ∷ us) nonempty wide ok pairs may =
    let formed = meet_all_well_formed t us ok.0 ok.1 pairs.0 pairs.1 in
    let opens = meet_all_range x t us ok.0 ok.1 pairs.0 pairs.1 may.0 may.1 in
    let z = in_range_lem x (meet_all t us) nonempty wide formed opens in
    record {
      term = z.0;
      fills = meet_all_fills t us ok.0 ok.1 pairs.0 pairs.1 z.1;
      inside = z.2;
    }

-- What stands there as a list: of one term or none.
abbrev pub found_terms : Found → List Term
found_terms lacking = []
found_terms (found t) = t ∷ []

module _ (look : ℕ → Found) where
  -- The terms at the places of variable v.
  abbrev pub terms_of : ℕ → List Occurrence → List Term
  terms_of v [] = []
  terms_of v (o ∷ os) = cond (eqb v o.name) (found_terms (look o.place)) [] ++ terms_of v os

  module _ (Q : Term → Type 0) (v : ℕ) where
    -- Q holds of what stands where the variable does, if it is v.
    abbrev pub AtVariable : Occurrence → Type 0
    AtVariable o = v ≡ o.name → IfFound Q (look o.place)

    -- What holds at each place of the variable holds of its terms,
    pub terms_from : (os : List Occurrence) → All AtVariable os → All Q (terms_of v os)
    terms_from [] h = tt
    terms_from (o ∷ os) h =
        all_join Q (cond (eqb v o.name) (found_terms (look o.place)) []) (terms_of v os)
        (go (eqb v o.name) (look o.place) (λ t. h.0 (eqb→eq v o.name t))) (terms_from os h.1)
      where
        go : (b : Bool) (x : Found) → (T b → IfFound Q x) → All Q (cond b (found_terms x) [])
        go false x k = tt
        go true lacking k = tt
        go true (found t) k = (k tt, tt)

    -- and what holds of its terms holds at each of its places.
    pub terms_at : (os : List Occurrence) → All Q (terms_of v os) → All AtVariable os
    terms_at [] h = tt
    terms_at (o ∷ os) h =
        let s = all_split Q (cond (eqb v o.name) (found_terms (look o.place)) []) (terms_of v os) h in
        (λ e. go (eqb v o.name) (look o.place) (subst (λ u. T (eqb v u)) e (eqb_refl v)) s.0, terms_at os s.1)
      where
        go : (b : Bool) (x : Found) → T b → All Q (cond b (found_terms x) []) → IfFound Q x
        go false x t k = absurd t
        go true lacking t k = tt
        go true (found u) t k = k.0

  -- An equality test is open, and holds, as places are looked up.
  abbrev pub OpenPair : PairTest → Type 0
  OpenPair x = Open (at_places (look x.first) (look x.second))

  abbrev pub HoldsPair : PairTest → Type 0
  HoldsPair x = Holds (at_places (look x.first) (look x.second))

  -- Where no equality test is contradicted, no two terms of a variable differ.
  pub terms_pairwise : (v : ℕ) (os : List Occurrence) → All OpenPair (pairs_of os) → Pairwise (terms_of v os)
  terms_pairwise v [] h = tt
  terms_pairwise v (o ∷ os) h =
      let s = all_split OpenPair (pairs_with o.place o.name os) (pairs_of os) h in
      go (eqb v o.name) (look o.place) refl (eqb→eq v o.name) s.0 (terms_pairwise v os s.1)
    where
      beside : (t : Term) (x : Found) → Open (at_places (found t) x) → IfFound (λ (u : Term). Open (compare t u)) x
      beside t lacking p = tt
      beside t (found u) p = p

      Pairs : Type 0
      Pairs = All OpenPair (pairs_with o.place o.name os)

      to : (t : Term) → look o.place ≡ found t → v ≡ o.name → Pairs → OpenTo t (terms_of v os)
      to t e same k =
          terms_from (λ (u : Term). Open (compare t u)) v os
          (all_map (λ (x : Occurrence). o.name ≡ x.name → OpenPair (both o.place x.place))
          (AtVariable (λ (u : Term). Open (compare t u)) v)
          (λ x p d. beside t (look x.place) (subst (λ y. Open (at_places y (look x.place))) e (p (sym same ∙ d)))) os
          (pairs_with_at OpenPair o.place o.name os k))

      go
          : (b : Bool) (x : Found) → look o.place ≡ x → (T b → v ≡ o.name) → Pairs → Pairwise (terms_of v os)
          → Pairwise (cond b (found_terms x) [] ++ terms_of v os)
      go false x e same k later = later
      go true lacking e same k later = later
      go true (found t) e same k later = (to t e (same tt) k, later)

-- Where one term fills both of two that do not differ, it is equal to itself, since neither of them is or holds record 35.
pub pair_holds
    : (before after : ℕ → Found) (n m : ℕ) (g : Term) → IfFound WellFormed (before n) → FillsFound (before n) g
    → Open (at_places (before n) (before m)) → after n ≡ found g → after m ≡ found g → HoldsPair after (both n m)
pair_holds before after n m g ok fills opens e d = rw (e, d) (go (before n) (before m) ok fills opens)
  where
    go : (x y : Found) → IfFound WellFormed x → FillsFound x g → Open (at_places x y) → Holds (compare g g)
    go lacking y ok fills opens = absurd opens
    go (found t) lacking ok fills opens = absurd opens
    go (found t) (found u) ok fills opens = equal_self g (fills_ground ok (open_ordinary t u opens).0 fills)

-- Where a place test is open, it is open of what stands there, if anything does.
open-found : (f : Term → Outcome) (x : Found) → Open (at_place f x) → IfFound (λ (t : Term). Open (f t)) x
open-found f lacking h = tt
open-found f (found t) h = h

-- Where a variable's range test is open, its range is not ruled out by what stands there.
pub range_open
    : (look : ℕ → Found) (n : ℕ) (x : Option Range) → All (OpenIn look) (range_test n x) → IfFound (OpenRange x) (look n)
range_open look n none h = found_always (OpenRange none) (λ t. tt) (look n)
range_open look n (some x) h = open-found (fits (a_number x.low x.high)) (look n) h.0
