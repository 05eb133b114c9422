-- An equality test of an accepted rule that is not known does not hold in some filling: one with unequal terms at the
-- two places.
use Prim.Native.Nat.{ℕ, ◌<◌}
use mathlib.Core.Path.{◌≡◌, refl, ap, sym, subst, ◌∙◌}
use mathlib.Core.Bool.{Bool, true, false, cond}
use native.Mathlib.Omega.{arith}
use lib.Dec.{eqb, T, eqb→eq, eqb_refl}
use Rattle.basics.specs.Lists.{Mem, All}
use Rattle.terms.specs.Term.{Term, Terms, symbol}
use Rattle.terms.specs.Pattern.{Patterns}
use Rattle.terms.specs.RuleTests.{PlaceTest, PairTest, Occurrence, patterns_range, patterns_tests, place_tests, pair_tests, rule_variables}
use Rattle.terms.specs.Lookup.{Found, lacking, found, term_at}
use Rattle.terms.specs.Outcome.{Holds, NotKnown, at_places, place_outcome, pair_outcome}
use Rattle.terms.specs.Filling.{WellFormed, Filling}
use Rattle.terms.specs.Accepted.{AcceptedRule, AcceptedPiece}
use Rattle.basics.proofs.Booleans.{cond_true, cond_false}
use Rattle.basics.proofs.ListLaws.{all-always, all_at}
use Rattle.terms.proofs.Outcomes.{Open}
use Rattle.terms.proofs.TermPlaces.{IfFound, shows_row}
use Rattle.terms.proofs.WellFormed.{finds_well_formed}
use Rattle.terms.proofs.ConstantFilling.{fill_with, fill_with_lem, zero_ground}
use Rattle.terms.proofs.Instances.{FillsFound, OpenIn, Stands, Suits, Instances, instances_of}
use Rattle.terms.proofs.PreorderTests.{no_range, all_tests_split}
use Rattle.terms.proofs.PairTests.{all_variables_ascend, pairs_each}
use Rattle.terms.proofs.Apart.{apart}

-- Any filling of what stands there.
abbrev plain : Found → Term
plain lacking = symbol 0
plain (found t) = fill_with t (symbol 0)

-- It fills what stands there.
plain_fills : (x : Found) → IfFound WellFormed x → FillsFound x (plain x)
plain_fills lacking ok = tt
plain_fills (found t) ok = fill_with_lem t (symbol 0) ok zero_ground

-- Terms for the places: as given, but g at place p.
abbrev put : ℕ → Term → (ℕ → Term) → ℕ → Term
put p g given n = cond (eqb n p) g (given n)

-- The terms fill what stands at each place where g does so at p and the given ones elsewhere.
put_fills
    : (look : ℕ → Found) (p : ℕ) (g : Term) (given : ℕ → Term) → FillsFound (look p) g
    → (n : ℕ) → FillsFound (look n) (given n) → FillsFound (look n) (put p g given n)
put_fills look p g given fill n other = go (eqb n p) (eqb→eq n p)
  where
    go : (b : Bool) → (T b → n ≡ p) → FillsFound (look n) (cond b g (given n))
    go true same = subst (λ m. FillsFound (look m) g) (sym (same tt)) fill
    go false same = other

-- Terms for the places: g at p, h at q, and any filling elsewhere.
module _ (look : ℕ → Found) (p q : ℕ) (g h : Term) where
  abbrev rest : ℕ → Term
  rest n = put q h (λ m. plain (look m)) n

  abbrev two : ℕ → Term
  two n = put p g rest n

  -- g is for place p,
  two_first : two p ≡ g
  two_first = cond_true (eqb p p) g (rest p) (eqb_refl p)

  -- h is for place q,
  two_second : p < q → two q ≡ h
  two_second before =
      cond_false (eqb q p) g (rest q) (λ t. omega (arith, eqb→eq q p t))
      ∙ cond_true (eqb q q) h (plain (look q)) (eqb_refl q)

  -- and each fills what stands there.
  two_fills
      : ((n : ℕ) → IfFound WellFormed (look n)) → FillsFound (look p) g → FillsFound (look q) h → (n : ℕ)
      → FillsFound (look n) (two n)
  two_fills ok first second n =
      put_fills look p g rest first n (put_fills look q h (λ m. plain (look m)) second n (plain_fills (look n) (ok n)))

module _
    (arity : ℕ) (rule : Patterns) (piece : Terms) (a : AcceptedRule arity rule) (c : AcceptedPiece arity piece)
    (opens : All (λ (x : PlaceTest). Open (place_outcome piece x)) (place_tests rule))
  where
    abbrev look : ℕ → Found
    look n = term_at piece n

    -- Where terms are given for the places, each filling what stands there, there is a filling with them at the
    -- variables' places.
    module _ (given : ℕ → Term) (fills : (n : ℕ) → FillsFound (look n) (given n)) where
      abbrev chosen : Occurrence → Term
      chosen o = given o.place

      filled : Instances no_range chosen piece 4 0 (patterns_tests no_range rule 4 0) (rule_variables rule)
      filled =
          let same = c.arguments ∙ sym a.arguments in
          let fixed = (all_tests_split (patterns_range rule) (OpenIn look) rule 4 0 opens).0 in
          let suits = all-always (Suits no_range chosen look) (λ o. (fills o.place, tt)) (rule_variables rule) in
          instances_of no_range chosen look rule piece 4 0 a.sound c.well_formed same (shows_row piece 4) fixed suits

      -- The places of an equality test are in order, and the given terms stand at them.
      abbrev Placed : PairTest → Type 0
      Placed x =
          (x.first < x.second) × (term_at filled.terms x.first ≡ found (given x.first))
          × (term_at filled.terms x.second ≡ found (given x.second))

      -- So it is with every equality test of the rule.
      all_placed : All Placed (pair_tests rule)
      all_placed =
          let stand = filled.stand (term_at filled.terms) (shows_row filled.terms 4) in
          pairs_each (Stands no_range chosen (term_at filled.terms)) Placed (λ o x before same e d. (before, e, d)) 0 _
          (rule_variables rule) (all_variables_ascend rule 4 0 a.sound) stand

    -- A filling in which the equality test does not hold.
    abbrev Missed : PairTest → Type 0
    Missed x = (filled : Terms) × Filling piece filled × (Holds (pair_outcome filled x) → ⊥)

    -- An equality test of the rule that is not known has such a filling.
    pub missed_pair : (x : PairTest) → Mem x (pair_tests rule) → NotKnown (pair_outcome piece x) → Missed x
    missed_pair x m unsure = go (look x.first) (look x.second) refl refl unsure
      where
        go : (y z : Found) → look x.first ≡ y → look x.second ≡ z → NotKnown (at_places y z) → Missed x
        go lacking z ey ez k = absurd k
        go (found t) lacking ey ez k = absurd k
        go (found t) (found u) ey ez k =
            let ok : (n : ℕ) → IfFound WellFormed (look n) = finds_well_formed piece c.well_formed 4 in
            let okt = subst (IfFound WellFormed) ey (ok x.first) in
            let oku = subst (IfFound WellFormed) ez (ok x.second) in
            let w = apart t u okt oku k in
            let g = w.left in
            let h = w.right in
            let first : FillsFound (look x.first) g = subst (λ y. FillsFound y g) (sym ey) w.fills_left in
            let second : FillsFound (look x.second) h = subst (λ y. FillsFound y h) (sym ez) w.fills_right in
            let given = two look x.first x.second g h in
            let fills = two_fills look x.first x.second g h ok first second in
            let f = filled given fills in
            let placed = all_at (Placed given fills) m (all_placed given fills) in
            let e = placed.1 ∙ ap found (two_first look x.first x.second g h) in
            let d = placed.2 ∙ ap found (two_second look x.first x.second g h placed.0) in
            (f.terms, f.fills, λ held. w.unequal (rw (e, d) at held))
