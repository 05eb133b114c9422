-- Where the outcome of an accepted rule's tests is not known, some filling does not meet the rule: a place test that
-- is not known does not hold with a term of another kind in every unknown, or with an end of every span, and an equality
-- test does not hold with unequal terms.
use Prim.Native.Nat.{ℕ, zero, suc}
use mathlib.Core.Path.{◌≡◌, refl, sym, subst}
use mathlib.Core.Bool.{◌&&◌}
use mathlib.Core.Logic.{inl, inr}
use native.Mathlib.Omega.{arith}
use lib.Dec.{leb, eqb}
use Rattle.terms.specs.Term.{Term, Terms, count, unknown, symbol, number, numbers, compound, never}
use Rattle.terms.specs.Pattern.{Patterns}
use Rattle.terms.specs.RuleTests.{Want, a_symbol, a_number, a_compound, PlaceTest, PairTest, place_tests, pair_tests}
use Rattle.terms.specs.Lookup.{Found, lacking, found, find, term_at}
use Rattle.terms.specs.Outcome.{Holds, NotKnown, fits, at_place, place_outcome, pair_outcome, together, rule_outcome, Meets}
use Rattle.terms.specs.Filling.{Ground, WellFormeds, Filling}
use Rattle.terms.specs.Accepted.{AcceptedRule, AcceptedPiece}
use Rattle.terms.proofs.Unknown.{IsUnknown}
use Rattle.basics.proofs.ListLaws.{all_at}
use Rattle.terms.proofs.Outcomes.{known_decided, not_known_open, and_not_known, together_not_known}
use Rattle.terms.proofs.RuleOutcomes.{outcome_open}
use Rattle.terms.proofs.Spans.{Within, range_holds_at, range_not_known_at}
use Rattle.terms.proofs.ConstantFilling.{fill_all_by, OfSpan, fill_all_by_lem, lowest, highest, of_lowest, of_highest}
use Rattle.terms.proofs.ConstantFilling.{fill_all_with, fill_all_with_lem, zero_ground, unknowns_with, SpanFilled, spans_by}
use Rattle.terms.proofs.MissedPair.{missed_pair}

-- A ground term of another kind than is wanted.
abbrev other_kind : Want → Term
other_kind (a_symbol l h) = number 0
other_kind (a_number l h) = symbol 0
other_kind (a_compound a n) = symbol 0

-- It is ground,
other_kind_ground : (w : Want) → Ground (other_kind w)
other_kind_ground (a_symbol l h) = (refl, omega arith)
other_kind_ground (a_number l h) = omega arith
other_kind_ground (a_compound a n) = omega arith

-- and what is wanted holds at none of its places.
other_kind_misses : (w : Want) (r n : ℕ) → Holds (at_place (fits w) (find (other_kind w) r n)) → ⊥
other_kind_misses (a_symbol l k) r zero h = h
other_kind_misses (a_symbol l k) r (suc n) h = h
other_kind_misses (a_number l k) r zero h = h
other_kind_misses (a_number l k) r (suc n) h = h
other_kind_misses (a_compound a k) r zero h = h
other_kind_misses (a_compound a k) r (suc n) h = h

module _ (piece : Terms) (ok : WellFormeds piece) (n : ℕ) where
  -- A filling in which what is wanted does not hold at place n.
  abbrev Missed : Want → Type 0
  Missed w = (filled : Terms) × Filling piece filled × (Holds (at_place (fits w) (term_at filled n)) → ⊥)

  -- At an unknown: with a term of another kind in every unknown.
  unknown_missed : (w : Want) → IsUnknown (term_at piece n) → Missed w
  unknown_missed w unsure = (
    fill_all_with piece (other_kind w),
    fill_all_with_lem piece (other_kind w) ok (other_kind_ground w),
    unknowns_with (λ y. Holds (at_place (fits w) y) → ⊥) (other_kind w) (other_kind_misses w) piece 4 n unsure,
  )

  -- At a span of which an end is not in the range: with that end of every span.
  end_missed
      : (end : ℕ → ℕ → ℕ) → OfSpan end → (l h a b : ℕ) → term_at piece n ≡ found (numbers a b)
      → (Within l h (end a b) → ⊥) → Missed (a_number l h)
  end_missed end of l h a b e out =
      let filled = fill_all_by end piece (symbol 0) in
      let v = end a b in
      let there-is : term_at filled n ≡ found (number v) =
      subst (λ (y : Found). SpanFilled end (symbol 0) y (term_at filled n)) e (spans_by end (symbol 0) piece 4 n) in (
        filled,
        fill_all_by_lem end of piece (symbol 0) ok zero_ground,
        λ k. out ((range_holds_at l h v v).0 (subst (λ (y : Found). Holds (at_place (fits (a_number l h)) y)) there-is k)),
      )

  -- Where a place test is not known there is such a filling.
  missed_at : (w : Want) (y : Found) → term_at piece n ≡ y → NotKnown (at_place (fits w) y) → Missed w
  missed_at w lacking e k = absurd k
  missed_at w (found unknown) e k = unknown_missed w (subst IsUnknown (sym e) tt)
  missed_at w (found never) e k = absurd k
  missed_at (a_symbol l h) (found (symbol b)) e k = absurd (known_decided (leb l b && leb b h) k)
  missed_at (a_symbol l h) (found (numbers b c)) e k = absurd k
  missed_at (a_symbol l h) (found (compound b ts)) e k = absurd k
  missed_at (a_number l h) (found (symbol b)) e k = absurd k
  missed_at (a_number l h) (found (numbers a b)) e k =
      elim (range_not_known_at l h a b k) [
        | inl p ↦ end_missed lowest of_lowest l h a b e (λ s. omega (arith, s.0))
        | inr p ↦ end_missed highest of_highest l h a b e (λ s. omega (arith, s.1))
      ]
  missed_at (a_number l h) (found (compound b ts)) e k = absurd k
  missed_at (a_compound a m) (found (symbol b)) e k = absurd k
  missed_at (a_compound a m) (found (numbers b c)) e k = absurd k
  missed_at (a_compound a m) (found (compound b ts)) e k = absurd (known_decided (eqb a b && eqb m (count ts)) k)

-- A place test that is not known does not hold in some filling.
missed_place
    : (piece : Terms) → WellFormeds piece → (x : PlaceTest) → NotKnown (place_outcome piece x)
    → (filled : Terms) × Filling piece filled × (Holds (place_outcome filled x) → ⊥)
missed_place piece ok x unsure =
    missed_at piece ok x.place x.want (term_at piece x.place) refl unsure

-- Where the outcome is not known, some filling does not meet the rule.
pub missed_filling
    : {arity : ℕ} {rule : Patterns} {piece : Terms} → AcceptedRule arity rule → AcceptedPiece arity piece
    → NotKnown (rule_outcome rule piece) → (filled : Terms) × Filling piece filled × (Meets rule filled → ⊥)
missed_filling {arity} {rule} {piece} a c unsure =
    let places = together (place_outcome piece) (place_tests rule) in
    let pairs = together (pair_outcome piece) (pair_tests rule) in
    elim (and_not_known places pairs unsure) [
      | inl k ↦
          let x = together_not_known (place_outcome piece) (place_tests rule) k in
          let f = missed_place piece c.well_formed x.0 x.2 in
          (f.0, f.1, λ m. f.2 (all_at (λ (y : PlaceTest). Holds (place_outcome f.0 y)) x.1 m.0))
      | inr k ↦
          let x = together_not_known (pair_outcome piece) (pair_tests rule) k in
          let opens = (outcome_open rule piece).0 (not_known_open (rule_outcome rule piece) unsure) in
          let f = missed_pair arity rule piece a c opens.0 x.0 x.1 x.2 in
          (f.0, f.1, λ m. f.2 (all_at (λ (y : PairTest). Holds (pair_outcome f.0 y)) x.1 m.1))
    ]
