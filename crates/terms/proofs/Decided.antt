-- Where nothing is left to fill in, each test holds or is contradicted, whichever readings will never come.
use Prim.Native.Nat.{ℕ}
use mathlib.Core.Logic.{inl, inr}
use mathlib.Core.Bool.{◌&&◌}
use native.Mathlib.Omega.{arith}
use lib.Dec.{leb, eqb}
use Rattle.basics.proofs.Numbers.{le_or_lt}
use Rattle.terms.specs.Term.{Term, Terms, count, unknown, never, symbol, numbers, compound, nil, cons}
use Rattle.terms.specs.Pattern.{Patterns}
use Rattle.terms.specs.RuleTests.{Want, a_symbol, a_number, a_compound, place_tests, pair_tests}
use Rattle.terms.specs.Lookup.{Found, lacking, found, finds, term_at}
use Rattle.terms.specs.Outcome.{NotKnown, known, fits, compare, compares, at_place, at_places}
use Rattle.terms.specs.Filling.{Known, Knowns}
use Rattle.terms.specs.Outcome.{place_outcome, pair_outcome, together, rule_outcome}
use Rattle.terms.proofs.Outcomes.{known_decided, and_not_known, together_not_known}
use Rattle.terms.proofs.Spans.{range_not_known, spans_numbers}
use Rattle.terms.proofs.TermPlaces.{IfFound, finds_each}

-- A place test of a term that is known,
fits_decided : (w : Want) (t : Term) → Known t → NotKnown (fits w t) → ⊥
fits_decided w unknown k n = k
fits_decided w never k n = n
fits_decided (a_symbol l h) (symbol a) k n = known_decided (leb l a && leb a h) n
fits_decided (a_symbol l h) (numbers a b) k n = n
fits_decided (a_symbol l h) (compound a ts) k n = n
fits_decided (a_number l h) (symbol a) k n = n
fits_decided (a_number l h) (numbers a b) k n =
    let x = (range_not_known l h a b).0 n in
    elim (le_or_lt l a) [
      | inr p ↦ x.1 (inl (omega arith))
      | inl p ↦ elim (le_or_lt b h) [ inr q ↦ x.1 (inr (omega arith)) | inl q ↦ x.0 (p, q) ]
    ]
fits_decided (a_number l h) (compound a ts) k n = n
fits_decided (a_compound a m) (symbol b) k n = n
fits_decided (a_compound a m) (numbers b c) k n = n
fits_decided (a_compound a m) (compound b ts) k n = known_decided (eqb a b && eqb m (count ts)) n

mutual
  -- and two terms that are known,
  compare_decided : (t u : Term) → Known t → Known u → NotKnown (compare t u) → ⊥
  compare_decided unknown u k l n = k
  compare_decided never u k l n = n
  compare_decided (symbol a) unknown k l n = l
  compare_decided (symbol a) never k l n = n
  compare_decided (symbol a) (symbol b) k l n = known_decided (eqb a b) n
  compare_decided (symbol a) (numbers b c) k l n = n
  compare_decided (symbol a) (compound b us) k l n = n
  compare_decided (numbers a b) unknown k l n = l
  compare_decided (numbers a b) never k l n = n
  compare_decided (numbers a b) (symbol c) k l n = n
  compare_decided (numbers a b) (numbers c d) k l n = known_decided (eqb a c) (rw (spans_numbers a b c d k l) at n)
  compare_decided (numbers a b) (compound c us) k l n = n
  compare_decided (compound a ts) unknown k l n = l
  compare_decided (compound a ts) never k l n = n
  compare_decided (compound a ts) (symbol b) k l n = n
  compare_decided (compound a ts) (numbers b c) k l n = n
  compare_decided (compound a ts) (compound b us) k l n =
      elim (and_not_known (known (eqb a b)) (compares ts us) n) [
        | inl m ↦ known_decided (eqb a b) m
        | inr m ↦ rows_decided ts us k l m
      ]

  rows_decided : (ts us : Terms) → Knowns ts → Knowns us → NotKnown (compares ts us) → ⊥
  rows_decided nil nil k l n = n
  rows_decided nil (cons u us) k l n = n
  rows_decided (cons t ts) nil k l n = n
  rows_decided (cons t ts) (cons u us) k l n =
      elim (and_not_known (compare t u) (compares ts us) n) [
        | inl m ↦ compare_decided t u k.0 l.0 m
        | inr m ↦ rows_decided ts us k.1 l.1 m
      ]

-- wherever they stand.
found_decided : (w : Want) (x : Found) → IfFound Known x → NotKnown (at_place (fits w) x) → ⊥
found_decided w lacking k n = n
found_decided w (found t) k n = fits_decided w t k n

both_decided : (x y : Found) → IfFound Known x → IfFound Known y → NotKnown (at_places x y) → ⊥
both_decided lacking y k l n = n
both_decided (found t) lacking k l n = n
both_decided (found t) (found u) k l n = compare_decided t u k l n

-- At each place of terms that are known stands one, if any.
pub finds_known : (ts : Terms) → Knowns ts → (r n : ℕ) → IfFound Known (finds ts r n)
finds_known = finds_each Known Knowns (λ a ts k. k) (λ t ts k. k)

module _ (piece : Terms) (settled : Knowns piece) where
  -- So each place test of the piece holds or is contradicted,
  pub want_decided : (w : Want) (n : ℕ) → NotKnown (at_place (fits w) (term_at piece n)) → ⊥
  want_decided w n = found_decided w (term_at piece n) (finds_known piece settled 4 n)

  -- and each equality test,
  pub places_decided : (p q : ℕ) → NotKnown (at_places (term_at piece p) (term_at piece q)) → ⊥
  places_decided p q =
      both_decided (term_at piece p) (term_at piece q) (finds_known piece settled 4 p) (finds_known piece settled 4 q)

  -- and all tests of a rule together.
  pub rule_decided : (rule : Patterns) → NotKnown (rule_outcome rule piece) → ⊥
  rule_decided rule n =
      elim (and_not_known (together (place_outcome piece) (place_tests rule)) (together (pair_outcome piece) (pair_tests rule)) n) [
        | inl m ↦
            let x = together_not_known (place_outcome piece) (place_tests rule) m in want_decided x.0.want x.0.place x.2
        | inr m ↦
            let x = together_not_known (pair_outcome piece) (pair_tests rule) m in
            places_decided x.0.first x.0.second x.2
      ]
