-- "A place below an unknown is unknown", and a place below record 35 "is treated as it is": in a term with any number of levels, in a
-- row of terms, and in a piece. One law for both.
use Prim.Native.Nat.{ℕ, zero, suc, ◌+◌, ◌-◌, ◌≤◌, ◌<◌}
use mathlib.Core.Path.{◌≡◌, refl, ap, sym, subst, ◌∙◌}
use native.Mathlib.Decide.{dec_lt}
use native.Mathlib.Omega.{arith}
use lib.Dec.{leb, ltb, T, leb→le, ltb→lt}
use Rattle.basics.proofs.Booleans.{both_true}
use Rattle.basics.proofs.Clash.{clash}
use Rattle.places.specs.Numbering.{stride, levels_in, levels_at, at_or_below}
use Rattle.places.proofs.Levels.{levels_next, levels_below, levels_fit}
use Rattle.terms.specs.Term.{Term, Terms, unknown, never, symbol, numbers, compound, nil, cons}
use Rattle.terms.specs.Lookup.{Found, lacking, found, find, finds, term_at}
use Rattle.terms.proofs.Unknown.{IsUnknown, Hides}
use Rattle.terms.proofs.TermPlaces.{finds_here, finds_there}

module _ (u : Term) (hides : Hides u) where
  -- What is found is no term that hides nothing.
  shown : {C : Type 0} (t : Term) → (Hides t → ⊥) → found t ≡ found u → C
  shown t not e = let same : t ≡ u = cc in absurd (not (subst Hides (sym same) hides))

  mutual
    -- Where a hiding term stands n places into a term, it stands at each place below,
    find_below
        : (t : Term) (r n m : ℕ) → n < stride r → n ≤ m → m < n + stride (levels_in r n)
        → find t r n ≡ found u → find t r m ≡ found u
    find_below unknown r n m inside after near e = e
    find_below never r n m inside after near e = e
    find_below (symbol a) r zero m inside after near e = shown (symbol a) (λ h. h) e
    find_below (symbol a) r (suc n) m inside after near e = clash (cc)
    find_below (numbers a b) r zero m inside after near e = shown (numbers a b) (λ h. h) e
    find_below (numbers a b) r (suc n) m inside after near e = clash (cc)
    find_below (compound a ts) r zero m inside after near e = shown (compound a ts) (λ h. h) e
    find_below (compound a ts) zero (suc n) m inside after near e = absurd (omega arith)
    find_below (compound a ts) (suc r) (suc n) zero inside after near e = absurd (omega arith)
    find_below (compound a ts) (suc r) (suc n) (suc m) inside after near e =
        let levels = levels_below r n (omega arith) in
        finds_below ts r n m (omega arith) (omega (arith, ap stride levels)) e

    -- and so in a row of terms.
    finds_below
        : (ts : Terms) (r n m : ℕ) → n ≤ m → m < n + stride (levels_in r n)
        → finds ts r n ≡ found u → finds ts r m ≡ found u
    finds_below nil r n m after near e = clash (cc)
    finds_below (cons t ts) r n m after near e =
        elim (dec_lt n (stride r)) [
          | yes first ↦
              let within : m < stride r = omega (arith, levels_fit r n first) in
              finds_here t ts r m within ∙ find_below t r n m first after near (sym (finds_here t ts r n first) ∙ e)
          | no later ↦
              let k = n - stride r in
              let l = m - stride r in
              let n-is : n ≡ stride r + k = omega arith in
              let m-is : m ≡ stride r + l = omega arith in
              let levels = ap stride (ap (levels_in r) n-is ∙ levels_next r k) in
              let there-is = sym (ap (finds (cons t ts) r) n-is ∙ finds_there t ts r k) ∙ e in
              ap (finds (cons t ts) r) m-is ∙ finds_there t ts r l
              ∙ finds_below ts r k l (omega arith) (omega (arith, levels)) there-is
        ]

  -- Where it stands at place p of a piece, it stands at each place below.
  pub below_hidden : (piece : Terms) (p q : ℕ) → T (at_or_below p q) → term_at piece p ≡ found u → term_at piece q ≡ found u
  below_hidden piece p q below =
      let sides = both_true (leb p q) (ltb q (p + stride (levels_at p))) below in
      finds_below piece 4 p q (leb→le p q sides.0) (ltb→lt q (p + stride (levels_at p)) sides.1)

unknown_is : (x : Found) → IsUnknown x → x ≡ found unknown
unknown_is lacking h = absurd h
unknown_is (found unknown) h = refl
unknown_is (found never) h = absurd h
unknown_is (found (symbol a)) h = absurd h
unknown_is (found (numbers a b)) h = absurd h
unknown_is (found (compound a ts)) h = absurd h

-- Where place p of a piece is unknown, so is each place below it.
pub below_unknown
    : (piece : Terms) (p q : ℕ) → T (at_or_below p q) → IsUnknown (term_at piece p) → IsUnknown (term_at piece q)
below_unknown piece p q below h =
    subst IsUnknown (sym (below_hidden unknown tt piece p q below (unknown_is (term_at piece p) h))) tt
