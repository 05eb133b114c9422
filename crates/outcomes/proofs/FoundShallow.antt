-- What is found in a term that is shallow enough for its levels is shallow enough for the levels of its place.
use Prim.Native.Nat.{ℕ, zero, suc, ◌+◌, ◌-◌, ◌<◌}
use mathlib.Core.Path.{◌≡◌, ap, sym, subst, ◌∙◌}
use native.Mathlib.Decide.{dec_lt}
use native.Mathlib.Omega.{arith}
use Rattle.places.specs.Numbering.{stride, levels_in}
use Rattle.places.proofs.Levels.{levels_first, levels_next, levels_below, levels_range}
use Rattle.terms.specs.Term.{Term, Terms, unknown, never, symbol, numbers, compound, nil, cons}
use Rattle.terms.specs.Lookup.{Found, lacking, found, find, finds}
use Rattle.terms.specs.Accepted.{Shallow, Shallows}
use Rattle.terms.proofs.TermPlaces.{finds_here, finds_there}

-- What is found, if anything, is shallow enough for r levels.
abbrev pub ShallowFound : Found → ℕ → Type 0
ShallowFound lacking r = Unit
ShallowFound (found t) r = Shallow t r

-- The same finding at the same levels.
moved : {f g : Found} {r s : ℕ} → f ≡ g → r ≡ s → ShallowFound g s → ShallowFound f r
moved {f} {g} {r} {s} finding levels h =
    subst (λ k. ShallowFound f k) (sym levels) (subst (λ x. ShallowFound x s) (sym finding) h)

mutual
  -- In a term,
  pub find_shallow : (t : Term) (r n : ℕ) → Shallow t r → n < stride r → ShallowFound (find t r n) (levels_in r n)
  find_shallow unknown r n h inside = (levels_range r n h).0
  find_shallow never r n h inside = (levels_range r n h).0
  find_shallow (symbol a) r zero h inside = (levels_range r 0 h).0
  find_shallow (symbol a) r (suc n) h inside = tt
  find_shallow (numbers a b) r zero h inside = (levels_range r 0 h).0
  find_shallow (numbers a b) r (suc n) h inside = tt
  find_shallow (compound a ts) r zero h inside = subst (Shallow (compound a ts)) (sym (levels_first r)) h
  find_shallow (compound a ts) zero (suc n) h inside = absurd (omega arith)
  find_shallow (compound a ts) (suc r) (suc n) h inside =
      subst (ShallowFound (finds ts r n)) (sym (levels_below r n (omega arith))) (finds_shallow ts r n h.1)

  -- and in a row of terms.
  pub finds_shallow : (ts : Terms) (r n : ℕ) → Shallows ts r → ShallowFound (finds ts r n) (levels_in r n)
  finds_shallow nil r n h = tt
  finds_shallow (cons t ts) r n h =
      elim (dec_lt n (stride r)) [
        | yes first ↦ subst (λ f. ShallowFound f (levels_in r n)) (sym (finds_here t ts r n first)) (find_shallow t r n h.0 first)
        | no later ↦
            let k = n - stride r in
            let n-is : n ≡ stride r + k = omega arith in
            moved (ap (finds (cons t ts) r) n-is ∙ finds_there t ts r k) (ap (levels_in r) n-is ∙ levels_next r k)
            (finds_shallow ts r k h.1)
      ]
