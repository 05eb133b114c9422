-- The table of the places' numbers, place by place.
use Prim.Native.Nat.{ℕ, zero, suc, ◌+◌, ◌≤◌, ◌<◌}
use mathlib.Core.Path.{◌≡◌, refl, sym, ap, ◌∙◌}
use mathlib.Core.List.{List, [], ◌∷◌}
use native.Mathlib.Decide.{ℕ_discrete, dec_lt}
use native.Mathlib.Numerals.{add-one}
use native.Mathlib.Omega.{arith}
use lib.Dec.{T, ltb, ltb→lt}
use lib.ListN.{length, get_or, take, drop, set, length-set, drop_of_length-le}
use lib.Seq.{length-take-le, drop-cons, get_or-take, get_or-set_same, get_or-set_other, set_out}
use Rattle.basics.specs.Lists.{All}
use Rattle.basics.proofs.Sorted.{Ascending}
use Rattle.test_list.specs.views.Numbers.{number_all, Small}

module _ (l : List ℕ) (n i : ℕ) (within : n ≤ length l) where
  -- Of the first n of a list, those from i on are the one at i and those behind it.
  listed_next : i < n → drop i (take n l) ≡ get_or l i 0 ∷ drop (i + 1) (take n l)
  listed_next h =
      drop-cons (take n l) i 0 (omega (arith, length-take-le n l within))
      ∙ (λ j. get_or-take n l i 0 h j ∷ drop (sym (add-one i) j) (take n l))

  -- A turn numbers the place at i,
  pub number_turn
      : i < n → (numbers : List ℕ)
      → number_all (drop (i + 1) (take n l)) (i + 1) (set numbers (get_or l i 0) i) ≡ number_all (drop i (take n l)) i numbers
  number_turn h numbers =
      ap (λ (t : ℕ). number_all (drop (i + 1) (take n l)) t (set numbers (get_or l i 0) i)) (add-one i)
      ∙ sym (ap (λ (ps : List ℕ). number_all ps i numbers) (listed_next h))

  -- and leaves the table where the place is past its end.
  pub number_skip
      : i < n → (numbers : List ℕ) → length numbers ≤ get_or l i 0
      → number_all (drop (i + 1) (take n l)) (i + 1) numbers ≡ number_all (drop i (take n l)) i numbers
  number_skip h numbers past =
      ap (number_all (drop (i + 1) (take n l)) (i + 1)) (sym (set_out numbers (get_or l i 0) i past)) ∙ number_turn h numbers

  -- At the end none is left.
  pub number_end : n ≤ i → (numbers : List ℕ) → number_all (drop i (take n l)) i numbers ≡ numbers
  number_end h numbers =
      ap (λ (ps : List ℕ). number_all ps i numbers)
      (drop_of_length-le (take n l) {i = i} (omega (arith, length-take-le n l within)))

-- The table keeps its length.
pub number_length : (ps : List ℕ) (t : ℕ) (numbers : List ℕ) → length (number_all ps t numbers) ≡ length numbers
number_length [] t numbers = refl
number_length (p ∷ ps) t numbers = number_length ps (suc t) (set numbers p t) ∙ length-set numbers p t

-- Numbers below 64 make a table of numbers below 64.
pub number_small : (ps : List ℕ) (t : ℕ) (numbers : List ℕ) → Small numbers → t + length ps ≤ 64 → Small (number_all ps t numbers)
number_small [] t numbers small few = small
number_small (p ∷ ps) t numbers small few = number_small ps (suc t) (set numbers p t) stored (omega arith)
  where
    stored : Small (set numbers p t)
    stored q =
        elim (ℕ_discrete q p) [
          | yes e ↦ go e (get_or-set_same numbers p t 0)
          | no e ↦ omega (arith, small q, get_or-set_other numbers p q t 0 e)
        ]
      where
        go : q ≡ p → (p < length numbers → get_or (set numbers p t) p 0 ≡ t) → get_or (set numbers p t) q 0 < 64
        go e same =
            elim (dec_lt p (length numbers)) [
              | yes h ↦ omega (arith, ap (λ (x : ℕ). get_or (set numbers p t) x 0) e, same h)
              | no h ↦ omega (arith, small q, ap (λ (l : List ℕ). get_or l q 0) (set_out numbers p t (omega arith)))
            ]

-- A place below all listed keeps its entry.
number_kept
    : (q : ℕ) (ps : List ℕ) (t : ℕ) (numbers : List ℕ) → All (λ (p : ℕ). T (ltb q p)) ps
    → get_or (number_all ps t numbers) q 0 ≡ get_or numbers q 0
number_kept q [] t numbers above = refl
number_kept q (p ∷ ps) t numbers above =
    number_kept q ps (suc t) (set numbers p t) above.1
    ∙ get_or-set_other numbers p q t 0 (λ e. let l = ltb→lt q p above.0 in omega arith)

-- In an ascending list the place at k has number t + k.
pub number_at
    : (ps : List ℕ) (t : ℕ) (numbers : List ℕ) → Ascending ltb ps → All (λ (p : ℕ). p < length numbers) ps
    → (k : ℕ) → k < length ps → get_or (number_all ps t numbers) (get_or ps k 0) 0 ≡ t + k
number_at [] t numbers up near k h = absurd (let z : ⊥ = omega arith in z)
number_at (p ∷ ps) t numbers up near zero h =
    number_kept p ps (suc t) (set numbers p t) up.0 ∙ get_or-set_same numbers p t 0 near.0 ∙ omega arith
number_at (p ∷ ps) t numbers up near (suc k) h =
    number_at ps (suc t) (set numbers p t) up.1 (all_longer ps near.1) k (omega arith) ∙ omega arith
  where
    all_longer : (qs : List ℕ) → All (λ (q : ℕ). q < length numbers) qs → All (λ (q : ℕ). q < length (set numbers p t)) qs
    all_longer [] a = tt
    all_longer (q ∷ qs) a = (omega (arith, a.0, length-set numbers p t), all_longer qs a.1)
