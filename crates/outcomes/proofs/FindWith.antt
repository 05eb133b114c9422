-- Finding what stands n places into a term, where f t stands below a term t that hides what is below it, an unknown or record 35:
-- that term itself, as documents 01 and 02 have it, or nothing, as the cells have it. Its laws hold for any number of levels; one
-- of them is that finding composes.
use Prim.Native.Nat.{ℕ, zero, suc, pred, ◌+◌, ◌-◌, ◌<◌}
use mathlib.Core.Path.{◌≡◌, refl, ap, sym, ◌∙◌}
use mathlib.Core.Bool.{cond}
use native.Mathlib.Nat.{suc-add, zero-add}
use native.Mathlib.Decide.{dec_lt}
use native.Mathlib.Omega.{arith}
use lib.Dec.{ltb, lt→ltb, ltb→lt}
use Rattle.places.specs.Numbering.{stride, levels_in}
use Rattle.places.proofs.Levels.{levels_first, levels_next, levels_below, levels_fit}
use Rattle.terms.specs.Term.{Term, Terms, unknown, never, symbol, numbers, compound, nil, cons}
use Rattle.terms.specs.Lookup.{Found, lacking, found, find, finds}
use Rattle.terms.proofs.Unknown.{Hides}
use Rattle.basics.proofs.Booleans.{cond_true, cond_false, cond_related}

-- What stands n places into a term with r levels, and the same for a row of terms.
abbrev mutual
  pub find_with : (Term → Found) → Term → ℕ → ℕ → Found
  find_with x unknown r zero = found unknown
  find_with x unknown r (suc n) = x unknown
  find_with x never r zero = found never
  find_with x never r (suc n) = x never
  find_with x (symbol a) r zero = found (symbol a)
  find_with x (symbol a) r (suc n) = lacking
  find_with x (numbers a b) r zero = found (numbers a b)
  find_with x (numbers a b) r (suc n) = lacking
  find_with x (compound a ts) r zero = found (compound a ts)
  find_with x (compound a ts) r (suc n) = finds_with x ts (pred r) n

  pub finds_with : (Term → Found) → Terms → ℕ → ℕ → Found
  finds_with x nil r n = lacking
  finds_with x (cons t ts) r n =
      cond (ltb n (stride r)) (find_with x t r n) (finds_with x ts r (n - stride r))

-- The cells have nothing below a term that hides it.
abbrev pub nothing : Term → Found
nothing t = lacking

mutual
  -- With what hides below what hides it is the documents' finding: in a term,
  pub find_is : (t : Term) (r n : ℕ) → find t r n ≡ find_with found t r n
  find_is unknown r zero = refl
  find_is unknown r (suc n) = refl
  find_is never r zero = refl
  find_is never r (suc n) = refl
  find_is (symbol a) r zero = refl
  find_is (symbol a) r (suc n) = refl
  find_is (numbers a b) r zero = refl
  find_is (numbers a b) r (suc n) = refl
  find_is (compound a ts) r zero = refl
  find_is (compound a ts) r (suc n) = finds_is ts (pred r) n

  -- and in a row of terms.
  pub finds_is : (ts : Terms) (r n : ℕ) → finds ts r n ≡ finds_with found ts r n
  finds_is nil r n = refl
  finds_is (cons t ts) r n =
      cond_related (λ f g. f ≡ g) (ltb n (stride r)) (find_is t r n) (finds_is ts r (n - stride r))

module _ (x : Term → Found) where
  -- A term itself stands at its place.
  pub with_zero : (t : Term) (r : ℕ) → find_with x t r 0 ≡ found t
  with_zero unknown r = refl
  with_zero never r = refl
  with_zero (symbol a) r = refl
  with_zero (numbers a b) r = refl
  with_zero (compound a ts) r = refl

  -- The first places of a row are those of its first term,
  pub with_here : (t : Term) (ts : Terms) (r n : ℕ) → n < stride r → finds_with x (cons t ts) r n ≡ find_with x t r n
  with_here t ts r n h = cond_true (ltb n (stride r)) _ _ (lt→ltb n (stride r) h)

  -- and the next ones those of the row of the others.
  pub with_there : (t : Term) (ts : Terms) (r n : ℕ) → finds_with x (cons t ts) r (stride r + n) ≡ finds_with x ts r n
  with_there t ts r n =
      let back : (stride r + n) - stride r ≡ n = omega arith in
      cond_false (ltb (stride r + n) (stride r)) _ _ (λ h. omega (arith, ltb→lt (stride r + n) (stride r) h))
      ∙ ap (finds_with x ts r) back

-- Going on from what was found.
abbrev pub go_on : (Term → Found) → Found → Found
go_on f lacking = lacking
go_on f (found t) = f t

-- Going on from what stands below a term that hides it stays there.
abbrev pub Stays : (Term → Found) → Type 0
Stays x = (t : Term) → Hides t → (r n : ℕ) → go_on (λ u. find_with x u r n) (x t) ≡ x t

-- Below such a term is that term, and so on.
pub hiding_stays : Stays found
hiding_stays unknown h r zero = refl
hiding_stays unknown h r (suc n) = refl
hiding_stays never h r zero = refl
hiding_stays never h r (suc n) = refl
hiding_stays (symbol a) h r n = absurd h
hiding_stays (numbers a b) h r n = absurd h
hiding_stays (compound a ts) h r n = absurd h

-- Below nothing is nothing.
pub nothing_stays : Stays nothing
nothing_stays t h r n = refl

-- Going on from the place of the term itself.
from_first
    : (x : Term → Found) (t : Term) (r m : ℕ)
    → find_with x t r (0 + m) ≡ go_on (λ u. find_with x u (levels_in r 0) m) (find_with x t r 0)
from_first x t r m =
    ap (find_with x t r) (zero-add m) ∙ ap (λ l. find_with x t l m) (sym (levels_first r))
    ∙ ap (go_on (λ u. find_with x u (levels_in r 0) m)) (sym (with_zero x t r))

module _ (x : Term → Found) (stays : Stays x) where
  mutual
    -- Finding composes: what stands m places after place n, of the places that place n has, is found from what stands
    -- there.
    pub with_composes
        : (t : Term) (r n m : ℕ) → n < stride r → m < stride (levels_in r n)
        → find_with x t r (n + m) ≡ go_on (λ u. find_with x u (levels_in r n) m) (find_with x t r n)
    with_composes unknown r zero m inside near = from_first x unknown r m
    with_composes unknown r (suc n) m inside near =
        ap (find_with x unknown r) (suc-add n m) ∙ sym (stays unknown tt (levels_in r (suc n)) m)
    with_composes never r zero m inside near = from_first x never r m
    with_composes never r (suc n) m inside near =
        ap (find_with x never r) (suc-add n m) ∙ sym (stays never tt (levels_in r (suc n)) m)
    with_composes (symbol a) r zero m inside near = from_first x (symbol a) r m
    with_composes (symbol a) r (suc n) m inside near = ap (find_with x (symbol a) r) (suc-add n m)
    with_composes (numbers a b) r zero m inside near = from_first x (numbers a b) r m
    with_composes (numbers a b) r (suc n) m inside near = ap (find_with x (numbers a b) r) (suc-add n m)
    with_composes (compound a ts) r zero m inside near = from_first x (compound a ts) r m
    with_composes (compound a ts) zero (suc n) m inside near = absurd (omega arith)
    with_composes (compound a ts) (suc r) (suc n) m inside near =
        let levels = levels_below r n (omega arith) in
        ap (find_with x (compound a ts) (suc r)) (suc-add n m)
        ∙ row_composes ts r n m (omega (arith, ap stride levels))
        ∙ ap (λ l. go_on (λ u. find_with x u l m) (finds_with x ts r n)) (sym levels)

    -- The same in a row of terms.
    pub row_composes
        : (ts : Terms) (r n m : ℕ) → m < stride (levels_in r n)
        → finds_with x ts r (n + m) ≡ go_on (λ u. find_with x u (levels_in r n) m) (finds_with x ts r n)
    row_composes nil r n m near = refl
    row_composes (cons t ts) r n m near =
        elim (dec_lt n (stride r)) [
          | yes first ↦
              with_here x t ts r (n + m) (omega (arith, levels_fit r n first))
              ∙ with_composes t r n m first near
              ∙ ap (go_on (λ u. find_with x u (levels_in r n) m)) (sym (with_here x t ts r n first))
          | no later ↦
              let k = n - stride r in
              let n-is : n ≡ stride r + k = omega arith in
              let sum_is : n + m ≡ stride r + (k + m) = omega arith in
              let levels = ap (levels_in r) n-is ∙ levels_next r k in
              ap (finds_with x (cons t ts) r) sum_is ∙ with_there x t ts r (k + m)
              ∙ row_composes ts r k m (omega (arith, ap stride levels))
              ∙ ap (λ l. go_on (λ u. find_with x u l m) (finds_with x ts r k)) (sym levels)
              ∙ ap (go_on (λ u. find_with x u (levels_in r n) m))
              (sym (ap (finds_with x (cons t ts) r) n-is ∙ with_there x t ts r k))
        ]

-- Finding as the documents have it composes: in a row of terms, a place m places after place n, of the places that place n
-- has, is lacking where place n is, and else found from what stands there.
pub finds_composes
    : (ts : Terms) (r n m : ℕ) → m < stride (levels_in r n)
    → finds ts r (n + m) ≡ go_on (λ u. find u (levels_in r n) m) (finds ts r n)
finds_composes ts r n m near =
    finds_is ts r (n + m) ∙ row_composes found hiding_stays ts r n m near
    ∙ ap (go_on (λ u. find_with found u (levels_in r n) m)) (sym (finds_is ts r n)) ∙ same (finds ts r n)
  where
    same
        : (f : Found)
        → go_on (λ u. find_with found u (levels_in r n) m) f ≡ go_on (λ u. find u (levels_in r n) m) f
    same lacking = refl
    same (found u) = sym (find_is u (levels_in r n) m)
