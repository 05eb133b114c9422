-- What is found at a place and what the cells have there: the same, but that the cells have nothing below a term that hides it, an
-- unknown or record 35. So where the cells have nothing, such a term is found exactly where it is found above. For any number of
-- levels.
use Prim.Native.Nat.{ℕ, zero, suc, pred, ◌-◌, ◌*◌, ◌≤◌, ◌<◌}
use mathlib.Core.Path.{◌≡◌, refl, ap, sym, ◌∙◌}
use mathlib.Core.Bool.{Bool, true, false}
use native.Mathlib.Nat.{suc-mul, add_comm}
use native.Mathlib.Omega.{arith}
use lib.Dec.{ltb}
use Rattle.places.specs.Numbering.{stride}
use Rattle.places.proofs.Rows.{stride_grows}
use Rattle.terms.specs.Term.{Term, Terms, unknown, never, symbol, numbers, compound, nil, cons}
use Rattle.terms.specs.Lookup.{Found, lacking, found}
use Rattle.terms.proofs.Unknown.{Hides}
use Rattle.basics.proofs.Booleans.{cond_related}
use Rattle.outcomes.proofs.FindWith.{find_with, finds_with, nothing, with_zero, with_here, with_there, go_on}

-- What is found, and what is stored.
pub data Stores : Found → Found → Type 0 where
  shown : (f : Found) → Stores f f
  hidden : (t : Term) → Hides t → Stores (found t) lacking

mutual
  -- Each place of a term is stored as it is found, or hidden,
  pub stores : (t : Term) (r n : ℕ) → Stores (find_with found t r n) (find_with nothing t r n)
  stores unknown r zero = shown (found unknown)
  stores unknown r (suc n) = hidden unknown tt
  stores never r zero = shown (found never)
  stores never r (suc n) = hidden never tt
  stores (symbol a) r zero = shown (found (symbol a))
  stores (symbol a) r (suc n) = shown lacking
  stores (numbers a b) r zero = shown (found (numbers a b))
  stores (numbers a b) r (suc n) = shown lacking
  stores (compound a ts) r zero = shown (found (compound a ts))
  stores (compound a ts) r (suc n) = stores_row ts (pred r) n

  -- and so is each place of a row of terms.
  pub stores_row : (ts : Terms) (r n : ℕ) → Stores (finds_with found ts r n) (finds_with nothing ts r n)
  stores_row nil r n = shown lacking
  stores_row (cons t ts) r n = cond_related Stores (ltb n (stride r)) (stores t r n) (stores_row ts r (n - stride r))

-- The first place of each term in a row is hidden by none of them.
pub first_same
    : (x y : Term → Found) (ts : Terms) (r k : ℕ) → 1 ≤ r → finds_with x ts r (k * stride r) ≡ finds_with y ts r (k * stride r)
first_same x y nil r k some = refl
first_same x y (cons t ts) r zero some =
    let none : 0 * stride r ≡ 0 = omega arith in
    let inside : 0 * stride r < stride r = omega (arith, stride_grows 1 r some) in
    with_here x t ts r (0 * stride r) inside ∙ ap (find_with x t r) none ∙ with_zero x t r
    ∙ sym (with_here y t ts r (0 * stride r) inside ∙ ap (find_with y t r) none ∙ with_zero y t r)
first_same x y (cons t ts) r (suc k) some =
    let place = suc-mul k (stride r) ∙ add_comm (k * stride r) (stride r) in
    ap (finds_with x (cons t ts) r) place ∙ with_there x t ts r (k * stride r) ∙ first_same x y ts r k some
    ∙ sym (ap (finds_with y (cons t ts) r) place ∙ with_there y t ts r (k * stride r))

-- Whether an unknown is found.
abbrev pub is_unknown : Found → Bool
is_unknown lacking = false
is_unknown (found unknown) = true
is_unknown (found never) = false
is_unknown (found (symbol a)) = false
is_unknown (found (numbers a b)) = false
is_unknown (found (compound a ts)) = false

-- What is found below what is found where no cell tells it: an unknown or record 35 itself, and else nothing.
abbrev pub hidden_under : Found → Found
hidden_under lacking = lacking
hidden_under (found unknown) = found unknown
hidden_under (found never) = found never
hidden_under (found (symbol a)) = lacking
hidden_under (found (numbers a b)) = lacking
hidden_under (found (compound a ts)) = lacking

-- Below that the same is found.
pub under_hidden : (f : Found) → hidden_under (hidden_under f) ≡ hidden_under f
under_hidden lacking = refl
under_hidden (found unknown) = refl
under_hidden (found never) = refl
under_hidden (found (symbol a)) = refl
under_hidden (found (numbers a b)) = refl
under_hidden (found (compound a ts)) = refl

-- What is stored, or something else where nothing is.
abbrev pub or_else : Found → Found → Found
or_else lacking y = y
or_else (found t) y = found t

-- Nothing else makes no difference.
pub or_nothing : (f : Found) → or_else f lacking ≡ f
or_nothing lacking = refl
or_nothing (found t) = refl

-- At child k + 1 of a place is found what is stored there, or else what the place hides.
pub child_found
    : {f s : Found} → Stores f s → (l k : ℕ) → 1 ≤ l
    → go_on (λ u. find_with found u (suc l) (suc (k * stride l))) f
    ≡ or_else (go_on (λ u. find_with nothing u (suc l) (suc (k * stride l))) s) (hidden_under f)
child_found (shown lacking) l k some = refl
child_found (shown (found unknown)) l k some = refl
child_found (shown (found never)) l k some = refl
child_found (shown (found (symbol a))) l k some = refl
child_found (shown (found (numbers a b))) l k some = refl
child_found (shown (found (compound a ts))) l k some =
    first_same found nothing ts l k some ∙ sym (or_nothing (finds_with nothing ts l (k * stride l)))
child_found (hidden unknown h) l k some = refl
child_found (hidden never h) l k some = refl
child_found (hidden (symbol a) h) l k some = absurd h
child_found (hidden (numbers a b) h) l k some = absurd h
child_found (hidden (compound a ts) h) l k some = absurd h
