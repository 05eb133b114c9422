-- How many places terms in a row and the arguments of a term take up, and where arguments stand, for any number of
-- levels below them.
use Prim.Native.Nat.{ℕ, suc, ◌+◌, ◌-◌, ◌*◌, ◌≤◌, ◌<◌}
use mathlib.Core.Path.{◌≡◌, ap, ◌∙◌}
use native.Mathlib.Nat.{mul-le-mul_right}
use native.Mathlib.Omega.{arith}
use Rattle.places.specs.Numbering.{stride}
use Rattle.terms.specs.Term.{Term, Terms, count, unknown, never, symbol, numbers, compound, nil, cons}
use Rattle.terms.specs.Accepted.{Shallow, Shallows}

-- A term with a level below it has room for itself and for its arguments, at most 4.
pub arguments_room
    : (below n : ℕ) → (below ≡ 0 → ⊥) → n ≤ 4 → suc (n * stride (suc (below - 1))) ≤ stride (suc below)
arguments_room below n some most =
    let counted : suc (below - 1) ≡ below = omega arith in
    omega (arith, ap stride counted, mul-le-mul_right (stride (suc (below - 1))) most)

-- The step of the depth that has so many levels below it.
pub step_of : (below : ℕ) {step : ℕ} → below < 4 → step ≡ stride (4 - (3 - below)) → step ≡ stride (suc below)
step_of below few is = let counted : 4 - (3 - below) ≡ suc below = omega arith in is ∙ ap stride counted

-- Term i of the n in a row has room where they all have.
pub row_room : (n i p : ℕ) {step size : ℕ} → step ≡ size → i < n → p + n * size ≤ 680 → p + i * step + size ≤ 680
row_room n i p {step} {size} is h room = rw is (omega (arith, mul-le-mul_right size h))

-- The arguments of an accepted compound stand where a level is below.
pub no_arguments : (ts : Terms) → 1 ≤ count ts → Shallows ts 0 → ⊥
no_arguments nil some shallow = omega arith
no_arguments (cons t ts) some shallow = first t shallow.0
  where
    first : (t : Term) → Shallow t 0 → ⊥
    first unknown h = omega arith
    first never h = omega arith
    first (symbol a) h = omega arith
    first (numbers a b) h = omega arith
    first (compound a ts) h = omega (arith, h.0)
