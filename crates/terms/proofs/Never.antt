-- "A term that is or holds" record 35 "differs from every term, itself and unknowns included", and stays so when more is filled in.
use mathlib.Core.Bool.{Bool, true, false}
use mathlib.Core.Logic.{inl, inr}
use lib.Dec.{T, eqb}
use Rattle.terms.specs.Term.{Term, Terms, unknown, never, symbol, numbers, compound, nil, cons}
use Rattle.terms.specs.Outcome.{Outcome, Holds, NotKnown, Contradicted, known, holds_never, hold_never, beside_unknown, compare, compares}
use Rattle.terms.specs.Filling.{Puts, Putss, put_unknown, put_never, put_symbol, put_numbers, put_compound, put_nil, put_cons}
use Rattle.basics.proofs.Booleans.{either_true, true_left, true_right}
use Rattle.terms.proofs.Outcomes.{Open, Stays, open_contradicted, contradicted_left, contradicted_right}

-- An ordinary term, which neither is nor holds record 35; and so for a row of terms.
abbrev pub Ordinary : Term → Type 0
Ordinary t = T (holds_never t) → ⊥

abbrev pub Ordinaries : Terms → Type 0
Ordinaries ts = T (hold_never ts) → ⊥

-- A row is ordinary where each of its terms is.
pub ordinary_first : (t : Term) (ts : Terms) → Ordinaries (cons t ts) → Ordinary t
ordinary_first t ts w h = w (true_left (holds_never t) (hold_never ts) h)

pub ordinary_others : (t : Term) (ts : Terms) → Ordinaries (cons t ts) → Ordinaries ts
ordinary_others t ts w h = w (true_right (holds_never t) (hold_never ts) h)

pub ordinary_cons : (t : Term) (ts : Terms) → Ordinary t → Ordinaries ts → Ordinaries (cons t ts)
ordinary_cons t ts w ws h = elim (either_true (holds_never t) (hold_never ts) h) [ inl k ↦ w k | inr k ↦ ws k ]

-- Beside an unknown a term that holds it differs, and every other one is not known.
beside_never : (b : Bool) → T b → Contradicted (beside_unknown b)
beside_never true h = tt
beside_never false h = absurd h

pub beside_holds : (b : Bool) → Holds (beside_unknown b) → ⊥
beside_holds true h = h
beside_holds false h = h

pub never_beside : (b : Bool) → Contradicted (beside_unknown b) → T b
never_beside true h = tt
never_beside false h = absurd h

pub open_beside : (b : Bool) → Open (beside_unknown b) → T b → ⊥
open_beside true h n = h
open_beside false h n = n

pub beside_open : (b : Bool) → (T b → ⊥) → NotKnown (beside_unknown b)
beside_open true h = h tt
beside_open false h = tt

-- What is said beside an unknown stays where the other term, if it holds record 35, still differs.
pub beside_stays : (b : Bool) (y : Outcome) → (T b → Contradicted y) → Stays (beside_unknown b) y
beside_stays true y h = h tt
beside_stays false y h = tt

mutual
  -- A term that is or holds record 35 differs from every term on its right,
  pub never_left : (t u : Term) → T (holds_never t) → Contradicted (compare t u)
  never_left unknown u h = absurd h
  never_left never u h = tt
  never_left (symbol a) u h = absurd h
  never_left (numbers a b) u h = absurd h
  never_left (compound a ts) unknown h = beside_never (hold_never ts) h
  never_left (compound a ts) never h = tt
  never_left (compound a ts) (symbol b) h = tt
  never_left (compound a ts) (numbers b c) h = tt
  never_left (compound a ts) (compound b us) h = contradicted_right (known (eqb a b)) (compares ts us) (nevers_left ts us h)

  nevers_left : (ts us : Terms) → T (hold_never ts) → Contradicted (compares ts us)
  nevers_left nil us h = absurd h
  nevers_left (cons t ts) nil h = tt
  nevers_left (cons t ts) (cons u us) h =
      elim (either_true (holds_never t) (hold_never ts) h) [
        | inl k ↦ contradicted_left (compare t u) (compares ts us) (never_left t u k)
        | inr k ↦ contradicted_right (compare t u) (compares ts us) (nevers_left ts us k)
      ]

mutual
  -- and from every term on its left.
  pub never_right : (t u : Term) → T (holds_never u) → Contradicted (compare t u)
  never_right unknown u h = beside_never (holds_never u) h
  never_right never u h = tt
  never_right (symbol a) unknown h = absurd h
  never_right (symbol a) never h = tt
  never_right (symbol a) (symbol b) h = absurd h
  never_right (symbol a) (numbers b c) h = absurd h
  never_right (symbol a) (compound b us) h = tt
  never_right (numbers a b) unknown h = absurd h
  never_right (numbers a b) never h = tt
  never_right (numbers a b) (symbol c) h = absurd h
  never_right (numbers a b) (numbers c d) h = absurd h
  never_right (numbers a b) (compound c us) h = tt
  never_right (compound a ts) unknown h = absurd h
  never_right (compound a ts) never h = tt
  never_right (compound a ts) (symbol b) h = absurd h
  never_right (compound a ts) (numbers b c) h = absurd h
  never_right (compound a ts) (compound b us) h = contradicted_right (known (eqb a b)) (compares ts us) (nevers_right ts us h)

  nevers_right : (ts us : Terms) → T (hold_never us) → Contradicted (compares ts us)
  nevers_right nil nil h = absurd h
  nevers_right nil (cons u us) h = tt
  nevers_right (cons t ts) nil h = absurd h
  nevers_right (cons t ts) (cons u us) h =
      elim (either_true (holds_never u) (hold_never us) h) [
        | inl k ↦ contradicted_left (compare t u) (compares ts us) (never_right t u k)
        | inr k ↦ contradicted_right (compare t u) (compares ts us) (nevers_right ts us k)
      ]

-- "A term that is or holds it differs from every term, itself and unknowns included."
pub never_differs : (t : Term) → T (holds_never t) → (u : Term) → Contradicted (compare t u) × Contradicted (compare u t)
never_differs t h u = (never_left t u h, never_right u t h)

-- Terms that do not differ are ordinary.
pub open_ordinary : (t u : Term) → Open (compare t u) → Ordinary t × Ordinary u
open_ordinary t u o =
    let not_so = open_contradicted (compare t u) o in
    (λ h. not_so (never_left t u h), λ h. not_so (never_right t u h))

module _ {P : Term → Type 0} where
  mutual
    -- A term that is or holds it does so when more is filled in,
    pub never_stays : {t g : Term} → Puts P t g → T (holds_never t) → T (holds_never g)
    never_stays (put_unknown p) h = absurd h
    never_stays put_never h = tt
    never_stays put_symbol h = absurd h
    never_stays (put_numbers x y z p) h = absurd h
    never_stays (put_compound fs) h = nevers_stay fs h

    -- and so does a row of terms.
    pub nevers_stay : {ts gs : Terms} → Putss P ts gs → T (hold_never ts) → T (hold_never gs)
    nevers_stay put_nil h = absurd h
    nevers_stay (put_cons {t = t} {g = g} {ts = ts} {gs = gs} f fs) h =
        elim (either_true (holds_never t) (hold_never ts) h) [
          | inl k ↦ true_left (holds_never g) (hold_never gs) (never_stays f k)
          | inr k ↦ true_right (holds_never g) (hold_never gs) (nevers_stay fs k)
        ]
