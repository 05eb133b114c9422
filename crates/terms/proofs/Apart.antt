-- Two terms of which it is not known whether they are equal have fillings that are not equal.
use Prim.Native.Nat.{ℕ}
use mathlib.Core.Path.{◌≡◌, refl}
use mathlib.Core.Logic.{inl, inr}
use lib.Dec.{eqb}
use native.Mathlib.Decide.{ℕ_discrete}
use native.Mathlib.Omega.{arith}
use Rattle.terms.specs.Term.{Term, Terms, Gauged, unknown, never, symbol, number, numbers, compound, nil, cons}
use Rattle.terms.specs.Outcome.{Holds, NotKnown, known, compare_spans, compare, compares}
use Rattle.terms.specs.Filling.{Ground, WellFormed, WellFormeds, Fills, Filling}
use Rattle.terms.specs.Filling.{put_unknown, put_numbers, put_compound, put_cons}
use Rattle.terms.proofs.Outcomes.{known_decided, and_holds, and_not_known}
use Rattle.terms.proofs.Spans.{Within, spans_equal, spans_not_known}
use Rattle.terms.proofs.ConstantFilling.{fill_with, fill_all_with, fill_with_lem, fill_all_with_lem, zero_ground}

-- A ground term that is not equal to the given one.
abbrev other : Term → Term
other unknown = symbol 0
other never = symbol 0
other (symbol a) = number 0
other (numbers a b) = symbol 0
other (compound a ts) = symbol 0

-- It is ground,
other_ground : (t : Term) → Ground (other t)
other_ground unknown = omega arith
other_ground never = omega arith
other_ground (symbol a) = (refl, omega arith)
other_ground (numbers a b) = omega arith
other_ground (compound a ts) = omega arith

-- it is not equal on the left,
other_left : (t : Term) → Holds (compare (other t) t) → ⊥
other_left unknown h = h
other_left never h = h
other_left (symbol a) h = h
other_left (numbers a b) h = h
other_left (compound a ts) h = h

-- and not on the right.
other_right : (t : Term) → Holds (compare t (other t)) → ⊥
other_right unknown h = h
other_right never h = h
other_right (symbol a) h = h
other_right (numbers a b) h = h
other_right (compound a ts) h = h

-- Fillings of two terms, and of two rows of terms, that are not equal.
pub record Apart (t u : Term) : Type 0 where
  pub left : Term
  pub right : Term
  pub fills_left : Fills t left
  pub fills_right : Fills u right
  pub unequal : Holds (compare left right) → ⊥

pub record Aparts (ts us : Terms) : Type 0 where
  pub left : Terms
  pub right : Terms
  pub fills_left : Filling ts left
  pub fills_right : Filling us right
  pub unequal : Holds (compares left right) → ⊥

-- Beside an unknown, any filling of the other term will do.
left_unknown : (u : Term) → WellFormed u → Apart unknown u
left_unknown u ok =
    let h = fill_with u (symbol 0) in
    record {
      left = other h;
      right = h;
      fills_left = put_unknown (other_ground h);
      fills_right = fill_with_lem u (symbol 0) ok zero_ground;
      unequal = other_left h;
    }

-- The same with the unknown on the right.
right_unknown : (t : Term) → WellFormed t → Apart t unknown
right_unknown t ok =
    let g = fill_with t (symbol 0) in
    record {
      left = g;
      right = other g;
      fills_left = fill_with_lem t (symbol 0) ok zero_ground;
      fills_right = put_unknown (other_ground g);
      unequal = other_right g;
    }

-- Of two spans, two numbers that are not the same.
Numbers-apart
    : (a b c d x y : ℕ) → Gauged b → Gauged d → Within a b x → Within c d y → (x ≡ y → ⊥) → Apart (numbers a b) (numbers c d)
Numbers-apart a b c d x y wide other p q differ = record {
  left = number x;
  right = number y;
  fills_left = put_numbers {c = x} {d = x} p.0 (omega arith) p.1 (refl, omega (arith, p.1));
  fills_right = put_numbers {c = y} {d = y} q.0 (omega arith) q.1 (refl, omega (arith, q.1));
  unequal = λ e. differ ((spans_equal x x y y).0 e).2;
}

-- Where one of two spans has several numbers, there are such: of the longer one an end that is not the other's low.
spans_apart
    : (a b c d : ℕ) → WellFormed (numbers a b) → WellFormed (numbers c d) → NotKnown (compare_spans a b c d)
    → Apart (numbers a b) (numbers c d)
spans_apart a b c d (ab, wide, s) (cd, other, r) h =
    let lows = Numbers-apart a b c d a c wide other (omega arith, ab) (omega arith, cd) in
    elim (ℕ_discrete a c) [
      | no n ↦ lows n
      | yes e ↦ elim (spans_not_known a b c d ab cd h) [
        | inl p ↦ Numbers-apart a b c d b c wide other (ab, omega arith) (omega arith, cd) (λ k. omega arith)
        | inr p ↦ Numbers-apart a b c d a d wide other (omega arith, ab) (cd, omega arith) (λ k. omega arith)
      ]
    ]

mutual
  -- Well-formed terms that are not known to be equal or to differ have such fillings,
  pub apart : (t u : Term) → WellFormed t → WellFormed u → NotKnown (compare t u) → Apart t u
  apart unknown u okt oku h = left_unknown u oku
  apart never u okt oku h = absurd h
  apart (symbol a) never okt oku h = absurd h
  apart (symbol a) unknown okt oku h = right_unknown (symbol a) okt
  apart (symbol a) (symbol b) okt oku h = absurd (known_decided (eqb a b) h)
  apart (symbol a) (numbers b c) okt oku h = absurd h
  apart (symbol a) (compound b us) okt oku h = absurd h
  apart (numbers a b) never okt oku h = absurd h
  apart (numbers a b) unknown okt oku h = right_unknown (numbers a b) okt
  apart (numbers a b) (symbol c) okt oku h = absurd h
  apart (numbers a b) (numbers c d) okt oku h = spans_apart a b c d okt oku h
  apart (numbers a b) (compound c us) okt oku h = absurd h
  apart (compound a ts) never okt oku h = absurd h
  apart (compound a ts) unknown okt oku h = right_unknown (compound a ts) okt
  apart (compound a ts) (symbol b) okt oku h = absurd h
  apart (compound a ts) (numbers b c) okt oku h = absurd h
  apart (compound a ts) (compound b us) okt oku h =
      elim (and_not_known (known (eqb a b)) (compares ts us) h) [
        | inl k ↦ absurd (known_decided (eqb a b) k)
        | inr k ↦
            let x = aparts ts us okt.3 oku.3 k in
            record {
              left = compound a x.left;
              right = compound b x.right;
              fills_left = put_compound x.fills_left;
              fills_right = put_compound x.fills_right;
              unequal = λ e. x.unequal (and_holds (known (eqb a b)) (compares x.left x.right) e).1;
            }
      ]

  -- and so have rows of terms.
  pub aparts : (ts us : Terms) → WellFormeds ts → WellFormeds us → NotKnown (compares ts us) → Aparts ts us
  aparts nil nil okt oku h = absurd h
  aparts nil (cons u us) okt oku h = absurd h
  aparts (cons t ts) nil okt oku h = absurd h
  aparts (cons t ts) (cons u us) okt oku h =
      elim (and_not_known (compare t u) (compares ts us) h) [
        | inl k ↦
            let x = apart t u okt.0 oku.0 k in
            let gs = fill_all_with ts (symbol 0) in
            let hs = fill_all_with us (symbol 0) in
            record {
              left = cons x.left gs;
              right = cons x.right hs;
              fills_left = put_cons x.fills_left (fill_all_with_lem ts (symbol 0) okt.1 zero_ground);
              fills_right = put_cons x.fills_right (fill_all_with_lem us (symbol 0) oku.1 zero_ground);
              unequal = λ e. x.unequal (and_holds (compare x.left x.right) (compares gs hs) e).0;
            }
        | inr k ↦
            let xs = aparts ts us okt.1 oku.1 k in
            let g = fill_with t (symbol 0) in
            let h = fill_with u (symbol 0) in
            record {
              left = cons g xs.left;
              right = cons h xs.right;
              fills_left = put_cons (fill_with_lem t (symbol 0) okt.0 zero_ground) xs.fills_left;
              fills_right = put_cons (fill_with_lem u (symbol 0) oku.0 zero_ground) xs.fills_right;
              unequal = λ e. xs.unequal (and_holds (compare g h) (compares xs.left xs.right) e).1;
            }
      ]
