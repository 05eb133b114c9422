-- The filling that puts one and the same term in every unknown, and in every span a number chosen by its ends: every
-- well-formed piece has a filling.
use Prim.Native.Nat.{ℕ, zero, suc, pred, ◌-◌, ◌≤◌}
use mathlib.Core.Path.{◌≡◌, refl}
use native.Mathlib.Omega.{arith}
use lib.Dec.{ltb}
use Rattle.places.specs.Numbering.{stride}
use Rattle.terms.specs.Term.{Term, Terms, unknown, never, symbol, number, numbers, compound, nil, cons}
use Rattle.terms.specs.Lookup.{Found, lacking, found, find, finds}
use Rattle.terms.specs.Filling.{Ground, WellFormed, WellFormeds, Fills, Filling}
use Rattle.terms.specs.Filling.{put_unknown, put_never, put_symbol, put_numbers, put_compound, put_nil, put_cons}
use Rattle.terms.proofs.Unknown.{IsUnknown}
use Rattle.basics.proofs.Booleans.{cond_related}

-- The term with c in every unknown, and in every span the number that `end` chooses.
abbrev mutual
  pub fill_by : (ℕ → ℕ → ℕ) → Term → Term → Term
  fill_by end unknown c = c
  fill_by end never c = never
  fill_by end (symbol a) c = symbol a
  fill_by end (numbers a b) c = number (end a b)
  fill_by end (compound a ts) c = compound a (fill_all_by end ts c)

  pub fill_all_by : (ℕ → ℕ → ℕ) → Terms → Term → Terms
  fill_all_by end nil c = nil
  fill_all_by end (cons t ts) c = cons (fill_by end t c) (fill_all_by end ts c)

-- What is chosen is a number of the span.
abbrev pub OfSpan : (ℕ → ℕ → ℕ) → Type 0
OfSpan end = (a b : ℕ) → a ≤ b → (a ≤ end a b) × (end a b ≤ b)

module _ (end : ℕ → ℕ → ℕ) (of : OfSpan end) where
  mutual
    -- With a ground term in every unknown, a well-formed term is filled,
    fill_by_lem : (t c : Term) → WellFormed t → Ground c → Fills t (fill_by end t c)
    fill_by_lem unknown c ok h = put_unknown h
    fill_by_lem never c ok h = put_never
    fill_by_lem (symbol a) c ok h = put_symbol
    fill_by_lem (numbers a b) c ok h =
        let s = of a b ok.0 in
        let e = end a b in
        put_numbers {c = e} {d = e} s.0 (omega arith) s.1 (refl, omega (arith, s.1, ok.1))
    fill_by_lem (compound a ts) c ok h = put_compound (fill_all_by_lem ts c ok.3 h)

    -- and so is a piece.
    pub fill_all_by_lem : (ts : Terms) (c : Term) → WellFormeds ts → Ground c → Filling ts (fill_all_by end ts c)
    fill_all_by_lem nil c ok h = put_nil
    fill_all_by_lem (cons t ts) c ok h = put_cons (fill_by_lem t c ok.0 h) (fill_all_by_lem ts c ok.1 h)

-- The lowest and the highest number of a span.
abbrev pub lowest : ℕ → ℕ → ℕ
lowest a b = a

abbrev pub highest : ℕ → ℕ → ℕ
highest a b = b

pub of_lowest : OfSpan lowest
of_lowest a b h = (omega arith, h)

pub of_highest : OfSpan highest
of_highest a b h = (h, omega arith)

-- The term with c in every unknown, and in every span its lowest number.
abbrev pub fill_with : Term → Term → Term
fill_with t c = fill_by lowest t c

abbrev pub fill_all_with : Terms → Term → Terms
fill_all_with ts c = fill_all_by lowest ts c

-- It fills a well-formed term, and a well-formed piece.
pub fill_with_lem : (t c : Term) → WellFormed t → Ground c → Fills t (fill_with t c)
fill_with_lem = fill_by_lem lowest of_lowest

pub fill_all_with_lem : (ts : Terms) (c : Term) → WellFormeds ts → Ground c → Filling ts (fill_all_with ts c)
fill_all_with_lem = fill_all_by_lem lowest of_lowest

-- Symbol 0 is a ground term.
pub zero_ground : Ground (symbol 0)
zero_ground = omega arith

module _ (Q : Found → Type 0) (c : Term) (always : (r n : ℕ) → Q (find c r n)) where
  mutual
    -- What holds of all that stands at the places of c holds, after filling, at every place that was unknown.
    pub unknown_with : (t : Term) (r n : ℕ) → IsUnknown (find t r n) → Q (find (fill_with t c) r n)
    unknown_with unknown r n h = always r n
    unknown_with never r n h = absurd h
    unknown_with (symbol a) r zero h = absurd h
    unknown_with (symbol a) r (suc n) h = absurd h
    unknown_with (numbers a b) r zero h = absurd h
    unknown_with (numbers a b) r (suc n) h = absurd h
    unknown_with (compound a ts) r zero h = absurd h
    unknown_with (compound a ts) r (suc n) h = unknowns_with ts (pred r) n h

    -- The same for a row of terms.
    pub unknowns_with : (ts : Terms) (r n : ℕ) → IsUnknown (finds ts r n) → Q (finds (fill_all_with ts c) r n)
    unknowns_with nil r n h = absurd h
    unknowns_with (cons t ts) r n h =
        cond_related (λ (x y : Found). IsUnknown x → Q y) (ltb n (stride r)) (λ k. unknown_with t r n k)
        (λ k. unknowns_with ts r (n - stride r) k) h

module _ (end : ℕ → ℕ → ℕ) (c : Term) where
  -- Where a span stood, the chosen number stands.
  abbrev pub SpanFilled : Found → Found → Type 0
  SpanFilled lacking y = Unit
  SpanFilled (found unknown) y = Unit
  SpanFilled (found never) y = Unit
  SpanFilled (found (symbol a)) y = Unit
  SpanFilled (found (numbers a b)) y = y ≡ found (number (end a b))
  SpanFilled (found (compound a ts)) y = Unit

  mutual
    -- It is so at every place of a term,
    span_by : (t : Term) (r n : ℕ) → SpanFilled (find t r n) (find (fill_by end t c) r n)
    span_by unknown r n = tt
    span_by never r n = tt
    span_by (symbol a) r zero = tt
    span_by (symbol a) r (suc n) = tt
    span_by (numbers a b) r zero = refl
    span_by (numbers a b) r (suc n) = tt
    span_by (compound a ts) r zero = tt
    span_by (compound a ts) r (suc n) = spans_by ts (pred r) n

    -- and of a row of terms.
    pub spans_by : (ts : Terms) (r n : ℕ) → SpanFilled (finds ts r n) (finds (fill_all_by end ts c) r n)
    spans_by nil r n = tt
    spans_by (cons t ts) r n = cond_related SpanFilled (ltb n (stride r)) (span_by t r n) (spans_by ts r (n - stride r))
