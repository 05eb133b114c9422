-- What document 01, and document 02's requests 4 and 6, say of fillings and of pieces filled in further, sentence by sentence.
use Prim.Native.Nat.{ℕ, ◌≤◌}
use mathlib.Core.Path.{◌≡◌, refl, sym, subst}
use mathlib.Core.Logic.{◌↔◌, ◌⊎◌, inl, inr}
use native.Mathlib.Omega.{arith}
use Rattle.terms.specs.Term.{Term, Terms, Wide, Gauged, unknown, never, symbol, number, numbers, compound, nil, cons}
use Rattle.terms.specs.Filling.{WellFormed, WellFormeds, Puts, Putss, Fills, Filling, FilledFurther, Known, Knowns}
use Rattle.terms.specs.Filling.{put_unknown, put_never, put_symbol, put_numbers, put_compound, put_nil, put_cons}
use Rattle.terms.proofs.Never.{Ordinary}
use Rattle.terms.proofs.Known.{ground_known, known_ground}
use Rattle.terms.proofs.Spans.{Within}
use Rattle.terms.proofs.ConstantFilling.{fill_all_with, fill_all_with_lem, zero_ground}
use Rattle.terms.proofs.WellFormed.{fills_ground}

module _ {P : Term → Type 0} where
  -- A span may stay as it is.
  narrower_itself : (a b : ℕ) → a ≤ b → P (numbers a b) → Puts P (numbers a b) (numbers a b)
  narrower_itself a b ordered p = put_numbers {a = a} {b = b} {c = a} {d = b} (omega arith) ordered (omega arith) p

  mutual
    -- Where nothing is to be filled in, nothing changes,
    puts_same : {t g : Term} → Known t → Puts P t g → g ≡ t
    puts_same h (put_unknown x) = absurd h
    puts_same h put_never = refl
    puts_same h put_symbol = refl
    puts_same h (put_numbers {a = a} {b = b} {c = c} {d = d} x y z p) =
        let low : c ≡ a = omega arith in
        let high : d ≡ b = omega arith in
        λ i. numbers (low i) (high i)
    puts_same h (put_compound {a = a} fs) = let e = putss_same h fs in λ i. compound a (e i)

    putss_same : {ts gs : Terms} → Knowns ts → Putss P ts gs → gs ≡ ts
    putss_same h put_nil = refl
    putss_same h (put_cons f fs) =
        let d = puts_same h.0 f in
        let e = putss_same h.1 fs in
        λ i. cons (d i) (e i)

mutual
  -- and such a term is a filling of itself.
  fills_itself : (t : Term) → WellFormed t → Known t → Fills t t
  fills_itself unknown ok h = absurd h
  fills_itself never ok h = put_never
  fills_itself (symbol a) ok h = put_symbol
  fills_itself (numbers a b) ok h = narrower_itself a b ok.0 (h, ok.1)
  fills_itself (compound a ts) ok h = put_compound (filling_itself ts ok.3 h)

  filling_itself : (ts : Terms) → WellFormeds ts → Knowns ts → Filling ts ts
  filling_itself nil ok h = put_nil
  filling_itself (cons t ts) ok h = put_cons (fills_itself t ok.0 h.0) (filling_itself ts ok.1 h.1)

-- "A piece with nothing to fill in has one filling, itself."
pub one_filling : (piece filled : Terms) → WellFormeds piece → Knowns piece → Filling piece filled ↔ (filled ≡ piece)
one_filling piece filled ok h =
    (λ f. putss_same h f, λ e. subst (Filling piece) (sym e) (filling_itself piece ok h))

-- "A filling puts a number of that span there",
pub span_filling
    : (a b : ℕ) → Gauged b → (g : Term) → Fills (numbers a b) g ↔ ((v : ℕ) × Within a b v × (g ≡ number v))
span_filling a b wide g = (forth, back)
  where
    forth : {g : Term} → Fills (numbers a b) g → (v : ℕ) × Within a b v × (g ≡ number v)
    forth (put_numbers {c = c} {d = d} x y z h) =
        (c, (x, omega (arith, h.0)), λ i. numbers c (sym h.0 i))

    back : (v : ℕ) × Within a b v × (g ≡ number v) → Fills (numbers a b) g
    back (v, s, e) =
        let one : Fills (numbers a b) (number v) =
        put_numbers {c = v} {d = v} s.0 (omega arith) s.1 (refl, omega (arith, s.1)) in
        subst (Fills (numbers a b)) (sym e) one

-- "so a span with equal ends is that number".
pub span_of_one : (a : ℕ) → Gauged a → (g : Term) → Fills (numbers a a) g ↔ (g ≡ number a)
span_of_one a wide g =
    (λ f. puts_same refl f, λ e. subst (Fills (number a)) (sym e) (fills_itself (number a) (omega arith, wide, inl refl) refl))

-- "Narrowing one is filling in more."
pub span_narrowed
    : (a b : ℕ) → Wide b → (u : Term)
    → Puts WellFormed (numbers a b) u ↔ ((c d : ℕ) × (a ≤ c) × (c ≤ d) × (d ≤ b) × (u ≡ numbers c d))
span_narrowed a b wide u = (forth, back)
  where
    forth : {u : Term} → Puts WellFormed (numbers a b) u → (c d : ℕ) × (a ≤ c) × (c ≤ d) × (d ≤ b) × (u ≡ numbers c d)
    forth (put_numbers {c = c} {d = d} x y z h) = (c, d, x, y, z, refl)

    back : (c d : ℕ) × (a ≤ c) × (c ≤ d) × (d ≤ b) × (u ≡ numbers c d) → Puts WellFormed (numbers a b) u
    back (c, d, x, y, z, e) =
        subst (Puts WellFormed (numbers a b)) (sym e) (put_numbers {c = c} {d = d} x y z (y, omega arith, inr (omega arith)))

-- "An unknown may later become 35, and that is filling in more",
pub unknown_never : Puts WellFormed unknown never
unknown_never = put_unknown tt

-- but not filling: "a filling itself still uses ordinary terms only".
pub never_no_filling : Fills unknown never → ⊥
never_no_filling (put_unknown h) = h

-- Nothing else may become 35, and it stays what it is.
pub never_from : {P : Term → Type 0} (t : Term) → Puts P t never → (t ≡ unknown) ⊎ (t ≡ never)
never_from unknown p = inl refl
never_from never p = inr refl
never_from {P = P} (symbol _) p = elim p [ ]
never_from {P = P} (numbers _ _) p = elim p [ ]
never_from {P = P} (compound _ _) p = elim p [ ]

pub never_itself : {P : Term → Type 0} {g : Term} → Puts P never g → g ≡ never
never_itself put_never = refl

-- Every well-formed piece has a filling.
pub has_filling : (piece : Terms) → WellFormeds piece → (filled : Terms) × Filling piece filled
has_filling piece ok = (fill_all_with piece (symbol 0), fill_all_with_lem piece (symbol 0) ok zero_ground)

-- What a compound is filled in with, its arguments are filled in with.
arguments_put : {P : Term → Type 0} {a b : ℕ} {ts gs : Terms} → Puts P (compound a ts) (compound b gs) → Putss P ts gs
arguments_put (put_compound ws) = ws

mutual
  -- Filling in more, with ordinary terms only and nothing left to fill in, is filling,
  further_fills : {t g : Term} → Known g → Puts WellFormed t g → Puts Ordinary t g → Fills t g
  further_fills h (put_unknown {g = g} ok) (put_unknown w) = put_unknown (known_ground g ok h w)
  further_fills h put_never w = put_never
  further_fills h put_symbol w = put_symbol
  further_fills h (put_numbers x y z ok) w = put_numbers x y z (h, ok.1)
  further_fills h (put_compound fs) w = put_compound (all_further_fill h fs (arguments_put w))

  all_further_fill : {ts gs : Terms} → Knowns gs → Putss WellFormed ts gs → Putss Ordinary ts gs → Filling ts gs
  all_further_fill h put_nil w = put_nil
  all_further_fill h (put_cons f fs) (put_cons w ws) = put_cons (further_fills h.0 f w) (all_further_fill h.1 fs ws)

mutual
  -- and a filling fills in more with ordinary terms only and leaves nothing to fill in.
  fills_further : {t g : Term} → Fills t g → Puts WellFormed t g × Known g × Puts Ordinary t g
  fills_further (put_unknown {g = g} h) = let x = ground_known g h in (put_unknown x.0, x.1, put_unknown x.2)
  fills_further put_never = (put_never, tt, put_never)
  fills_further put_symbol = (put_symbol, tt, put_symbol)
  fills_further (put_numbers x y z h) = (put_numbers x y z (y, h.1, inl h.0), h.0, put_numbers x y z (λ n. n))
  fills_further (put_compound fs) = let x = all_fill_further fs in (put_compound x.0, x.1, put_compound x.2)

  all_fill_further : {ts gs : Terms} → Filling ts gs → FilledFurther ts gs × Knowns gs × Putss Ordinary ts gs
  all_fill_further put_nil = (put_nil, tt, put_nil)
  all_fill_further (put_cons f fs) =
      let x = fills_further f in
      let xs = all_fill_further fs in
      (put_cons x.0 xs.0, (x.1, xs.1), put_cons x.2 xs.2)

-- The fillings of a piece are exactly the pieces filled in further with ordinary terms only in which nothing is left to fill in.
pub filling_further
    : (piece filled : Terms) → Filling piece filled ↔ (FilledFurther piece filled × Knowns filled × Putss Ordinary piece filled)
filling_further piece filled = (λ f. all_fill_further f, λ x. all_further_fill x.1 x.0 x.2)

mutual
  -- A well-formed piece is filled in further by itself: no unknown need become a term, and no span need be narrowed,
  pub further_itself : (t : Term) → WellFormed t → Puts WellFormed t t
  further_itself unknown ok = put_unknown tt
  further_itself never ok = put_never
  further_itself (symbol a) ok = put_symbol
  further_itself (numbers a b) ok = narrower_itself a b ok.0 ok
  further_itself (compound a ts) ok = put_compound (filled_itself ts ok.3)

  pub filled_itself : (piece : Terms) → WellFormeds piece → FilledFurther piece piece
  filled_itself nil ok = put_nil
  filled_itself (cons t ts) ok = put_cons (further_itself t ok.0) (filled_itself ts ok.1)

mutual
  -- and a filling of a piece filled in further with ordinary terms only is a filling of the piece.
  fills_through : {t u g : Term} → Puts WellFormed t u → Puts Ordinary t u → Fills u g → Fills t g
  fills_through (put_unknown ok) (put_unknown w) f = put_unknown (fills_ground ok w f)
  fills_through put_never w f = f
  fills_through put_symbol w f = f
  fills_through (put_numbers {a = a} {b = b} x y z ok) w (put_numbers {c = c} {d = d} k l m h) =
      put_numbers {a = a} {b = b} {c = c} {d = d} (omega arith) l (omega arith) h
  fills_through (put_compound fs) w (put_compound gs) = put_compound (filling_through fs (arguments_put w) gs)

  pub filling_through
      : {piece further filled : Terms} → FilledFurther piece further → Putss Ordinary piece further → Filling further filled
      → Filling piece filled
  filling_through put_nil w put_nil = put_nil
  filling_through (put_cons f fs) (put_cons w ws) (put_cons g gs) = put_cons (fills_through f w g) (filling_through fs ws gs)
