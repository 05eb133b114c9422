-- The meet of terms that do not differ: their most general common instance. Terms that pairwise do not differ have a
-- common filling, because every unknown stands at one place only, and spans that pairwise have a number in common have one
-- that is in all of them.
use Prim.Native.Nat.{ℕ, suc, min, max}
use mathlib.Core.Path.{◌≡◌, refl, ap, subst}
use mathlib.Core.Logic.{inl, inr}
use mathlib.Core.List.{List, [], ◌∷◌}
use native.Mathlib.Omega.{arith}
use lib.Dec.{eqb, eqb→eq}
use Rattle.basics.specs.Lists.{All}
use Rattle.terms.specs.Term.{Term, Terms, count, unknown, never, symbol, numbers, compound, nil, cons}
use Rattle.terms.specs.RuleTests.{a_number}
use Rattle.terms.specs.Outcome.{known, fits, holds_never, hold_never, beside_unknown, compare, compares}
use Rattle.terms.specs.Filling.{WellFormed, WellFormeds, Fills, Filling}
use Rattle.terms.specs.Filling.{put_unknown, put_never, put_symbol, put_numbers, put_compound, put_nil, put_cons}
use Rattle.terms.proofs.Outcomes.{Open, not_known_open, and_open, open_and, open_true}
use Rattle.terms.proofs.Spans.{range_open_at, spans_open}
use Rattle.terms.proofs.Never.{Ordinary, Ordinaries, ordinary_first, ordinary_others, ordinary_cons, open_beside, beside_open}
use Rattle.terms.proofs.WellFormed.{fills_ground}

-- The meet of two terms: where one is unknown, the other; of two spans, their common part; of two compounds, the compound of
-- their arguments' meets.
abbrev mutual
  pub meet : Term → Term → Term
  meet unknown u = u
  meet never u = never
  meet (symbol a) u = symbol a
  meet (numbers a b) unknown = numbers a b
  meet (numbers a b) never = numbers a b
  meet (numbers a b) (symbol c) = numbers a b
  meet (numbers a b) (numbers c d) = numbers (max a c) (min b d)
  meet (numbers a b) (compound c us) = numbers a b
  meet (compound a ts) unknown = compound a ts
  meet (compound a ts) never = compound a ts
  meet (compound a ts) (symbol b) = compound a ts
  meet (compound a ts) (numbers b c) = compound a ts
  meet (compound a ts) (compound b us) = compound a (meets ts us)

  pub meets : Terms → Terms → Terms
  meets nil us = nil
  meets (cons t ts) nil = cons t ts
  meets (cons t ts) (cons u us) = cons (meet t u) (meets ts us)

mutual
  -- The meet of terms without record 35 is without it,
  meet_ordinary : (t u : Term) → Ordinary t → Ordinary u → Ordinary (meet t u)
  meet_ordinary unknown u w v = v
  meet_ordinary never u w v = w
  meet_ordinary (symbol a) u w v = w
  meet_ordinary (numbers a b) unknown w v = w
  meet_ordinary (numbers a b) never w v = w
  meet_ordinary (numbers a b) (symbol c) w v = w
  meet_ordinary (numbers a b) (numbers c d) w v = λ n. n
  meet_ordinary (numbers a b) (compound c us) w v = w
  meet_ordinary (compound a ts) unknown w v = w
  meet_ordinary (compound a ts) never w v = w
  meet_ordinary (compound a ts) (symbol b) w v = w
  meet_ordinary (compound a ts) (numbers b c) w v = w
  meet_ordinary (compound a ts) (compound b us) w v = meets_ordinary ts us w v

  -- and so for rows of terms.
  meets_ordinary : (ts us : Terms) → Ordinaries ts → Ordinaries us → Ordinaries (meets ts us)
  meets_ordinary nil us w v = λ n. n
  meets_ordinary (cons t ts) nil w v = w
  meets_ordinary (cons t ts) (cons u us) w v =
      ordinary_cons (meet t u) (meets ts us) (meet_ordinary t u (ordinary_first t ts w) (ordinary_first u us v))
      (meets_ordinary ts us (ordinary_others t ts w) (ordinary_others u us v))

mutual
  -- A filling of the meet of two terms that do not differ fills both,
  pub meet_fills
      : (t u : Term) {g : Term} → WellFormed t → WellFormed u → Open (compare t u) → Fills (meet t u) g
      → Fills t g × Fills u g
  meet_fills unknown u okt oku p f = (put_unknown (fills_ground oku (open_beside (holds_never u) p) f), f)
  meet_fills never u okt oku p f = absurd p
  meet_fills (symbol a) unknown okt oku p f = (f, put_unknown (fills_ground okt (λ n. n) f))
  meet_fills (symbol a) never okt oku p f = absurd p
  meet_fills (symbol a) (symbol b) {g} okt oku p f =
      let e : a ≡ b = eqb→eq a b (open_true (eqb a b) p) in
      (f, subst (λ c. Fills (symbol c) g) e f)
  meet_fills (symbol a) (numbers b c) okt oku p f = absurd p
  meet_fills (symbol a) (compound b us) okt oku p f = absurd p
  meet_fills (numbers a b) unknown okt oku p f = (f, put_unknown (fills_ground okt (λ n. n) f))
  meet_fills (numbers a b) never okt oku p f = absurd p
  meet_fills (numbers a b) (symbol c) okt oku p f = absurd p
  meet_fills (numbers a b) (numbers c d) okt oku p (put_numbers {c = x} {d = y} from ordered to ground) = (
    put_numbers {a = a} {b = b} {c = x} {d = y} (omega arith) ordered (omega arith) ground,
    put_numbers {a = c} {b = d} {c = x} {d = y} (omega arith) ordered (omega arith) ground,
  )
  meet_fills (numbers a b) (compound c us) okt oku p f = absurd p
  meet_fills (compound a ts) unknown okt oku p f = (f, put_unknown (fills_ground okt (open_beside (hold_never ts) p) f))
  meet_fills (compound a ts) never okt oku p f = absurd p
  meet_fills (compound a ts) (symbol b) okt oku p f = absurd p
  meet_fills (compound a ts) (numbers b c) okt oku p f = absurd p
  meet_fills (compound a ts) (compound b us) okt oku p (put_compound {gs = gs} fs) =
      let x = and_open (known (eqb a b)) (compares ts us) p in
      let e : a ≡ b = eqb→eq a b (open_true (eqb a b) x.0) in
      let y = meets_fills ts us okt.3 oku.3 x.1 fs in
      (put_compound y.0, subst (λ c. Fills (compound c us) (compound a gs)) e (put_compound y.1))

  -- and so for rows of terms.
  pub meets_fills
      : (ts us : Terms) {gs : Terms} → WellFormeds ts → WellFormeds us → Open (compares ts us) → Filling (meets ts us) gs
      → Filling ts gs × Filling us gs
  meets_fills nil nil okt oku p f = (f, f)
  meets_fills nil (cons u us) okt oku p f = absurd p
  meets_fills (cons t ts) nil okt oku p f = absurd p
  meets_fills (cons t ts) (cons u us) okt oku p (put_cons f fs) =
      let x = and_open (compare t u) (compares ts us) p in
      let y = meet_fills t u okt.0 oku.0 x.0 f in
      let ys = meets_fills ts us okt.1 oku.1 x.1 fs in
      (put_cons y.0 ys.0, put_cons y.1 ys.1)

mutual
  -- What fills both of two terms fills their meet: no common instance is more general,
  pub fills_meet : {t u g : Term} → Fills t g → Fills u g → Fills (meet t u) g
  fills_meet (put_unknown h) k = k
  fills_meet put_never k = put_never
  fills_meet put_symbol k = put_symbol
  fills_meet (put_numbers x y z h) (put_unknown k) = put_numbers x y z h
  fills_meet (put_numbers {a = a} {b = b} {c = c} {d = d} x y z h) (put_numbers {a = e} {b = f} u v w k) =
      put_numbers {a = max a e} {b = min b f} {c = c} {d = d} (omega arith) y (omega arith) h
  fills_meet (put_compound fs) (put_unknown k) = put_compound fs
  fills_meet (put_compound fs) (put_compound ks) = put_compound (filling_meets fs ks)

  -- and so for rows of terms.
  pub filling_meets : {ts us gs : Terms} → Filling ts gs → Filling us gs → Filling (meets ts us) gs
  filling_meets put_nil put_nil = put_nil
  filling_meets (put_cons f fs) (put_cons k ks) = put_cons (fills_meet f k) (filling_meets fs ks)

mutual
  -- Of three terms that pairwise do not differ, the meet of two does not differ from the third,
  pub meet_open
      : (t u v : Term) → Open (compare t u) → Open (compare t v) → Open (compare u v) → Open (compare (meet t u) v)
  meet_open unknown u v tu tv uv = uv
  meet_open never u v tu tv uv = tv
  meet_open (symbol a) u v tu tv uv = tv
  meet_open (numbers a b) unknown v tu tv uv = tv
  meet_open (numbers a b) never v tu tv uv = tv
  meet_open (numbers a b) (symbol c) v tu tv uv = tv
  meet_open (numbers a b) (numbers c d) unknown tu tv uv = tt
  meet_open (numbers a b) (numbers c d) never tu tv uv = tv
  meet_open (numbers a b) (numbers c d) (symbol e) tu tv uv = tv
  meet_open (numbers a b) (numbers c d) (numbers e f) tu tv uv =
      let x = (spans_open a b e f).0 tv in
      let y = (spans_open c d e f).0 uv in
      (spans_open (max a c) (min b d) e f).1 (omega (arith, x.0, y.0), omega (arith, x.1, y.1))
  meet_open (numbers a b) (numbers c d) (compound e vs) tu tv uv = tv
  meet_open (numbers a b) (compound c us) v tu tv uv = tv
  meet_open (compound a ts) unknown v tu tv uv = tv
  meet_open (compound a ts) never v tu tv uv = tv
  meet_open (compound a ts) (symbol b) v tu tv uv = tv
  meet_open (compound a ts) (numbers b c) v tu tv uv = tv
  meet_open (compound a ts) (compound b us) unknown tu tv uv =
      let ordinary = meets_ordinary ts us (open_beside (hold_never ts) tv) (open_beside (hold_never us) uv) in
      not_known_open (beside_unknown (hold_never (meets ts us))) (beside_open (hold_never (meets ts us)) ordinary)
  meet_open (compound a ts) (compound b us) never tu tv uv = tv
  meet_open (compound a ts) (compound b us) (symbol c) tu tv uv = tv
  meet_open (compound a ts) (compound b us) (numbers c d) tu tv uv = tv
  meet_open (compound a ts) (compound b us) (compound c vs) tu tv uv =
      let x = and_open (known (eqb a b)) (compares ts us) tu in
      let y = and_open (known (eqb a c)) (compares ts vs) tv in
      let z = and_open (known (eqb b c)) (compares us vs) uv in
      open_and (known (eqb a c)) (compares (meets ts us) vs) y.0 (meets_open ts us vs x.1 y.1 z.1)

  -- and so for rows of terms.
  pub meets_open
      : (ts us vs : Terms) → Open (compares ts us) → Open (compares ts vs) → Open (compares us vs)
      → Open (compares (meets ts us) vs)
  meets_open nil us vs tu tv uv = tv
  meets_open (cons t ts) nil vs tu tv uv = tv
  meets_open (cons t ts) (cons u us) nil tu tv uv = tv
  meets_open (cons t ts) (cons u us) (cons v vs) tu tv uv =
      let x = and_open (compare t u) (compares ts us) tu in
      let y = and_open (compare t v) (compares ts vs) tv in
      let z = and_open (compare u v) (compares us vs) uv in
      open_and (compare (meet t u) v) (compares (meets ts us) vs) (meet_open t u v x.0 y.0 z.0)
      (meets_open ts us vs x.1 y.1 z.1)

-- The meet of two rows is as long as the first.
pub meets_count : (ts us : Terms) → count (meets ts us) ≡ count ts
meets_count nil us = refl
meets_count (cons t ts) nil = refl
meets_count (cons t ts) (cons u us) = ap suc (meets_count ts us)

mutual
  -- The meet of well-formed terms that do not differ is well-formed: two spans that do not differ have a number in common,
  pub meet_well_formed : (t u : Term) → WellFormed t → WellFormed u → Open (compare t u) → WellFormed (meet t u)
  meet_well_formed unknown u okt oku p = oku
  meet_well_formed never u okt oku p = okt
  meet_well_formed (symbol a) u okt oku p = okt
  meet_well_formed (numbers a b) unknown okt oku p = okt
  meet_well_formed (numbers a b) never okt oku p = okt
  meet_well_formed (numbers a b) (symbol c) okt oku p = okt
  meet_well_formed (numbers a b) (numbers c d) okt oku p =
      let x = (spans_open a b c d).0 p in (
        omega (arith, x.0, x.1, okt.0, oku.0),
        omega (arith, okt.1),
        elim okt.2 [
          | inl e ↦ inl (omega (arith, x.0, x.1))
          | inr w ↦ inr (omega arith)
        ],
      )
  meet_well_formed (numbers a b) (compound c us) okt oku p = okt
  meet_well_formed (compound a ts) unknown okt oku p = okt
  meet_well_formed (compound a ts) never okt oku p = okt
  meet_well_formed (compound a ts) (symbol b) okt oku p = okt
  meet_well_formed (compound a ts) (numbers b c) okt oku p = okt
  meet_well_formed (compound a ts) (compound b us) okt oku p =
      let e = meets_count ts us in
      let x = and_open (known (eqb a b)) (compares ts us) p in
      (okt.0, omega (arith, okt.1), omega (arith, okt.2), meets_well_formed ts us okt.3 oku.3 x.1)

  -- and so for rows of terms.
  pub meets_well_formed
      : (ts us : Terms) → WellFormeds ts → WellFormeds us → Open (compares ts us) → WellFormeds (meets ts us)
  meets_well_formed nil us okt oku p = tt
  meets_well_formed (cons t ts) nil okt oku p = okt
  meets_well_formed (cons t ts) (cons u us) okt oku p =
      let x = and_open (compare t u) (compares ts us) p in
      (meet_well_formed t u okt.0 oku.0 x.0, meets_well_formed ts us okt.1 oku.1 x.1)

-- A range that is ruled out by neither of two terms that do not differ is not ruled out by their meet.
meet_number
    : (l h : ℕ) (t u : Term) → WellFormed t → WellFormed u → Open (compare t u) → Open (fits (a_number l h) t)
    → Open (fits (a_number l h) u) → Open (fits (a_number l h) (meet t u))
meet_number l h unknown u okt oku p x y = y
meet_number l h never u okt oku p x y = x
meet_number l h (symbol a) u okt oku p x y = x
meet_number l h (numbers a b) unknown okt oku p x y = x
meet_number l h (numbers a b) never okt oku p x y = absurd y
meet_number l h (numbers a b) (symbol c) okt oku p x y = absurd y
meet_number l h (numbers a b) (numbers c d) okt oku p x y =
    let first = (range_open_at l h a b okt.0).0 x in
    let second = (range_open_at l h c d oku.0).0 y in
    let ordered = (meet_well_formed (numbers a b) (numbers c d) okt oku p).0 in
    (range_open_at l h (max a c) (min b d) ordered).1 (omega (arith, first.0, second.0), omega (arith, first.1, second.1))
meet_number l h (numbers a b) (compound c us) okt oku p x y = absurd y
meet_number l h (compound a ts) u okt oku p x y = absurd x

-- The meet of t with each of a list.
abbrev pub meet_all : Term → List Term → Term
meet_all t [] = t
meet_all t (u ∷ us) = meet_all (meet t u) us

-- t differs from none of the list; and no two of a list differ.
abbrev pub OpenTo : Term → List Term → Type 0
OpenTo t us = All (λ (u : Term). Open (compare t u)) us

abbrev pub Pairwise : List Term → Type 0
Pairwise [] = Unit
Pairwise (t ∷ ts) = OpenTo t ts × Pairwise ts

-- The meet of two terms that differ from none of a list, nor from one another, differs from none of the list.
meet_open_to : (t u : Term) (vs : List Term) → Open (compare t u) → OpenTo t vs → OpenTo u vs → OpenTo (meet t u) vs
meet_open_to t u [] p ts us = tt
meet_open_to t u (v ∷ vs) p ts us = (meet_open t u v p ts.0 us.0, meet_open_to t u vs p ts.1 us.1)

-- A filling of the meet of terms of which no two differ fills each of them.
pub meet_all_fills
    : (t : Term) (us : List Term) {g : Term} → WellFormed t → All WellFormed us → OpenTo t us → Pairwise us
    → Fills (meet_all t us) g → Fills t g × All (λ (u : Term). Fills u g) us
meet_all_fills t [] okt oku p pairs f = (f, tt)
meet_all_fills t (u ∷ us) okt oku p pairs f =
    let others = meet_open_to t u us p.0 p.1 pairs.0 in
    let x = meet_all_fills (meet t u) us (meet_well_formed t u okt oku.0 p.0) oku.1 others pairs.1 f in
    let y = meet_fills t u okt oku.0 p.0 x.0 in
    (y.0, (y.1, x.1))

-- The meet of well-formed terms of which no two differ is well-formed.
pub meet_all_well_formed
    : (t : Term) (us : List Term) → WellFormed t → All WellFormed us → OpenTo t us → Pairwise us → WellFormed (meet_all t us)
meet_all_well_formed t [] okt oku p pairs = okt
meet_all_well_formed t (u ∷ us) okt oku p pairs =
    meet_all_well_formed (meet t u) us (meet_well_formed t u okt oku.0 p.0) oku.1
    (meet_open_to t u us p.0 p.1 pairs.0) pairs.1

-- A range that none of the terms rules out is not ruled out by their meet.
pub meet_all_number
    : (l h : ℕ) (t : Term) (us : List Term) → WellFormed t → All WellFormed us → OpenTo t us → Pairwise us
    → Open (fits (a_number l h) t) → All (λ (u : Term). Open (fits (a_number l h) u)) us
    → Open (fits (a_number l h) (meet_all t us))
meet_all_number l h t [] okt oku p pairs x y = x
meet_all_number l h t (u ∷ us) okt oku p pairs x y =
    meet_all_number l h (meet t u) us (meet_well_formed t u okt oku.0 p.0) oku.1
    (meet_open_to t u us p.0 p.1 pairs.0) pairs.1 (meet_number l h t u okt oku.0 p.0 x y.0) y.1
