-- What document 01, and document 02's requests 4 and 6, say of two terms, sentence by sentence; `compare` says exactly this.
use Prim.Native.Nat.{ℕ, zero, suc, ◌<◌}
use mathlib.Core.Path.{◌≡◌, refl, ap, subst}
use mathlib.Core.Logic.{◌↔◌, ◌⊎◌, inl, inr}
use lib.Dec.{T, eqb}
use native.Mathlib.Omega.{arith}
use Rattle.basics.proofs.Clash.{clash}
use Rattle.terms.specs.Term.{Term, Terms, count, unknown, never, symbol, numbers, compound, nil, cons}
use Rattle.terms.specs.Lookup.{found}
use Rattle.terms.specs.Outcome.{Holds, NotKnown, Contradicted, known, holds_never, hold_never, compare, compares}
use Rattle.terms.specs.Filling.{Known, Knowns}
use Rattle.terms.proofs.Outcomes.{holds_contradicted, and_holds, holds_and, and_contradicted, contradicted_left, contradicted_right}
use Rattle.terms.proofs.KnownTests.{numbers_equal, equal_numbers, numbers_differ, differ_numbers, neither}
use Rattle.terms.proofs.Spans.{spans_differ, spans_equal}
use Rattle.terms.proofs.Arguments.{argument_of}
use Rattle.terms.proofs.Never.{Ordinary, Ordinaries, ordinary_first, ordinary_others, never_left, never_right}
use Rattle.terms.proofs.Never.{never_beside, beside_holds}

-- "Two terms are equal when they are the same and hold no unknown", "and a span of several numbers makes a comparison otherwise
-- not known"; and record 35 "differs from every term, itself .. included".
abbrev pub TermsEqual : Term → Term → Type 0
TermsEqual t u = (t ≡ u) × Known t × Ordinary t

-- "Compounds differ when id or arity differ or when some pair of their arguments in turn differs; two symbols or two
-- numbers differ when they are not the same; a symbol, a number and a compound differ from one another." "Spans with no common
-- number differ", one of them ending before the other begins, and "a span differs from every symbol and compound as a number
-- does". "A term that is or holds" record 35 "differs from every term, itself and unknowns included."
pub data TermsDiffer : Term → Term → Type 0 where
  ids : {a b : ℕ} {ts us : Terms} → (a ≡ b → ⊥) → TermsDiffer (compound a ts) (compound b us)
  arities : {a b : ℕ} {ts us : Terms} → (count ts ≡ count us → ⊥) → TermsDiffer (compound a ts) (compound b us)
  arguments
      : {a b : ℕ} {ts us : Terms} (j : ℕ) {t u : Term} → argument_of ts j ≡ found t → argument_of us j ≡ found u → TermsDiffer t u
      → TermsDiffer (compound a ts) (compound b us)
  symbols : {a b : ℕ} → (a ≡ b → ⊥) → TermsDiffer (symbol a) (symbol b)
  spans : {a b c d : ℕ} → (b < c) ⊎ (d < a) → TermsDiffer (numbers a b) (numbers c d)
  symbol_number : {a b c : ℕ} → TermsDiffer (symbol a) (numbers b c)
  symbol_compound : {a b : ℕ} {us : Terms} → TermsDiffer (symbol a) (compound b us)
  number_symbol : {a b c : ℕ} → TermsDiffer (numbers a b) (symbol c)
  number_compound : {a b c : ℕ} {us : Terms} → TermsDiffer (numbers a b) (compound c us)
  compound_symbol : {a b : ℕ} {ts : Terms} → TermsDiffer (compound a ts) (symbol b)
  compound_number : {a b c : ℕ} {ts : Terms} → TermsDiffer (compound a ts) (numbers b c)
  never_first : {t u : Term} → T (holds_never t) → TermsDiffer t u
  never_second : {t u : Term} → T (holds_never u) → TermsDiffer t u

mutual
  -- Where `compare` holds, the terms are the same and nothing in them is left to fill in,
  holds_same : (t u : Term) → Holds (compare t u) → (t ≡ u) × Known t
  holds_same unknown u h = absurd (beside_holds (holds_never u) h)
  holds_same never u h = absurd h
  holds_same (symbol a) unknown h = absurd h
  holds_same (symbol a) never h = absurd h
  holds_same (symbol a) (symbol b) h = (ap symbol (numbers_equal a b h), tt)
  holds_same (symbol a) (numbers b c) h = absurd h
  holds_same (symbol a) (compound b us) h = absurd h
  holds_same (numbers a b) unknown h = absurd h
  holds_same (numbers a b) never h = absurd h
  holds_same (numbers a b) (symbol c) h = absurd h
  holds_same (numbers a b) (numbers c d) h =
      let x = (spans_equal a b c d).0 h in
      let low : a ≡ c = x.2 in
      let high : b ≡ d = omega (arith, x.0, x.1, x.2) in
      (λ i. numbers (low i) (high i), x.0)
  holds_same (numbers a b) (compound c us) h = absurd h
  holds_same (compound a ts) unknown h = absurd (beside_holds (hold_never ts) h)
  holds_same (compound a ts) never h = absurd h
  holds_same (compound a ts) (symbol b) h = absurd h
  holds_same (compound a ts) (numbers b c) h = absurd h
  holds_same (compound a ts) (compound b us) h =
      let x = and_holds (known (eqb a b)) (compares ts us) h in
      let d = numbers_equal a b x.0 in
      let e = holds_sames ts us x.1 in
      (λ i. compound (d i) (e.0 i), e.1)

  holds_sames : (ts us : Terms) → Holds (compares ts us) → (ts ≡ us) × Knowns ts
  holds_sames nil nil h = (refl, tt)
  holds_sames nil (cons u us) h = absurd h
  holds_sames (cons t ts) nil h = absurd h
  holds_sames (cons t ts) (cons u us) h =
      let x = and_holds (compare t u) (compares ts us) h in
      let d = holds_same t u x.0 in
      let e = holds_sames ts us x.1 in
      (λ i. cons (d.0 i) (e.0 i), (d.1, e.1))

-- and neither of them is or holds record 35;
pub holds_equal : (t u : Term) → Holds (compare t u) → TermsEqual t u
holds_equal t u h =
    let x = holds_same t u h in
    (x.0, x.1, λ n. holds_contradicted (compare t u) h (never_left t u n))

mutual
  -- and such a term is equal to itself.
  pub same_holds : (t : Term) → Known t → Ordinary t → Holds (compare t t)
  same_holds unknown h w = absurd h
  same_holds never h w = w tt
  same_holds (symbol a) h w = equal_numbers a a refl
  same_holds (numbers a b) h w = (spans_equal a b a b).1 (h, h, refl)
  same_holds (compound a ts) h w =
      holds_and (known (eqb a a)) (compares ts ts) (equal_numbers a a refl) (all_same_hold ts h w)

  all_same_hold : (ts : Terms) → Knowns ts → Ordinaries ts → Holds (compares ts ts)
  all_same_hold nil h w = tt
  all_same_hold (cons t ts) h w =
      holds_and (compare t t) (compares ts ts) (same_holds t h.0 (ordinary_first t ts w))
      (all_same_hold ts h.1 (ordinary_others t ts w))

equal_holds : (t u : Term) → TermsEqual t u → Holds (compare t u)
equal_holds t u e = subst (λ (x : Term). Holds (compare t x)) e.0 (same_holds t e.1 e.2)

-- The arguments of two rows differ: there are not as many, or some pair differs.
data RowsDiffer : Terms → Terms → Type 0 where
  counts : {ts us : Terms} → (count ts ≡ count us → ⊥) → RowsDiffer ts us
  pair
      : {ts us : Terms} (j : ℕ) {t u : Term} → argument_of ts j ≡ found t → argument_of us j ≡ found u → TermsDiffer t u
      → RowsDiffer ts us

-- Rows differ where those after their first terms do.
later_differ : (t u : Term) (ts us : Terms) → RowsDiffer ts us → RowsDiffer (cons t ts) (cons u us)
later_differ t u ts us (counts n) = counts {ts = cons t ts} {us = cons u us} (λ e. n (omega (arith, e)))
later_differ t u nil us (pair j d e x) = clash (cc)
later_differ t u (cons v ts) us (pair zero d e x) = clash (cc)
later_differ t u (cons v ts) nil (pair (suc j) d e x) = clash (cc)
later_differ t u (cons v ts) (cons w us) (pair (suc j) d e x) = pair (suc (suc j)) d e x

mutual
  -- Where `compare` is contradicted, the terms differ,
  contradicted_differ : (t u : Term) → Contradicted (compare t u) → TermsDiffer t u
  contradicted_differ unknown u c = never_second (never_beside (holds_never u) c)
  contradicted_differ never u c = never_first tt
  contradicted_differ (symbol a) unknown c = absurd c
  contradicted_differ (symbol a) never c = never_second tt
  contradicted_differ (symbol a) (symbol b) c = symbols (numbers_differ a b c)
  contradicted_differ (symbol a) (numbers b d) c = symbol_number
  contradicted_differ (symbol a) (compound b us) c = symbol_compound
  contradicted_differ (numbers a b) unknown c = absurd c
  contradicted_differ (numbers a b) never c = never_second tt
  contradicted_differ (numbers a b) (symbol d) c = number_symbol
  contradicted_differ (numbers a b) (numbers d e) c = spans ((spans_differ a b d e).0 c)
  contradicted_differ (numbers a b) (compound d us) c = number_compound
  contradicted_differ (compound a ts) unknown c = never_first (never_beside (hold_never ts) c)
  contradicted_differ (compound a ts) never c = never_second tt
  contradicted_differ (compound a ts) (symbol b) c = compound_symbol
  contradicted_differ (compound a ts) (numbers b d) c = compound_number
  contradicted_differ (compound a ts) (compound b us) c =
      elim (and_contradicted (known (eqb a b)) (compares ts us) c) [
        | inl k ↦ ids (numbers_differ a b k)
        | inr k ↦
            elim (contradicted_rows ts us k) [
              | counts n ↦ arities n
              | pair j d e x ↦ arguments j d e x
            ]
      ]

  contradicted_rows : (ts us : Terms) → Contradicted (compares ts us) → RowsDiffer ts us
  contradicted_rows nil nil c = absurd c
  contradicted_rows nil (cons u us) c = counts {ts = nil} {us = cons u us} (λ e. omega (arith, e))
  contradicted_rows (cons t ts) nil c = counts {ts = cons t ts} {us = nil} (λ e. omega (arith, e))
  contradicted_rows (cons t ts) (cons u us) c =
      elim (and_contradicted (compare t u) (compares ts us) c) [
        | inl k ↦ pair 1 refl refl (contradicted_differ t u k)
        | inr k ↦ later_differ t u ts us (contradicted_rows ts us k)
      ]

-- Rows of another number of terms are contradicted,
counts_contradicted : (ts us : Terms) → (count ts ≡ count us → ⊥) → Contradicted (compares ts us)
counts_contradicted nil nil n = absurd (n refl)
counts_contradicted nil (cons u us) n = tt
counts_contradicted (cons t ts) nil n = tt
counts_contradicted (cons t ts) (cons u us) n =
    contradicted_right (compare t u) (compares ts us) (counts_contradicted ts us (λ e. n (ap suc e)))

-- and so are rows in which a pair is.
pair_contradicted
    : (ts us : Terms) (j : ℕ) {t u : Term} → argument_of ts j ≡ found t → argument_of us j ≡ found u
    → Contradicted (compare t u) → Contradicted (compares ts us)
pair_contradicted nil us j d e c = clash (cc)
pair_contradicted (cons v ts) nil j d e c = clash (cc)
pair_contradicted (cons v ts) (cons w us) zero d e c = clash (cc)
pair_contradicted (cons v ts) (cons w us) (suc zero) {t} {u} d e c =
    let left : v ≡ t = cc in
    let right : w ≡ u = cc in
    contradicted_left (compare v w) (compares ts us) (rw (left, right) c)
pair_contradicted (cons v ts) (cons w us) (suc (suc j)) d e c =
    contradicted_right (compare v w) (compares ts us) (pair_contradicted ts us (suc j) d e c)

-- and where terms differ it is.
differ_contradicted : {t u : Term} → TermsDiffer t u → Contradicted (compare t u)
differ_contradicted (ids {a} {b} {ts} {us} n) = contradicted_left (known (eqb a b)) (compares ts us) (differ_numbers a b n)
differ_contradicted (arities {a} {b} {ts} {us} n) =
    contradicted_right (known (eqb a b)) (compares ts us) (counts_contradicted ts us n)
differ_contradicted (arguments {a} {b} {ts} {us} j d e x) =
    contradicted_right (known (eqb a b)) (compares ts us) (pair_contradicted ts us j d e (differ_contradicted x))
differ_contradicted (symbols {a} {b} n) = differ_numbers a b n
differ_contradicted (spans {a} {b} {c} {d} n) = (spans_differ a b c d).1 n
differ_contradicted symbol_number = tt
differ_contradicted symbol_compound = tt
differ_contradicted number_symbol = tt
differ_contradicted number_compound = tt
differ_contradicted compound_symbol = tt
differ_contradicted compound_number = tt
differ_contradicted (never_first {t} {u} n) = never_left t u n
differ_contradicted (never_second {t} {u} n) = never_right t u n

-- The sentences on two terms: `compare` holds exactly when they are equal, is contradicted exactly when they
-- differ, and "anything else is not known".
pub record Compared (t u : Term) : Type 0 where
  pub when_holds : Holds (compare t u) ↔ TermsEqual t u
  pub when_contradicted : Contradicted (compare t u) ↔ TermsDiffer t u
  pub when_not_known : NotKnown (compare t u) ↔ ((TermsEqual t u → ⊥) × (TermsDiffer t u → ⊥))

pub compared : (t u : Term) → Compared t u
compared t u =
    let equal : Holds (compare t u) ↔ TermsEqual t u = (holds_equal t u, equal_holds t u) in
    let differ : Contradicted (compare t u) ↔ TermsDiffer t u = (contradicted_differ t u, λ x. differ_contradicted x) in
    let else = neither (compare t u) in
    record {
      when_holds = equal;
      when_contradicted = differ;
      when_not_known = (
        λ n. let x = else.0 n in (λ e. x.0 (equal.1 e), λ d. x.1 (differ.1 d)),
        λ x. else.1 (λ h. x.0 (equal.0 h), λ c. x.1 (differ.0 c)),
      );
    }
