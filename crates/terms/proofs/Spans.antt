-- What a range says of a span, and what two spans say of one another (document 02, request 4), in words of order and of the
-- numbers that they have. A span from a to b has a number: a is at most b.
use Prim.Native.Nat.{ℕ, ◌≤◌, ◌<◌, max}
use mathlib.Core.Path.{◌≡◌, refl, sym}
use mathlib.Core.Bool.{Bool, true, false, ◌&&◌, ◌||◌, cond}
use mathlib.Core.Logic.{◌↔◌, ◌⊎◌, inl, inr}
use native.Mathlib.Omega.{arith}
use lib.Dec.{T, leb, ltb, eqb, ltb→lt, lt→ltb, eqb→eq}
use borrow.Author.Tests.{leb-true, leb-false, lt-ltb, le-ltb, eq-eqb, ne_eqb}
use Rattle.basics.proofs.Booleans.{both_true, true_both, either_true, true_left, true_right, cond_by}
use Rattle.basics.proofs.Numbers.{le_or_lt, both_le, eq_true}
use Rattle.terms.specs.Outcome.{Outcome, holds, not_known, contradicted, Holds, NotKnown, Contradicted, known}
use Rattle.terms.specs.Outcome.{inside, compare_spans}
use Rattle.terms.proofs.Outcomes.{Open, Stays, not_known_open}
use Rattle.terms.proofs.KnownTests.{neither}

-- A number of the span.
abbrev pub Within : ℕ → ℕ → ℕ → Type 0
Within a b v = (a ≤ v) × (v ≤ b)

-- One of two comparisons is true exactly when one holds.
one_lt : (a b c d : ℕ) → T (ltb a b || ltb c d) ↔ ((a < b) ⊎ (c < d))
one_lt a b c d = (
  λ h. elim (either_true (ltb a b) (ltb c d) h) [ inl t ↦ inl (ltb→lt a b t) | inr t ↦ inr (ltb→lt c d t) ],
  λ d'. elim d' [
    | inl t ↦ true_left (ltb a b) (ltb c d) (lt→ltb a b t)
    | inr t ↦ true_right (ltb a b) (ltb c d) (lt→ltb c d t)
  ],
)

-- Where neither of two holds the other way round holds.
none_lt : (a b c d : ℕ) → (T (ltb a b || ltb c d) → ⊥) → (b ≤ a) × (d ≤ c)
none_lt a b c d f = (
  elim (le_or_lt b a) [ inl p ↦ p | inr p ↦ absurd (f ((one_lt a b c d).1 (inl p))) ],
  elim (le_or_lt d c) [ inl p ↦ p | inr p ↦ absurd (f ((one_lt a b c d).1 (inr p))) ],
)

-- A choice of three outcomes by two tests, the second where the first is not true.
by_two
    : (Q : Outcome → Type 0) (x y : Bool) {p q r : Outcome} → (T x → Q p) → ((T x → ⊥) → T y → Q q)
    → ((T x → ⊥) → (T y → ⊥) → Q r) → Q (cond x p (cond y q r))
by_two Q x y f g k = cond_by Q x f (λ n. cond_by Q y (g n) (k n))

module _ (l h a b : ℕ) where
  abbrev within : Bool
  within = leb l a && leb b h

  abbrev outside : Bool
  outside = ltb b l || ltb h a

  -- "Holds at a span wholly inside it",
  pub range_holds_at : Holds (inside l h a b) ↔ ((l ≤ a) × (b ≤ h))
  range_holds_at = (
    by_two (λ x. Holds x → (l ≤ a) × (b ≤ h)) within outside (λ t k. (both_le l a b h).0 t) (λ n t k. absurd k)
        (λ n m k. absurd k),
    λ s. by_two Holds within outside (λ t. tt) (λ n t. n ((both_le l a b h).1 s)) (λ n m. n ((both_le l a b h).1 s)),
  )

  -- "else is not known", neither wholly inside nor wholly outside,
  pub range_not_known : NotKnown (inside l h a b) ↔ (((l ≤ a) × (b ≤ h) → ⊥) × ((b < l) ⊎ (h < a) → ⊥))
  range_not_known = (
    by_two (λ x. NotKnown x → ((l ≤ a) × (b ≤ h) → ⊥) × ((b < l) ⊎ (h < a) → ⊥)) within outside (λ t k. absurd k)
        (λ n t k. absurd k) (λ n m k. (λ s. n ((both_le l a b h).1 s), λ s. m ((one_lt b l h a).1 s))),
    λ s. by_two NotKnown within outside (λ t. s.0 ((both_le l a b h).0 t)) (λ n t. s.1 ((one_lt b l h a).0 t)) (λ n m. tt),
  )

  -- and then an end of the span lies outside the range.
  pub range_not_known_at : NotKnown (inside l h a b) → (a < l) ⊎ (h < b)
  range_not_known_at n =
      elim (le_or_lt l a) [
        | inr p ↦ inl p
        | inl p ↦ elim (le_or_lt b h) [ inr q ↦ inr q | inl q ↦ absurd ((range_not_known.0 n).0 (p, q)) ]
      ]

  module _ (o : a ≤ b) where
    -- It "is contradicted at one wholly outside",
    pub range_contradicted_at : Contradicted (inside l h a b) ↔ ((b < l) ⊎ (h < a))
    range_contradicted_at = (
      by_two (λ x. Contradicted x → (b < l) ⊎ (h < a)) within outside (λ t k. absurd k) (λ n t k. (one_lt b l h a).0 t)
          (λ n m k. absurd k),
      λ s. by_two Contradicted within outside
          (λ t. let w = (both_le l a b h).0 t in elim s [ inl p ↦ omega (arith, w.0) | inr p ↦ omega (arith, w.1) ])
          (λ n t. tt) (λ n m. m ((one_lt b l h a).1 s)),
    )

    -- and is open at one with which it has a number in common.
    pub range_open_at : Open (inside l h a b) ↔ ((l ≤ b) × (a ≤ h))
    range_open_at = (
      by_two (λ x. Open x → (l ≤ b) × (a ≤ h)) within outside
          (λ t k. let w = (both_le l a b h).0 t in (omega (arith, w.0), omega (arith, w.1))) (λ n t k. absurd k)
          (λ n m k. none_lt b l h a m),
      λ s. by_two Open within outside (λ t. tt)
          (λ n t. elim ((one_lt b l h a).0 t) [ inl p ↦ omega (arith, s.0) | inr p ↦ omega (arith, s.1) ])
          (λ n m. tt),
    )

    -- So a test holds where every number of the span is in the range,
    pub holds_for_all : Holds (inside l h a b) ↔ ((v : ℕ) → Within a b v → Within l h v)
    holds_for_all = (
      λ t v s. let w = range_holds_at.0 t in (omega (arith, w.0, s.0), omega (arith, w.1, s.1)),
      λ f. range_holds_at.1 ((f a (omega arith, o)).0, (f b (o, omega arith)).1),
    )

    -- is contradicted where none is, if the range has a number,
    pub contradicted_for_all
        : l ≤ h → Contradicted (inside l h a b) ↔ ((v : ℕ) → Within a b v → Within l h v → ⊥)
    contradicted_for_all p = (
      λ t v s r. elim (range_contradicted_at.0 t)
          [ inl q ↦ omega (arith, s.1, r.0) | inr q ↦ omega (arith, s.0, r.1) ],
      λ f. range_contradicted_at.1
          (elim (le_or_lt l b) [
            | inr q ↦ inl q
            | inl q ↦ elim (le_or_lt a h) [
              | inr r ↦ inr r
              | inl r ↦ absurd (f (max l a) (omega arith, omega arith) (omega arith, omega arith))
            ]
          ]),
    )

  -- A span of one number is that number.
  pub inside_number : a ≡ b → inside l h a b ≡ known (leb l a && leb a h)
  inside_number e = rw (sym e) (at_number a)
    where
      at_number : (v : ℕ) → inside l h v v ≡ known (leb l v && leb v h)
      at_number v = go (leb l v) refl (leb v h) refl
        where
          go
              : (x : Bool) → leb l v ≡ x → (y : Bool) → leb v h ≡ y
              → cond (x && y) holds (cond (ltb v l || ltb h v) contradicted not_known) ≡ known (x && y)
          go true p true q = refl
          go true p false q = rw (le-ltb v l (leb-true l v p), lt-ltb h v (leb-false v h q))
          go false p y q = rw (lt-ltb v l (leb-false l v p))

-- A range says the same of a narrower span, if it says anything.
pub inside_stays : (l h a b c d : ℕ) → a ≤ c → c ≤ d → d ≤ b → Stays (inside l h a b) (inside l h c d)
inside_stays l h a b c d p q r =
    by_two (λ x. Stays x (inside l h c d)) (leb l a && leb b h) (ltb b l || ltb h a)
    (λ t. let w = (both_le l a b h).0 t in (range_holds_at l h c d).1 (omega (arith, w.0), omega (arith, w.1)))
    (λ n t.
    (range_contradicted_at l h c d q).1
    (elim ((one_lt b l h a).0 t) [ inl s ↦ inl (omega arith) | inr s ↦ inr (omega arith) ]))
    (λ n m. tt)

module _ (a b c d : ℕ) where
  abbrev apart : Bool
  apart = ltb b c || ltb d a

  abbrev single : Bool
  single = eqb a b && eqb c d

  is_single : T single ↔ ((a ≡ b) × (c ≡ d))
  is_single = (
    λ t. let s = both_true (eqb a b) (eqb c d) t in (eqb→eq a b s.0, eqb→eq c d s.1),
    λ s. true_both (eqb a b) (eqb c d) (eq_true a b s.0) (eq_true c d s.1),
  )

  -- "Spans with no common number differ",
  pub spans_differ : Contradicted (compare_spans a b c d) ↔ ((b < c) ⊎ (d < a))
  spans_differ = (
    by_two (λ x. Contradicted x → (b < c) ⊎ (d < a)) apart single (λ t k. (one_lt b c d a).0 t) (λ n t k. absurd k)
        (λ n m k. absurd k),
    λ s. by_two Contradicted apart single (λ t. tt) (λ n t. n ((one_lt b c d a).1 s)) (λ n m. n ((one_lt b c d a).1 s)),
  )

  -- others may be equal,
  pub spans_open : Open (compare_spans a b c d) ↔ ((c ≤ b) × (a ≤ d))
  spans_open = (
    by_two (λ x. Open x → (c ≤ b) × (a ≤ d)) apart single (λ t k. absurd k) (λ n t k. none_lt b c d a n)
        (λ n m k. none_lt b c d a n),
    λ s. by_two Open apart single
        (λ t. elim ((one_lt b c d a).0 t) [ inl p ↦ omega (arith, s.0) | inr p ↦ omega (arith, s.1) ])
        (λ n t. tt) (λ n m. tt),
  )

  -- and are equal where both are one number, and the same.
  pub spans_equal : Holds (compare_spans a b c d) ↔ ((a ≡ b) × (c ≡ d) × (a ≡ c))
  spans_equal = (
    by_two (λ x. Holds x → (a ≡ b) × (c ≡ d) × (a ≡ c)) apart single (λ t k. absurd k)
        (λ n t k.
        let s = is_single.0 t in
        let m = none_lt b c d a n in
        (s.0, s.1, omega (arith, s.0, s.1, m.0, m.1)))
        (λ n m k. absurd k),
    λ s. by_two Holds apart single
        (λ t. elim ((one_lt b c d a).0 t)
        [ inl p ↦ omega (arith, s.0, s.1, s.2) | inr p ↦ omega (arith, s.0, s.1, s.2) ])
        (λ n t. tt) (λ n m. m (is_single.1 (s.0, s.1))),
  )

  -- "A span of several numbers makes a comparison otherwise not known."
  pub spans_not_known : a ≤ b → c ≤ d → NotKnown (compare_spans a b c d) → (a < b) ⊎ (c < d)
  spans_not_known o p n =
      let meet = spans_open.0 (not_known_open (compare_spans a b c d) n) in
      let no-holds = ((neither (compare_spans a b c d)).0 n).0 in
      elim (le_or_lt b a) [
        | inr q ↦ inl q
        | inl q ↦ elim (le_or_lt d c) [
          | inr r ↦ inr r
          | inl r ↦ (let first : a ≡ b = omega arith in
              let second : c ≡ d = omega arith in
              absurd (no-holds (spans_equal.1 (first, second, omega (arith, meet.0, meet.1)))))
        ]
      ]

  -- Spans that may be equal have a number in common.
  pub spans_common
      : a ≤ b → c ≤ d → Open (compare_spans a b c d) → Within a b (max a c) × Within c d (max a c)
  spans_common o p t =
      let s = spans_open.0 t in
      ((omega arith, omega (arith, s.0)), (omega arith, omega (arith, s.1)))

-- Spans of one number each compare as these numbers do.
pub spans_numbers : (a b c d : ℕ) → a ≡ b → c ≡ d → compare_spans a b c d ≡ known (eqb a c)
spans_numbers a b c d e f = rw (← e, ← f) (at_numbers a c)
  where
    at_numbers : (a c : ℕ) → compare_spans a a c c ≡ known (eqb a c)
    at_numbers a c =
        elim (le_or_lt c a) [
          | inr p ↦ (rw (lt-ltb a c p, ne_eqb a c (λ e. omega arith)))
          | inl p ↦ elim (le_or_lt a c) [
            | inr q ↦ (rw (le-ltb a c p, lt-ltb c a q, ne_eqb a c (λ e. omega arith)))
            | inl q ↦ (let e : a ≡ c = omega arith in
                rw (le-ltb a c p, le-ltb c a q, eq-eqb a a refl, eq-eqb c c refl, eq-eqb a c e))
          ]
        ]

-- What two spans say stays when both are narrowed.
pub spans_stay
    : (a b c d e f g h : ℕ) → a ≤ e → e ≤ f → f ≤ b → c ≤ g → g ≤ h → h ≤ d
    → Stays (compare_spans a b c d) (compare_spans e f g h)
spans_stay a b c d e f g h p q r s t u =
    by_two (λ x. Stays x (compare_spans e f g h)) (ltb b c || ltb d a) (eqb a b && eqb c d)
    (λ k. (spans_differ e f g h).1 (elim ((one_lt b c d a).0 k) [ inl z ↦ inl (omega arith) | inr z ↦ inr (omega arith) ]))
    (λ n k.
    let same = (is_single a b c d).0 k in
    let meet = none_lt b c d a n in
    (spans_equal e f g h).1
    (omega (arith, same.0), omega (arith, same.1), omega (arith, same.0, same.1, meet.0, meet.1)))
    (λ n m. tt)
