-- The cuts of a sheet's rules at a place ascend, are few, and have codes that a switch can be cut at; which rules turn at one of
-- them.
use Prim.Native.Nat.{ℕ, zero, suc, ◌*◌, ◌^◌, ◌<◌, ◌≤◌}
use mathlib.Core.Path.{◌≡◌, refl, sym, ap, ◌∙◌}
use mathlib.Core.Bool.{Bool, true, false, ◌&&◌, false≢true}
use mathlib.Core.List.{List, [], ◌∷◌}
use mathlib.Core.Option.{Option, some, none}
use native.Mathlib.Omega.{arith}
use lib.Dec.{eqb, ltb}
use lib.ListN.{length}
use borrow.Author.Tests.{eq-eqb, ne_eqb, ltb-true}
use Rattle.basics.specs.Lists.{Mem, here, there, All}
use Rattle.basics.proofs.Booleans.{by_test, and_both}
use Rattle.basics.proofs.ListLaws.{all_at, all_map}
use Rattle.basics.proofs.Sorted.{AscendingBy}
use Rattle.masks.specs.Mask.{has}
use Rattle.terms.specs.Pattern.{Patterns}
use Rattle.terms.specs.RuleTests.{Want, a_symbol, a_number, a_compound}
use Rattle.decision.specs.Rules.{want_at}
use Rattle.codes.specs.views.Codes.{want_low, want_high, SoundWant}
use Rattle.cuts.specs.views.Cuts.{Cut, toggle}
use Rattle.cuts.specs.views.CutsOf.{turn_rule, cuts_to}
use Rattle.cuts.proofs.Parity.{apart, apart_false, parity}

abbrev pub CutBefore : Cut → Cut → Type 0
CutBefore x y = x.code < y.code

module _ (code bit : ℕ) where
  -- What holds of the codes of some cuts, and of one more, holds of all of them.
  toggle_all : (Q : ℕ → Type 0) (xs : List Cut) → Q code → All (λ (x : Cut). Q x.code) xs
      → All (λ (x : Cut). Q x.code) (toggle code bit xs)
  toggle_all Q [] q h = (q, tt)
  toggle_all Q (x ∷ xs) q h =
      by_test (ltb x.code code) (λ y. rw y (h.0, toggle_all Q xs q h.1))
      (λ y. rw y (by_test (ltb code x.code) (λ z. rw z (q, h)) (λ z. rw z h)))

  -- They ascend with it,
  toggle_ascends : (xs : List Cut) → AscendingBy CutBefore xs → AscendingBy CutBefore (toggle code bit xs)
  toggle_ascends [] a = (tt, tt)
  toggle_ascends (x ∷ xs) a =
      by_test (ltb x.code code)
      (λ y.
      rw y (toggle_all (λ (c : ℕ). x.code < c) xs (ltb-true x.code code y) a.0, toggle_ascends xs a.1))
      (λ y.
      rw y
      (by_test (ltb code x.code)
      (λ z.
      let l = ltb-true code x.code z in
      rw z
      ((l, all_map (CutBefore x) (λ (c : Cut). code < c.code) (λ c h. omega (arith, h)) xs a.0), a))
      (λ z. rw z a)))

  -- and are one more at most.
  pub toggle_length : (xs : List Cut) → length (toggle code bit xs) ≤ suc (length xs)
  toggle_length [] = omega arith
  toggle_length (x ∷ xs) =
      by_test (ltb x.code code) (λ y. rw y (omega (arith, toggle_length xs)))
      (λ y. rw y (by_test (ltb code x.code) (λ z. rw z (omega arith)) (λ z. rw z (omega arith))))

-- The codes of a sound want, and the one after them, are above 0 and below a bound.
abbrev Coded : ℕ → Type 0
Coded c = (0 < c) × (c < 0x400_0001)

want_coded : (w : Want) → SoundWant w → Coded (want_low w) × Coded (suc (want_high w))
want_coded (a_symbol l h) s = ((omega arith, omega (arith, s.0, s.1)), (omega arith, omega (arith, s.1)))
want_coded (a_number l h) s = ((omega arith, omega (arith, s.0, s.1)), (omega arith, omega (arith, s.1)))
want_coded (a_compound a n) s = ((omega arith, omega (arith, s.0, s.1)), (omega arith, omega (arith, s.0, s.1)))

module _ (rules : List Patterns) (n : ℕ) where
  pub cuts_ascend : (k : ℕ) → AscendingBy CutBefore (cuts_to rules n k)
  cuts_ascend zero = tt
  cuts_ascend (suc k) = go (want_at rules k n) (cuts_ascend k)
    where
      go : (x : Option Want) → AscendingBy CutBefore (cuts_to rules n k) → AscendingBy CutBefore (turn_rule k x (cuts_to rules n k))
      go none a = a
      go (some w) a =
          toggle_ascends (suc (want_high w)) (2 ^ k) (toggle (want_low w) (2 ^ k) (cuts_to rules n k))
          (toggle_ascends (want_low w) (2 ^ k) (cuts_to rules n k) a)

  -- A rule has two cuts at most.
  pub cuts_few : (k : ℕ) → length (cuts_to rules n k) ≤ 2 * k
  cuts_few zero = omega arith
  cuts_few (suc k) = go (want_at rules k n) (cuts_few k)
    where
      go : (x : Option Want) → length (cuts_to rules n k) ≤ 2 * k → length (turn_rule k x (cuts_to rules n k)) ≤ 2 * suc k
      go none h = omega arith
      go (some w) h =
          omega (
            arith,
            toggle_length (suc (want_high w)) (2 ^ k) (toggle (want_low w) (2 ^ k) (cuts_to rules n k)),
            toggle_length (want_low w) (2 ^ k) (cuts_to rules n k),
          )

  -- No cut is at code 0, nor far above what can be wanted.
  pub cuts_coded
      : ((i : ℕ) (w : Want) → want_at rules i n ≡ some w → SoundWant w) → (k : ℕ)
      → All (λ (x : Cut). (0 < x.code) × (x.code < 0x400_0001)) (cuts_to rules n k)
  cuts_coded sound zero = tt
  cuts_coded sound (suc k) = go (want_at rules k n) refl (cuts_coded sound k)
    where
      go : (x : Option Want) → want_at rules k n ≡ x → All (λ (y : Cut). Coded y.code) (cuts_to rules n k)
          → All (λ (y : Cut). Coded y.code) (turn_rule k x (cuts_to rules n k))
      go none e a = a
      go (some w) e a =
          let c = want_coded w (sound k w e) in
          toggle_all (suc (want_high w)) (2 ^ k) Coded (toggle (want_low w) (2 ^ k) (cuts_to rules n k)) c.1
          (toggle_all (want_low w) (2 ^ k) Coded (cuts_to rules n k) c.0 a)

module _ (i : ℕ) where
  -- At cuts none of which passes no rule turns.
  parity_none : (p : ℕ → Bool) (xs : List Cut) → All (λ (x : Cut). p x.code ≡ false) xs → parity p i xs ≡ false
  parity_none p [] h = refl
  parity_none p (x ∷ xs) h = rw h.0 (parity_none p xs h.1)

  -- At one of ascending cuts its rules turn,
  pub in_parity
      : {x : Cut} {xs : List Cut} → AscendingBy CutBefore xs → Mem x xs
      → parity (λ c. eqb c x.code) i xs ≡ has x.turns i
  in_parity {x} a (here {xs = xs}) =
      rw (
        eq-eqb x.code x.code refl,
        parity_none (λ c. eqb c x.code) xs
            (all_map (CutBefore x) (λ (y : Cut). eqb y.code x.code ≡ false)
            (λ y h. ne_eqb y.code x.code (λ e. omega (arith, h))) xs a.0),
      )
      (apart_false (has x.turns i))
  in_parity {x} a (there {y = y} {xs = xs} m) =
      let h = all_at (CutBefore y) m a.0 in
      rw (ne_eqb y.code x.code (λ e. omega (arith, h))) (in_parity a.1 m)

  -- and where a rule turns there is a cut at which it does.
  pub parity_in
      : (p : ℕ → Bool) (xs : List Cut) → parity p i xs ≡ true
      → (x : Cut) × Mem x xs × (p x.code ≡ true) × (has x.turns i ≡ true)
  parity_in p [] e = absurd (false≢true e)
  parity_in p (x ∷ xs) e =
      by_test (p x.code && has x.turns i)
      (λ y. let both = and_both (p x.code) (has x.turns i) y in (x, here, both.0, both.1))
      (λ y.
      let r = parity_in p xs (sym (ap (λ (b : Bool). apart b (parity p i xs)) y) ∙ e) in
      (r.0, there r.1, r.2, r.3))
