-- Which rules turn an odd number of times at the cuts whose codes pass a test. With the codes up to one as the test that is: which
-- rules want it; with one code: which rules turn there.
use Prim.Native.Nat.{ℕ, zero, suc, ◌/◌, ◌%◌, ◌^◌, ◌<◌}
use mathlib.Core.Path.{◌≡◌, refl, sym, ap, ◌∙◌}
use mathlib.Core.Bool.{Bool, true, false, not, ◌&&◌, and-true, and-false}
use mathlib.Core.List.{List, [], ◌∷◌}
use mathlib.Core.Logic.{by_cases}
use mathlib.Core.Option.{Option, some, none}
use native.Mathlib.Decide.{ℕ_discrete}
use native.Mathlib.Omega.{arith}
use lib.Arith.{digits_mod}
use lib.Bits.{bit_xor, differ, xor_step, xor_shr}
use lib.Dec.{eqb, ltb}
use borrow.Author.Tests.{eq-eqb, ne_eqb, lt-ltb, le-ltb, ltb-true, ltb-false}
use Rattle.basics.proofs.Booleans.{by_test}
use Rattle.masks.specs.Mask.{has}
use Rattle.masks.proofs.Membership.{has_singleton}
use Rattle.terms.specs.Pattern.{Patterns}
use Rattle.terms.specs.RuleTests.{Want}
use Rattle.decision.specs.Rules.{want_at}
use Rattle.codes.specs.views.Codes.{want_low, want_high}
use Rattle.cuts.specs.views.Cuts.{Cut, toggle}
use Rattle.cuts.specs.views.CutsOf.{turn_rule, cuts_to}

-- One of two, and not both.
abbrev pub apart : Bool → Bool → Bool
apart true b = not b
apart false b = b

pub apart_false : (a : Bool) → apart a false ≡ a
apart_false true = refl
apart_false false = refl

-- Turns may be taken in another order.
apart_swap : (a b c : Bool) → apart a (apart b c) ≡ apart b (apart a c)
apart_swap true true c = refl
apart_swap true false c = refl
apart_swap false true c = refl
apart_swap false false c = refl

apart_join : (a b c : Bool) → apart (apart a b) c ≡ apart a (apart b c)
apart_join true true true = refl
apart_join true true false = refl
apart_join true false c = refl
apart_join false b c = refl

and_apart : (p a b : Bool) → p && apart a b ≡ apart (p && b) (p && a)
and_apart true true true = refl
and_apart true true false = refl
and_apart true false true = refl
and_apart true false false = refl
and_apart false a b = refl

-- Two digits differ where one of them is 1.
digit_test : (x y : ℕ) → x < 2 → y < 2 → eqb (differ x y) 1 ≡ apart (eqb x 1) (eqb y 1)
digit_test zero zero h l = refl
digit_test zero (suc zero) h l = refl
digit_test (suc zero) zero h l = refl
digit_test (suc zero) (suc zero) h l = refl
digit_test zero (suc (suc y)) h l = absurd (omega arith)
digit_test (suc zero) (suc (suc y)) h l = absurd (omega arith)
digit_test (suc (suc x)) y h l = absurd (omega arith)

digit_small : (x y : ℕ) → x < 2 → y < 2 → differ x y < 2
digit_small zero y h l = l
digit_small (suc zero) zero h l = omega arith
digit_small (suc zero) (suc zero) h l = omega arith
digit_small (suc zero) (suc (suc y)) h l = absurd (omega arith)
digit_small (suc (suc x)) y h l = absurd (omega arith)

-- `^` is what is in one only.
pub has_xor : (a b i : ℕ) → has (bit_xor a b) i ≡ apart (has a i) (has b i)
unfolding has
has_xor a b i =
    ap (λ (x : ℕ). eqb (x % 2) 1) (xor_shr a b i)
    ∙ ap (λ (x : ℕ). eqb x 1)
    (ap (λ (x : ℕ). x % 2) (xor_step (a / 2 ^ i) (b / 2 ^ i))
    ∙ digits_mod (bit_xor (a / 2 ^ i / 2) (b / 2 ^ i / 2)) (digit_small (a / 2 ^ i % 2) (b / 2 ^ i % 2) (omega arith) (omega arith)))
    ∙ digit_test (a / 2 ^ i % 2) (b / 2 ^ i % 2) (omega arith) (omega arith)

module _ (p : ℕ → Bool) (i : ℕ) where
  -- Rule i turns an odd number of times at the cuts that pass.
  abbrev pub parity : List Cut → Bool
  parity [] = false
  parity (x ∷ xs) = apart (p x.code && has x.turns i) (parity xs)

  -- One turn more.
  pub toggle_parity
      : (code bit : ℕ) (xs : List Cut) → parity (toggle code bit xs) ≡ apart (p code && has bit i) (parity xs)
  toggle_parity code bit [] = refl
  toggle_parity code bit (x ∷ xs) =
      by_test (ltb x.code code)
      (λ y.
      rw y
      (ap (apart (p x.code && has x.turns i)) (toggle_parity code bit xs)
      ∙ apart_swap (p x.code && has x.turns i) (p code && has bit i) (parity xs)))
      (λ y.
      rw y
      (by_test (ltb code x.code) (λ z. rw z)
      (λ z.
      let same : x.code ≡ code = omega (arith, ltb-false x.code code y, ltb-false code x.code z) in
      rw z
      (ap (λ (b : Bool). apart (p x.code && b) (parity xs)) (has_xor x.turns bit i)
      ∙ ap (λ (b : Bool). apart b (parity xs)) (and_apart (p x.code) (has x.turns i) (has bit i))
      ∙ apart_join (p x.code && has bit i) (p x.code && has x.turns i) (parity xs)
      ∙ ap (λ (c : ℕ). apart (p c && has bit i) (apart (p x.code && has x.turns i) (parity xs))) same))))

  -- A want turns its rule where it begins and after its end.
  abbrev pub turns_by : Option Want → Bool
  turns_by none = false
  turns_by (some w) = apart (p (suc (want_high w))) (p (want_low w))

  rule_parity
      : (m : ℕ) (x : Option Want) (xs : List Cut) → parity (turn_rule m x xs) ≡ apart (turns_by x && eqb m i) (parity xs)
  rule_parity m none xs = refl
  rule_parity m (some w) xs =
      let high = p (suc (want_high w)) in
      let low = p (want_low w) in
      toggle_parity (suc (want_high w)) (2 ^ m) (toggle (want_low w) (2 ^ m) xs)
      ∙ ap (apart (high && has (2 ^ m) i)) (toggle_parity (want_low w) (2 ^ m) xs)
      ∙ ap (λ (b : Bool). apart (high && b) (apart (low && b) (parity xs))) (has_singleton m i)
      ∙ both high low (eqb m i) (parity xs)
    where
      both : (a b c d : Bool) → apart (a && c) (apart (b && c) d) ≡ apart (apart a b && c) d
      both true true true true = refl
      both true true true false = refl
      both true true false d = refl
      both true false true d = refl
      both true false false d = refl
      both false b c d = refl

  -- The cuts of the first k rules: those of them turn by what they want.
  pub cuts_parity
      : (rules : List Patterns) (n k : ℕ) → parity (cuts_to rules n k) ≡ ltb i k && turns_by (want_at rules i n)
  cuts_parity rules n zero = ap (λ (b : Bool). b && turns_by (want_at rules i n)) (sym (le-ltb i 0 (omega arith)))
  cuts_parity rules n (suc k) =
      let turns : ℕ → Bool = λ j. turns_by (want_at rules j n) in
      rule_parity k (want_at rules k n) (cuts_to rules n k)
      ∙ ap (apart (turns k && eqb k i)) (cuts_parity rules n k)
      ∙ by_cases (ℕ_discrete k i)
      (λ (e : k ≡ i).
      rw (eq-eqb k i e, le-ltb i k (omega arith), lt-ltb i (suc k) (omega arith), and-true (turns k))
      (apart_false (turns k) ∙ ap turns e))
      (λ (e : ¬ (k ≡ i)).
      rw (ne_eqb k i e, and-false (turns k)) (ap (λ (b : Bool). b && turns i) (same_below e)))
    where
      same_below : ¬ (k ≡ i) → ltb i k ≡ ltb i (suc k)
      same_below e =
          by_test (ltb i k) (λ y. y ∙ sym (lt-ltb i (suc k) (omega (arith, ltb-true i k y))))
          (λ y. y ∙ sym (le-ltb i (suc k) (omega (arith, ltb-false i k y))))
