-- One of the masks of a rule's tests: the tests of a list whose outcome is one of those.
use Prim.Native.Nat.{ℕ, ◌^◌, ◌≤◌, ◌<◌}
use mathlib.Core.Path.{◌≡◌, refl, sym, ap, subst, ◌∙◌}
use mathlib.Core.Bool.{Bool, true, false, ◌&&◌, ◌||◌, and-true, and-false, or-false}
use mathlib.Core.Logic.{by_cases}
use mathlib.Core.List.{List, [], ◌∷◌, map}
use native.Mathlib.Decide.{dec_lt}
use native.Mathlib.Nat.{lt_of_lt_of_le}
use native.Mathlib.Omega.{arith}
use borrow.Author.Tests.{ne_eqb}
use lib.Dec.{T, eqb}
use lib.ListN.{length, get_or}
use lib.Pow.{pow_mono}
use Rattle.masks.specs.Mask.{has, mask_of}
use Rattle.masks.proofs.Membership.{has_empty, has_above}
use Rattle.masks.proofs.Extensionality.{ext, mask_of_lt, has_mask_of}
use Rattle.basics.specs.Lists.{All, Mem, any_of}
use Rattle.terms.specs.Outcome.{Outcome}
use Rattle.sheet_tests.specs.SheetTests.{Test, place}
use Rattle.decision.specs.Rules.{same_test}
use Rattle.decision.specs.Walk.{is_not_known, is_contradicted}
use Rattle.decision.proofs.rules.TestsOfRules.{same_test_lem}
use Rattle.rule_masks.specs.declared.Masks.{Masks}
use Rattle.rule_masks.specs.views.TestNumbers.{test_number, code_test, with_if, Once}
use Rattle.rule_masks.specs.views.RuleMasks.{Made, with_made, after_all}
use Rattle.rule_masks.proofs.Numbers.{number_there, number_at}

-- Truth values.
or_join : (a b c : Bool) → (a || b) || c ≡ a || (b || c)
or_join true b c = refl
or_join false b c = refl

both_beside : (a b c : Bool) → (a && c) || (b && c) ≡ (a || b) && c
both_beside true b true = refl
both_beside true b false = and-false b
both_beside false b c = refl

-- The test that was made, and its number.
abbrev pub made_test : Made → Test
made_test x = code_test x.code

module _ (tests : List Test) where
  abbrev pub number : Made → ℕ
  number x = test_number tests (made_test x)

  module _ (is : Outcome → Bool) where
    abbrev pub one_mask : List Made → ℕ → ℕ
    one_mask [] set = set
    one_mask (x ∷ xs) set = one_mask xs (with_if (is x.outcome) set (number x))

    abbrev asked : ℕ → Made → Bool
    asked t x = is x.outcome && eqb (number x) t

    with_has : (b : Bool) (set n t : ℕ) → t < 64 → has (with_if b set n) t ≡ has set t || (b && eqb n t)
    with_has true set n t h = has_mask_of 64 (λ (k : ℕ). has set k || eqb n k) t h
    with_has false set n t h = sym (or-false (has set t))

    -- It has what it had and the numbers of those tests.
    one_has : (xs : List Made) (set t : ℕ) → t < 64 → has (one_mask xs set) t ≡ has set t || any_of (asked t) xs
    one_has [] set t h = sym (or-false (has set t))
    one_has (x ∷ xs) set t h =
        one_has xs (with_if (is x.outcome) set (number x)) t h
        ∙ ap (λ (b : Bool). b || any_of (asked t) xs) (with_has (is x.outcome) set (number x) t h)
        ∙ or_join (has set t) (asked t x) (any_of (asked t) xs)

    with_fits : (b : Bool) (set n : ℕ) → set < 2 ^ 64 → with_if b set n < 2 ^ 64
    with_fits true set n h = mask_of_lt 64 (λ (k : ℕ). has set k || eqb n k)
    with_fits false set n h = h

    one_fits : (xs : List Made) (set : ℕ) → set < 2 ^ 64 → one_mask xs set < 2 ^ 64
    one_fits [] set h = h
    one_fits (x ∷ xs) set h =
        one_fits xs (with_if (is x.outcome) set (number x)) (with_fits (is x.outcome) set (number x) h)

  -- The masks are two of these.
  pub two_masks
      : (xs : List Made) (m : Masks)
      → after_all tests xs m
      ≡ record { unknown = one_mask is_not_known xs m.unknown; contradicted = one_mask is_contradicted xs m.contradicted }
  two_masks [] m = refl
  two_masks (x ∷ xs) m = two_masks xs (with_made tests m x)

-- Each test that was made stands in the list once, and has this outcome.
module _ (tests : List Test) (few : length tests ≤ 64) (once : Once tests) (out : Test → Outcome) where
  abbrev pub Right : Made → Type 0
  Right x = Mem (made_test x) tests × (x.outcome ≡ out (made_test x))

  abbrev at : ℕ → Test
  at t = get_or tests t (place 0)

  module _ (is : Outcome → Bool) where
    swapped : (x : Test) (t : ℕ) (b : Bool) → same_test (at t) x ≡ b → is (out x) && b ≡ b && is (out (at t))
    swapped x t true e = and-true (is (out x)) ∙ ap (λ (u : Test). is (out u)) (sym (same_test_lem (at t) x (subst T (sym e) tt)))
    swapped x t false e = and-false (is (out x))

    Asked-here
        : (x : Made) → Right x → (t : ℕ) → t < length tests
        → asked tests is t x ≡ same_test (at t) (made_test x) && is (out (at t))
    Asked-here x (m, says) t h =
        (λ i. is (says i) && number_at (made_test x) (place 0) tests once m t h i)
        ∙ swapped (made_test x) t (same_test (at t) (made_test x)) refl

    asked_any
        : (xs : List Made) → All Right xs → (t : ℕ) → t < length tests
        → any_of (asked tests is t) xs ≡ any_of (same_test (at t)) (map made_test xs) && is (out (at t))
    asked_any [] a t h = refl
    asked_any (x ∷ xs) a t h =
        (λ i. Asked-here x a.0 t h i || asked_any xs a.1 t h i)
        ∙ both_beside (same_test (at t) (made_test x)) (any_of (same_test (at t)) (map made_test xs)) (is (out (at t)))

    asked_none : (xs : List Made) → All Right xs → (t : ℕ) → length tests ≤ t → any_of (asked tests is t) xs ≡ false
    asked_none [] a t h = refl
    asked_none (x ∷ xs) a t h =
        let inside = number_there (made_test x) tests a.0.0 in
        let other = ne_eqb (number tests x) t (λ e. let z : ⊥ = omega (arith, e, h, inside) in z) in
        λ i. (ap (λ (b : Bool). is x.outcome && b) other ∙ and-false (is x.outcome)) i || asked_none xs a.1 t h i

    -- So the mask is the set of those tests with such an outcome.
    pub one_right
        : (xs : List Made) → All Right xs
        → one_mask tests is xs 0
        ≡ mask_of (length tests) (λ t. any_of (same_test (at t)) (map made_test xs) && is (out (at t)))
    one_right xs a =
        let p : ℕ → Bool = λ t. any_of (same_test (at t)) (map made_test xs) && is (out (at t)) in
        ext 64 (one_mask tests is xs 0) (mask_of (length tests) p) (one_fits tests is xs 0 (omega arith))
        (lt_of_lt_of_le (mask_of_lt (length tests) p) (pow_mono few))
        (λ t h.
        one_has tests is xs 0 t h
        ∙ ap (λ (b : Bool). b || any_of (asked tests is t) xs) (has_empty t)
        ∙ by_cases (dec_lt t (length tests))
        (λ (l : t < length tests). asked_any xs a t l ∙ sym (has_mask_of (length tests) p t l))
        (λ (l : t < length tests → ⊥).
        asked_none xs a t (omega arith)
        ∙ sym (has_above (length tests) (mask_of (length tests) p) t (mask_of_lt (length tests) p) (omega arith))))
