-- The tests met not known on a walk, as one set: a test more is added where it is not known.
use Prim.Native.Nat.{ℕ, ◌+◌, ◌^◌, ◌≤◌, ◌<◌}
use mathlib.Core.Path.{◌≡◌, refl, sym, ap, ap₂, subst, ◌∙◌}
use mathlib.Core.Bool.{Bool, true, false, ◌&&◌, ◌||◌, and-true, and-false, or-true, or-false}
use mathlib.Core.Logic.{by_cases}
use mathlib.Core.List.{List, [], ◌∷◌, ◌++◌}
use native.Mathlib.Decide.{dec_lt}
use native.Mathlib.Nat.{lt_of_lt_of_le}
use native.Mathlib.Omega.{arith}
use borrow.Author.Tests.{ne_eqb}
use lib.Dec.{T, eqb}
use lib.ListN.{length, get_or, take}
use lib.Seq.{length-take-le, get_or-take, take-suc}
use native.Mathlib.Numerals.{add-one}
use lib.Pow.{pow_pos, pow_mono}
use Rattle.masks.specs.Mask.{has, mask_of}
use Rattle.masks.proofs.Membership.{has_empty, has_above}
use Rattle.masks.proofs.Extensionality.{ext, mask_of_lt, has_mask_of, mask_of_same, mask_of_unique}
use Rattle.basics.specs.Lists.{Mem, All}
use Rattle.basics.proofs.ListLaws.{all_at}
use Rattle.basics.proofs.Positions.{mem_at}
use Rattle.sheet_tests.specs.SheetTests.{Test, place}
use Rattle.decision.specs.Rules.{same_test}
use Rattle.decision.proofs.rules.TestsOfRules.{same_test_lem}
use Rattle.waiting.specs.views.OpenTests.{open_cells, is_among, met_waits}
use Rattle.rule_masks.specs.views.TestNumbers.{test_number, code_test, Once, with_if, KeptCode}
use Rattle.rule_masks.specs.views.Kept.{listed_tests, Listed}
use Rattle.rule_masks.proofs.CodeNumbers.{listed_few}
use Rattle.rule_masks.proofs.Numbers.{number_there, number_at}
use Rattle.basics.proofs.Filters.{any_join}

-- One more truth value that is true only where the test is known adds nothing,
adds_none : (q s o : Bool) → (s ≡ true → o ≡ false) → q && o ≡ (q || (s || false)) && o
adds_none q true o f = ap (λ (b : Bool). q && b) (f refl) ∙ and-false q ∙ sym (ap (λ (b : Bool). (q || true) && b) (f refl) ∙ and-false (q || true))
adds_none q false o f = ap (λ (b : Bool). b && o) (sym (or-false q))

-- and one that is true only where it is not known is added.
adds_one : (q s o : Bool) → (s ≡ true → o ≡ true) → (q && o) || s ≡ (q || (s || false)) && o
adds_one q true o f =
    or-true (q && o) ∙ sym (ap (λ (b : Bool). (q || true) && b) (f refl) ∙ and-true (q || true) ∙ or-true q)
adds_one q false o f = or-false (q && o) ∙ ap (λ (b : Bool). b && o) (sym (or-false q))

module _ (tests : List Test) (few : length tests ≤ 64) (once : Once tests) (is_open : Test → Bool) where
  abbrev at : ℕ → Test
  at j = get_or tests j (place 0)

  -- The set of the tests that are not known among those of which q is true, and with one test more.
  module _ (q : ℕ → Bool) (t : Test) (there : Mem t tests) where
    abbrev met_with : ℕ → Bool
    met_with j = (q j || (same_test (at j) t || false)) && is_open (at j)

    same_open : (b : Bool) → is_open t ≡ b → (j : ℕ) → same_test (at j) t ≡ true → is_open (at j) ≡ b
    same_open b e j s = ap is_open (same_test_lem (at j) t (subst T (sym s) tt)) ∙ e

    abbrev met_set : ℕ
    met_set = mask_of (length tests) (λ j. q j && is_open (at j))

    set_with : with_if (is_open t) met_set (test_number tests t) ≡ mask_of (length tests) met_with
    set_with = go (is_open t) refl
      where
        number : ℕ
        number = test_number tests t

        fits : (p : ℕ → Bool) → mask_of (length tests) p < 2 ^ 64
        fits p = lt_of_lt_of_le (mask_of_lt (length tests) p) (pow_mono few)

        member : is_open t ≡ true → (i : ℕ) → i < 64 → has (mask_of 64 (λ j. has met_set j || eqb number j)) i ≡ has (mask_of (length tests) met_with) i
        member e i l =
            has_mask_of 64 (λ j. has met_set j || eqb number j) i l
            ∙ by_cases (dec_lt i (length tests))
            (λ (h : i < length tests).
            ap₂ (λ (x y : Bool). x || y) (has_mask_of (length tests) (λ j. q j && is_open (at j)) i h) (number_at t (place 0) tests once there i h)
            ∙ adds_one (q i) (same_test (at i) t) (is_open (at i)) (same_open true e i)
            ∙ sym (has_mask_of (length tests) met_with i h))
            (λ (h : i < length tests → ⊥).
            ap₂ (λ (x y : Bool). x || y) (has_above (length tests) met_set i (mask_of_lt (length tests) _) (omega arith))
            (ne_eqb number i (λ k. omega (arith, number_there t tests there)))
            ∙ sym (has_above (length tests) (mask_of (length tests) met_with) i (mask_of_lt (length tests) _) (omega arith)))

        go : (b : Bool) → is_open t ≡ b → with_if b met_set number ≡ mask_of (length tests) met_with
        go true e =
            ext 64 (mask_of 64 (λ j. has met_set j || eqb number j)) (mask_of (length tests) met_with) (mask_of_lt 64 _) (fits met_with) (member e)
        go false e =
            mask_of_same (length tests) (λ j. q j && is_open (at j)) met_with
            (λ j h. adds_none (q j) (same_test (at j) t) (is_open (at j)) (same_open false e j))

module _ (tests : List Test) (cells : List ℕ) where
  abbrev test : ℕ → Test
  test t = get_or tests t (place 0)

  -- Where no test was met, none is waited for.
  pub met_none : 0 ≡ met_waits tests cells []
  unfolding met_waits
  met_none = mask_of_unique (length tests) 0 (λ t. false) (pow_pos (length tests)) (λ i l. has_empty i)

  -- A test more.
  pub met_more
      : length tests ≤ 64 → Once tests → (met : List ℕ) (c : ℕ) → Mem (code_test c) tests
      → with_if (open_cells cells (code_test c)) (met_waits tests cells met) (test_number tests (code_test c))
      ≡ met_waits tests cells (met ++ c ∷ [])
  unfolding met_waits
  met_more few once met c there =
      set_with tests few once (open_cells cells) (λ j. is_among met (test j)) (code_test c) there
      ∙ mask_of_same (length tests) _ _
      (λ t h.
      ap (λ (b : Bool). b && open_cells cells (test t))
      (sym (any_join (λ (k : ℕ). same_test (test t) (code_test k)) met (c ∷ []))))

-- The tests met, one after another.
module _ (kept : List ℕ) (listed : Listed kept) (cells met : List ℕ) (edges i : ℕ)
    (all : All (KeptCode (listed_tests kept)) (take edges met)) (more : i < edges) (room : edges ≤ length met) where
  pub met_at_lem : KeptCode (listed_tests kept) (get_or met i 0)
  met_at_lem =
      subst (KeptCode (listed_tests kept)) (get_or-take edges met i 0 more)
      (all_at (KeptCode (listed_tests kept)) (mem_at 0 (take edges met) i (omega (arith, length-take-le edges met room))) all)

  pub met_turn
      : {set : ℕ} → set ≡ met_waits (listed_tests kept) cells (take i met)
      → with_if (open_cells cells (code_test (get_or met i 0))) set (test_number (listed_tests kept) (code_test (get_or met i 0)))
      ≡ met_waits (listed_tests kept) cells (take (i + 1) met)
  met_turn e =
      let tests = listed_tests kept in
      let code = get_or met i 0 in
      let next : take i met ++ code ∷ [] ≡ take (i + 1) met =
      sym (ap (λ (n : ℕ). take n met) (add-one i) ∙ take-suc met i 0 (omega arith)) in
      ap (λ (w : ℕ). with_if (open_cells cells (code_test code)) w (test_number tests (code_test code))) e
      ∙ met_more tests cells (listed_few kept listed.counted) listed.once (take i met) code met_at_lem.1
      ∙ ap (met_waits tests cells) next
