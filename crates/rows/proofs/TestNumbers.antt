-- The numbers of a sheet's tests: test t is the place listed at t; behind the places, test m + k is the pair kept at k.
use Prim.Native.Nat.{ℕ, ◌+◌, ◌-◌, ◌*◌, ◌/◌, ◌%◌, ◌≤◌, ◌<◌}
use mathlib.Core.Path.{◌≡◌, sym, ap, ◌∙◌, subst}
use mathlib.Core.List.{List, ◌++◌, map}
use mathlib.Core.Logic.{inl, inr, by_cases}
use native.Mathlib.Decide.{dec_lt}
use native.Mathlib.Omega.{arith}
use lib.Dec.{T, ltb, lt→ltb}
use lib.ListN.{length, get_or, length-map, length-append, get_or-append, get_or-map}
use lib.Seq.{get_or-append-add}
use Rattle.terms.specs.Pattern.{Patterns}
use Rattle.basics.proofs.Sorted.{Ascending, pair_before_lem}
use Rattle.sheet_tests.specs.SheetTests.{Test, place, pair, before, all_tests, sheet_tests}
use Rattle.sheet_tests.specs.views.KeptPairs.{code_pair}
use Rattle.sheet_tests.proofs.TestOrder.{before_order, ascending_ascends}
use Rattle.decision.specs.Rules.{test_at}
use Rattle.basics.proofs.Clash.{clash}
use Rattle.rows.proofs.AscendingLists.{ascends_first, ascends_second, ascends_back, one_number}
use Rattle.basics.proofs.Positions.{get_d_any}

-- The numbers of pairs ascend where the pairs do.
code_after : (c d : ℕ) → T (before (code_pair c) (code_pair d)) → T (ltb c d)
code_after c d h =
    elim (pair_before_lem (c / 0x1_0000) (c % 0x1_0000) (d / 0x1_0000) (d % 0x1_0000) h) [
      | inl l ↦ lt→ltb c d (omega arith)
      | inr l ↦ lt→ltb c d (omega (arith, l.0, l.1))
    ]

module _ (rules : List Patterns) (places codes : List ℕ)
    (tests : sheet_tests rules ≡ map place places ++ map code_pair codes) where
  abbrev place_tests : List Test
  place_tests = map place places

  abbrev pair_tests : List Test
  pair_tests = map code_pair codes

  pub tests_number : length (sheet_tests rules) ≡ length places + length codes
  tests_number =
      ap length tests
      ∙ length-append place_tests pair_tests
      ∙ (λ i. length-map places place i + length-map codes code_pair i)

  -- The place tests come first.
  pub place_number : (t : ℕ) → t < length places → test_at rules t ≡ place (get_or places t 0)
  place_number t h =
      ap (λ (l : List Test). get_or l t (place 0)) tests
      ∙ get_or-append place_tests pair_tests (place 0) t (omega (arith, length-map places place))
      ∙ get_or-map place places t 0

  -- The pairs follow.
  pub pair_number_lem : (k : ℕ) → k < length codes → test_at rules (length places + k) ≡ code_pair (get_or codes k 0)
  pair_number_lem k h =
      ap (λ (l : List Test). get_or l (length places + k) (place 0)) tests
      ∙ ap (λ (j : ℕ). get_or (place_tests ++ pair_tests) (j + k) (place 0)) (sym (length-map places place))
      ∙ get_or-append-add place_tests pair_tests k (place 0)
      ∙ get_d_any pair_tests k (place 0) (code_pair 0) (omega (arith, length-map codes code_pair))
      ∙ get_or-map code_pair codes k 0

  pair_behind
      : (t : ℕ) → t < length (sheet_tests rules) → (t < length places → ⊥)
      → (t - length places < length codes) × (test_at rules t ≡ code_pair (get_or codes (t - length places) 0))
  pair_behind t h after =
      let inside : t - length places < length codes = omega (arith, tests_number) in
      let back : t ≡ length places + (t - length places) = omega arith in
      (inside, ap (test_at rules) back ∙ pair_number_lem (t - length places) inside)

  -- A test of a place is the one listed there,
  pub number_place
      : (t n : ℕ) → t < length (sheet_tests rules) → test_at rules t ≡ place n → (t < length places) × (get_or places t 0 ≡ n)
  number_place t n h e =
      by_cases (dec_lt t (length places))
      (λ (l : t < length places). let d = sym (place_number t l) ∙ e in (l, (cc)))
      (λ (l : t < length places → ⊥). let d = sym (pair_behind t h l).1 ∙ e in clash (cc))

  -- and a test of a pair the one kept behind the places.
  pub number_pair
      : (t p q : ℕ) → t < length (sheet_tests rules) → test_at rules t ≡ pair p q
      → (length places ≤ t) × (t - length places < length codes) × (q < 0x1_0000)
      × (get_or codes (t - length places) 0 ≡ p * 0x1_0000 + q)
  number_pair t p q h e =
      by_cases (dec_lt t (length places)) (λ (l : t < length places). let d = sym (place_number t l) ∙ e in clash (cc))
      (λ (l : t < length places → ⊥).
      let behind = pair_behind t h l in
      let c = get_or codes (t - length places) 0 in
      let d = sym behind.1 ∙ e in
      let first : c / 0x1_0000 ≡ p = cc in
      let second : c % 0x1_0000 ≡ q = cc in
      (omega arith, behind.0, omega arith, omega arith))

  ascend : Ascending before (place_tests ++ pair_tests)
  ascend = subst (Ascending before) tests (ascending_ascends (all_tests rules))

  -- The places ascend, and so do the pairs' numbers.
  pub places_up : Ascending ltb places
  places_up =
      ascends_back place before ltb (λ x y h. h) places
      (ascends_first (λ (x : Test) (y : Test). T (before x y)) place_tests pair_tests ascend)

  pub codes_up : Ascending ltb codes
  codes_up =
      ascends_back code_pair before ltb code_after codes
      (ascends_second (λ (x : Test) (y : Test). T (before x y)) place_tests pair_tests ascend)

-- A test has one number.
pub one_test
    : (rules : List Patterns) (t u : ℕ) → t < length (sheet_tests rules) → u < length (sheet_tests rules)
    → test_at rules t ≡ test_at rules u → t ≡ u
one_test rules t u h k e =
    one_number before_order (place 0) (sheet_tests rules) (ascending_ascends (all_tests rules)) t u h k e
