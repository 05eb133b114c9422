-- The row of a rule, off its notes, is the set of the rule's tests.
use Prim.Native.Nat.{ℕ, suc, ◌+◌, ◌-◌, ◌^◌, ◌≤◌, ◌<◌}
use mathlib.Core.Path.{◌≡◌, refl, sym, ap, ◌∙◌, subst}
use mathlib.Core.Bool.{Bool, true, false, ◌||◌, or-false}
use mathlib.Core.List.{List, [], ◌∷◌, ◌++◌, map}
use mathlib.Core.Logic.{by_cases}
use native.Mathlib.Decide.{dec_lt}
use native.Mathlib.Nat.{lt_of_lt_of_le}
use native.Mathlib.Omega.{arith}
use lib.Dec.{T, eqb, eqb→eq, eqb_refl}
use lib.ListN.{length, get_or}
use lib.Pow.{pow_mono}
use borrow.Author.Tests.{ne_eqb}
use Rattle.masks.specs.Mask.{has, mask_of}
use Rattle.masks.proofs.Membership.{has_above, has_empty}
use Rattle.masks.proofs.Extensionality.{ext, mask_of_lt, has_mask_of}
use Rattle.basics.specs.Lists.{All, Mem, any_of}
use Rattle.terms.specs.Pattern.{Patterns}
use Rattle.terms.specs.RuleTests.{PlaceTest, PairTest, place_tests, pair_tests}
use Rattle.terms.specs.Answer.{rule_at}
use Rattle.terms.specs.Accepted.{AcceptedRule}
use Rattle.basics.proofs.ListLaws.{all_from}
use Rattle.sheet.specs.views.Noted.{rule_notes}
use Rattle.sheet_tests.specs.SheetTests.{Test, place, pair, rule_tests, sheet_tests}
use Rattle.pairs.specs.views.Slot.{slot}
use Rattle.pairs.specs.views.KeptPairs.{pair_code}
use Rattle.sheet_tests.specs.views.KeptPairs.{code_pair}
use Rattle.pairs.specs.views.NoteVariables.{pair_codes}
use Rattle.decision.specs.Rules.{same_test, test_at, has_test, tests_where}
use Rattle.basics.proofs.Filters.{mem_left, mem_right, mem_map}
use Rattle.decision.proofs.rules.TestsOfRules.{same_test_lem, test_same, mem_has}
use Rattle.decision.proofs.rules.TestNumbers.{test_number_lem}
use Rattle.rows.specs.views.Row.{with_test, with_tests, pair_number, place_numbers, pair_numbers, row_of, notes_row}
use Rattle.rows.proofs.AscendingLists.{slot_at}
use Rattle.rows.proofs.TestNumbers.{number_place, number_pair, codes_up, one_test}
use Rattle.rows.proofs.RowTurns.{with_append}
use Rattle.rows.proofs.NotesRight.{rule_wants, rule_pairs}
use Rattle.basics.proofs.Booleans.{same_truth}

-- t stands in a list of numbers.
abbrev among : List ℕ → ℕ → Bool
among ns t = any_of (λ (n : ℕ). eqb n t) ns

or_join : (a b c : Bool) → (a || b) || c ≡ a || (b || c)
or_join true b c = refl
or_join false b c = refl

-- A set with the numbers of a list has what it had and those.
with_has : (ns : List ℕ) (row j : ℕ) → j < 64 → has (with_tests ns row) j ≡ has row j || among ns j
unfolding with_test
with_has [] row j h = sym (or-false (has row j))
with_has (n ∷ ns) row j h =
    with_has ns (with_test row n) j h
    ∙ ap (λ (b : Bool). b || among ns j) (has_mask_of 64 (λ (k : ℕ). has row k || eqb n k) j h)
    ∙ or_join (has row j) (eqb n j) (among ns j)

with_fits : (ns : List ℕ) (row : ℕ) → row < 2 ^ 64 → with_tests ns row < 2 ^ 64
unfolding with_test
with_fits [] row h = h
with_fits (n ∷ ns) row h = with_fits ns (with_test row n) (mask_of_lt 64 (λ (k : ℕ). has row k || eqb n k))

module _ (rules : List Patterns) where
  abbrev all : ℕ
  all = length (sheet_tests rules)

  -- Test x of the sheet has number n,
  abbrev pub Numbered : ℕ → Test → Type 0
  Numbered n x = (n < all) × (test_at rules n ≡ x)

  -- and the tests of a list have the numbers of another.
  abbrev Numbers : List ℕ → List Test → Type 0
  Numbers [] [] = Unit
  Numbers [] (x ∷ xs) = ⊥
  Numbers (n ∷ ns) [] = ⊥
  Numbers (n ∷ ns) (x ∷ xs) = Numbered n x × Numbers ns xs

  numbers_join : (ns ms : List ℕ) (xs ys : List Test) → Numbers ns xs → Numbers ms ys → Numbers (ns ++ ms) (xs ++ ys)
  numbers_join [] ms [] ys a b = b
  numbers_join [] ms (x ∷ xs) ys a b = absurd a
  numbers_join (n ∷ ns) ms [] ys a b = absurd a
  numbers_join (n ∷ ns) ms (x ∷ xs) ys a b = (a.0, numbers_join ns ms xs ys a.1 b)

  -- A number is among them where its test is.
  numbers_any
      : (ns : List ℕ) (xs : List Test) → Numbers ns xs → (t : ℕ) → t < all
      → among ns t ≡ any_of (same_test (test_at rules t)) xs
  numbers_any [] [] a t h = refl
  numbers_any [] (x ∷ xs) a t h = absurd a
  numbers_any (n ∷ ns) [] a t h = absurd a
  numbers_any (n ∷ ns) (x ∷ xs) a t h = λ j. same j || numbers_any ns xs a.1 t h j
    where
      same : eqb n t ≡ same_test (test_at rules t) x
      same =
          same_truth (eqb n t) (same_test (test_at rules t) x)
          (λ e.
          subst (λ (y : Test). T (same_test (test_at rules t) y)) (ap (test_at rules) (sym (eqb→eq n t e)) ∙ a.0.1)
          (test_same (test_at rules t)))
          (λ e.
          let d = one_test rules n t a.0.0 h (a.0.1 ∙ sym (same_test_lem (test_at rules t) x e)) in
          subst (λ (m : ℕ). T (eqb n m)) d (eqb_refl n))

  numbers_none : (ns : List ℕ) (xs : List Test) → Numbers ns xs → (t : ℕ) → all ≤ t → among ns t ≡ false
  numbers_none [] xs a t h = refl
  numbers_none (n ∷ ns) [] a t h = absurd a
  numbers_none (n ∷ ns) (x ∷ xs) a t h =
      λ j. ne_eqb n t (λ e. let z : ⊥ = omega (arith, a.0.0) in z) j || numbers_none ns xs a.1 t h j

  -- The set of the numbers of a rule's tests.
  numbers_row
      : (ns : List ℕ) (i : ℕ) → all ≤ 64 → Numbers ns (rule_tests (rule_at rules (suc i)))
      → with_tests ns 0 ≡ tests_where rules (has_test rules i)
  numbers_row ns i few a =
      let p = has_test rules i in
      let xs = rule_tests (rule_at rules (suc i)) in
      ext 64 (with_tests ns 0) (mask_of all p) (with_fits ns 0 (omega arith)) (lt_of_lt_of_le (mask_of_lt all p) (pow_mono few))
      (λ t h.
      with_has ns 0 t h
      ∙ ap (λ (b : Bool). b || among ns t) (has_empty t)
      ∙ by_cases (dec_lt t all)
      (λ (l : t < all). numbers_any ns xs a t l ∙ sym (has_mask_of all p t l))
      (λ (l : t < all → ⊥).
      numbers_none ns xs a t (omega arith) ∙ sym (has_above all (mask_of all p) t (mask_of_lt all p) (omega arith))))

module _ (rules : List Patterns) (places codes : List ℕ)
    (tests : sheet_tests rules ≡ map place places ++ map code_pair codes) (numbers : List ℕ)
    (numbered : (t : ℕ) → t < length places → get_or numbers (get_or places t 0) 0 ≡ t) where
  -- The table has the number of a tested place,
  pub place_numbered : (u n : ℕ) → Numbered rules u (place n) → get_or numbers n 0 ≡ u
  place_numbered u n is =
      let (inside, spot) = number_place rules places codes tests u n is.0 is.1 in
      sym (ap (λ (p : ℕ). get_or numbers p 0) spot) ∙ numbered u inside

  -- and the search finds that of a pair.
  pub pair_numbered : (u p q : ℕ) → Numbered rules u (pair p q) → pair_number (length places) codes (pair_code p q) ≡ u
  pair_numbered u p q is =
      let (behind, inside, small, code) = number_pair rules places codes tests u p q is.0 is.1 in
      let back : length places + (u - length places) ≡ u = omega arith in
      ap (λ (c : ℕ). length places + slot c codes) (sym code)
      ∙ ap (λ (k : ℕ). length places + k) (slot_at codes (codes_up rules places codes tests) (u - length places) inside)
      ∙ back

  moved : (n u : ℕ) (x : Test) → n ≡ u → Numbered rules u x → Numbered rules n x
  moved n u x e is = (omega (arith, is.0), ap (test_at rules) e ∙ is.1)

  -- Each test of a list has a number.
  abbrev Found : {A : Type 0} → (A → Test) → A → Type 0
  Found f x = (u : ℕ) × Numbered rules u (f x)

  places_numbers
      : (xs : List PlaceTest) → All (Found (λ (x : PlaceTest). place x.place)) xs
      → Numbers rules (place_numbers numbers xs) (map (λ (x : PlaceTest). place x.place) xs)
  places_numbers [] a = tt
  places_numbers (x ∷ xs) a =
      let (u, is) = a.0 in
      (moved _ u (place x.place) (place_numbered u x.place is) is, places_numbers xs a.1)

  pairs_numbers
      : (xs : List PairTest) → All (Found (λ (x : PairTest). pair x.first x.second)) xs
      → Numbers rules (pair_numbers (length places) codes (pair_codes xs)) (map (λ (x : PairTest). pair x.first x.second) xs)
  pairs_numbers [] a = tt
  pairs_numbers (x ∷ xs) a =
      let (u, is) = a.0 in
      (moved _ u (pair x.first x.second) (pair_numbered u x.first x.second is) is, pairs_numbers xs a.1)

  module _ {arity : ℕ} (i : ℕ) (inside : i < length rules) (accepted : AcceptedRule arity (rule_at rules (suc i))) where
    abbrev rule : Patterns
    rule = rule_at rules (suc i)

    abbrev place_test : PlaceTest → Test
    place_test x = place x.place

    abbrev pair_test : PairTest → Test
    pair_test x = pair x.first x.second

    -- The number of a place that the rule tests.
    pub place_found : (x : PlaceTest) → Mem x (place_tests rule) → Found place_test x
    place_found x m =
        let has = mem_has rule (mem_left (map pair_test (pair_tests rule)) (mem_map place_test m)) in
        let (u, h, e) = test_number_lem rules i inside (place_test x) has in
        (u, (h, e))

    pair_found : (x : PairTest) → Mem x (pair_tests rule) → Found pair_test x
    pair_found x m =
        let has = mem_has rule (mem_right (map place_test (place_tests rule)) (mem_map pair_test m)) in
        let (u, h, e) = test_number_lem rules i inside (pair_test x) has in
        (u, (h, e))

    -- The row of rule i.
    pub row_right
        : length (sheet_tests rules) ≤ 64
        → notes_row numbers (length places) codes (rule_notes rule) ≡ tests_where rules (has_test rules i)
    unfolding row_of
    row_right few =
        let ns = place_numbers numbers (place_tests rule) in
        let ms = pair_numbers (length places) codes (pair_codes (pair_tests rule)) in
        (λ j.
        with_tests (pair_numbers (length places) codes (rule_pairs accepted j))
        (with_tests (place_numbers numbers (rule_wants accepted j)) 0))
        ∙ sym (with_append ns ms 0)
        ∙ numbers_row rules (ns ++ ms) i few
        (numbers_join rules ns ms (map place_test (place_tests rule)) (map pair_test (pair_tests rule))
        (places_numbers (place_tests rule) (all_from (Found place_test) (place_tests rule) place_found))
        (pairs_numbers (pair_tests rule) (all_from (Found pair_test) (pair_tests rule) pair_found)))
