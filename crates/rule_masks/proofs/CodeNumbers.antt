-- The numbers of listed tests, by their codes.
use Prim.Native.Nat.{ℕ, suc, ◌+◌, ◌/◌, ◌%◌, ◌<◌, ◌≤◌}
use mathlib.Core.Path.{◌≡◌, refl, sym, ap, subst, ◌∙◌}
use mathlib.Core.Bool.{Bool, true, false, cond}
use mathlib.Core.List.{List, map}
use native.Mathlib.Numerals.{add-one}
use native.Mathlib.Omega.{arith}
use borrow.Author.Tests.{eq-eqb, ne_eqb, eqb-true}
use lib.Dec.{T, eqb, eqb→eq}
use lib.ListN.{length, get_or, drop, length-drop, length-map, drop_of_length-le}
use lib.Seq.{drop-cons, length-take-le, get_or-take, get_or-drop}
use Rattle.basics.proofs.Booleans.{both_true, true_is}
use Rattle.sheet_tests.specs.SheetTests.{place}
use Rattle.sheet_tests.specs.views.KeptPairs.{code_pair}
use Rattle.decision.specs.Rules.{same_test}
use Rattle.decision.proofs.rules.TestsOfRules.{test_same}
use Rattle.tables.specs.views.Planes.{tests_in, test_in}
use Rattle.test_list.specs.views.Tests.{Counted}
use Rattle.rule_masks.specs.views.TestNumbers.{test_number, code_test}
use Rattle.rule_masks.specs.views.Kept.{listed_codes, listed_tests}

-- The test with a code is a place where its two halves are equal, else a pair.
module _ (code : ℕ) where
  pub code_place_lem : code / 0x1_0000 ≡ code % 0x1_0000 → code_test code ≡ place (code / 0x1_0000)
  code_place_lem e = ap (λ (b : Bool). cond b (place (code / 0x1_0000)) (code_pair code)) (eq-eqb (code / 0x1_0000) (code % 0x1_0000) e)

  pub code_pair_lem : (code / 0x1_0000 ≡ code % 0x1_0000 → ⊥) → code_test code ≡ code_pair code
  code_pair_lem ne = ap (λ (b : Bool). cond b (place (code / 0x1_0000)) (code_pair code)) (ne_eqb (code / 0x1_0000) (code % 0x1_0000) ne)

-- Codes of one test are equal.
code_one : (c d : ℕ) → T (same_test (code_test c) (code_test d)) → c ≡ d
code_one c d = go (eqb (c / 0x1_0000) (c % 0x1_0000)) (eqb (d / 0x1_0000) (d % 0x1_0000)) refl refl
  where
    go
        : (a b : Bool) → eqb (c / 0x1_0000) (c % 0x1_0000) ≡ a → eqb (d / 0x1_0000) (d % 0x1_0000) ≡ b
        → T (same_test (cond a (place (c / 0x1_0000)) (code_pair c)) (cond b (place (d / 0x1_0000)) (code_pair d))) → c ≡ d
    go true true e f h =
        let first = eqb→eq (c / 0x1_0000) (d / 0x1_0000) h in
        let left = eqb-true (c / 0x1_0000) (c % 0x1_0000) e in
        let right = eqb-true (d / 0x1_0000) (d % 0x1_0000) f in
        omega (arith, first, left, right)
    go true false e f h = absurd h
    go false true e f h = absurd h
    go false false e f h =
        let both = both_true (eqb (c / 0x1_0000) (d / 0x1_0000)) (eqb (c % 0x1_0000) (d % 0x1_0000)) h in
        omega (arith, eqb→eq (c / 0x1_0000) (d / 0x1_0000) both.0, eqb→eq (c % 0x1_0000) (d % 0x1_0000) both.1)

-- A search for a code: what is left to search gives the same number.
module _ (codes : List ℕ) (code : ℕ) where
  abbrev pub number_from : ℕ → ℕ
  number_from i = test_number (map code_test (drop i codes)) (code_test code)

  module _ (i : ℕ) where
    pub search_ends : length codes ≡ i → length codes ≡ i + number_from i
    search_ends e =
        let none = drop_of_length-le codes {i = i} (omega (arith, e)) in
        omega (arith, e, ap (λ (l : List ℕ). test_number (map code_test l) (code_test code)) none)

    module _ (h : i < length codes) where
      search_step
          : number_from i ≡ cond (same_test (code_test (get_or codes i 0)) (code_test code)) 0 (suc (number_from (i + 1)))
      search_step =
          ap (λ (l : List ℕ). test_number (map code_test l) (code_test code)) (drop-cons codes i 0 h)
          ∙ ap
          (λ (m : ℕ). cond (same_test (code_test (get_or codes i 0)) (code_test code)) 0 (suc (number_from m)))
          (sym (add-one i))

      -- It stands at i,
      pub search_here : get_or codes i 0 ≡ code → i ≡ i + number_from i
      search_here e =
          let here = code_test (get_or codes i 0) in
          let same : same_test here (code_test code) ≡ true =
          true_is (same_test here (code_test code)) (subst (λ (c : ℕ). T (same_test here (code_test c))) e (test_same here)) in
          omega (arith, search_step ∙ ap (λ (b : Bool). cond b 0 (suc (number_from (i + 1)))) same)

      -- or behind it.
      pub search_next : (get_or codes i 0 ≡ code → ⊥) → i + number_from i ≡ i + 1 + number_from (i + 1)
      search_next ne =
          let differ = not_same (same_test (code_test (get_or codes i 0)) (code_test code)) refl in
          omega (arith, search_step ∙ ap (λ (b : Bool). cond b 0 (suc (number_from (i + 1)))) differ)
        where
          not_same
              : (b : Bool) → same_test (code_test (get_or codes i 0)) (code_test code) ≡ b
              → same_test (code_test (get_or codes i 0)) (code_test code) ≡ false
          not_same true e = absurd (ne (code_one (get_or codes i 0) code (subst T (sym e) tt)))
          not_same false e = e

-- The codes that are listed: as many as are counted, and each stands in its place.
module _ (kept : List ℕ) (counted : Counted kept) where
  pub listed_length : length (listed_codes kept) ≡ tests_in kept
  listed_length =
      length-take-le (tests_in kept) (drop 4 kept) (omega (arith, counted.few, counted.entries, length-drop 4 kept))

  pub listed_few : length (listed_tests kept) ≤ 64
  listed_few = omega (arith, length-map (listed_codes kept) code_test, listed_length, counted.few)

  pub listed_at : (i : ℕ) → i < tests_in kept → get_or (listed_codes kept) i 0 ≡ test_in kept i
  listed_at i h = get_or-take (tests_in kept) (drop 4 kept) i 0 h ∙ get_or-drop 4 kept i 0
