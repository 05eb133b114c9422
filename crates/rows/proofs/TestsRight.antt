-- The tests that are listed are those of the sheet's rules.
use Prim.Native.Nat.{ℕ, suc, ◌+◌, ◌-◌, ◌*◌, ◌/◌, ◌%◌, ◌≤◌, ◌<◌}
use mathlib.Core.Path.{◌≡◌, sym, ap, ◌∙◌, subst}
use mathlib.Core.List.{List, ◌++◌, map}
use mathlib.Core.Logic.{by_cases, inl}
use native.Mathlib.Decide.{dec_lt}
use native.Mathlib.Omega.{arith}
use borrow.Author.Tests.{lt-ltb, le-ltb}
use lib.Dec.{ltb}
use lib.ListN.{length, get_or, replicate, drop, length-map}
use lib.Seq.{get_or-take, get_or-drop}
use Rattle.basics.specs.Lists.{All, count_from}
use Rattle.basics.proofs.Counting.{count_length}
use Rattle.basics.proofs.Positions.{mem_at}
use Rattle.terms.specs.Pattern.{Patterns}
use Rattle.terms.specs.Answer.{rule_at}
use Rattle.terms.specs.Accepted.{AcceptedRule}
use Rattle.sheet.specs.views.Noted.{rule_notes}
use Rattle.sheet_tests.specs.SheetTests.{Test, place, pair, sheet_tests}
use Rattle.sheet_tests.specs.views.KeptPairs.{code_pair}
use Rattle.decision.specs.Rules.{test_at, has_test, tests_where}
use Rattle.decision.specs.Edges.{settled_by_unknown}
use Rattle.decision.proofs.rules.NearTests.{Near as NearPlaces, rules_near}
use Rattle.tables.specs.views.Planes.{rules_in, tests_in, place_tests_in, test_in, under_in}
use Rattle.tables.specs.views.TablesOf.{is_place, test_code, Near}
use Rattle.test_list.specs.views.Numbers.{number_all, Small}
use Rattle.rows.specs.views.Row.{notes_row}
use Rattle.test_list.specs.views.Tests.{tests_put, settled_below, pairs_listed, under_put}
use Rattle.rows.specs.views.TestsOf.{TestsOf}
use Rattle.test_list.proofs.PutLists.{put_length, put_other, put_at, row_at}
use Rattle.test_list.proofs.TestsListed.{listed_tests_lem, listed_places, listed_counted, listed_long}
use Rattle.test_list.proofs.TestsListed.{listed_place, listed_pairs, listed_rules}
use Rattle.test_list.proofs.SameTests.{same_counted, same_pairs, same_settled}
use Rattle.rows.proofs.TestNumbers.{tests_number, place_number, pair_number_lem, number_place}
use Rattle.rows.proofs.RowRight.{place_numbered}
use Rattle.rows.proofs.SheetRows.{new_small, numbered, rule_row}
use Rattle.rows.proofs.UnderRight.{under_right}

-- What listing the tests leaves.
module _ (rules : List Patterns) (ps cs s : List ℕ) (tests : sheet_tests rules ≡ map place ps ++ map code_pair cs)
    (few : length ps + length cs ≤ 64) (entries : length s ≡ 324) (rules_are : rules_in s ≡ length rules) where
  abbrev put : List ℕ
  put = tests_put ps cs s

  abbrev sets : List ℕ
  sets = map (settled_below put) (count_from 0 (place_tests_in put))

  many : length sets ≡ length ps
  many =
      length-map (count_from 0 (place_tests_in put)) (settled_below put)
      ∙ count_length 0 (place_tests_in put)
      ∙ listed_places ps cs s entries few

  size : length (under_put put) ≡ length put
  unfolding under_put
  size = put_length sets 196 put

  same : (k : ℕ) → k < 68 → get_or (under_put put) k 0 ≡ get_or put k 0
  unfolding under_put
  same k h = put_other sets 196 put k (inl (omega arith))

  settled_at : (t : ℕ) → t < length ps → under_in (under_put put) t ≡ settled_below put t
  unfolding under_put
  settled_at t h =
      let count : place_tests_in put ≡ length ps = listed_places ps cs s entries few in
      put_at sets 196 put t (196 + t) (omega (arith, many)) (omega (arith, many, listed_long ps cs s entries few)) (omega arith)
      ∙ row_at (settled_below put) 0 0 (place_tests_in put) t (omega arith)
      ∙ ap (settled_below put) (omega arith)

  pub tests_listed
      : {numbers s' : List ℕ} → numbers ≡ number_all ps 0 (replicate 680 0) → s' ≡ under_put put → TestsOf rules numbers s'
  tests_listed made e =
      let counted = listed_counted ps cs s entries few in
      subst (TestsOf rules _) (sym e)
      (record {
        places = ps;
        pairs = cs;
        tests = tests;
        few = few;
        numbers_are = made;
        counted = same_counted put (under_put put) size same counted;
        rules_are = same 0 (omega arith) ∙ listed_rules ps cs s entries few ∙ rules_are;
        tests_are = same 1 (omega arith) ∙ listed_tests_lem ps cs s entries few;
        places_are = same 2 (omega arith) ∙ listed_places ps cs s entries few;
        place_is = λ t h. same (4 + t) (omega arith) ∙ listed_place ps cs s entries few t h;
        pairs_are = same_pairs put (under_put put) size same counted ∙ listed_pairs ps cs s entries few;
        under = λ t h.
            settled_at t h ∙ sym (same_settled put (under_put put) size same counted t (omega arith));
      })

near_is : (x : Test) → NearPlaces x → Near x
near_is (place n) h = h
near_is (pair p q) h = h

-- What is known of an accepted sheet's listed tests.
module _ (arity : ℕ) (rules : List Patterns) (few : arity ≤ 8) (accepted : All (AcceptedRule arity) rules) (numbers s : List ℕ)
    (l : TestsOf rules numbers s) where
  pub tests_are_lem : tests_in s ≡ length (sheet_tests rules)
  tests_are_lem = l.tests_are ∙ sym (tests_number rules l.places l.pairs l.tests)

  pub numbers_small : Small numbers
  numbers_small = subst Small (sym l.numbers_are) (new_small l.places (omega (arith, l.few)))

  pub tests_near : (t : ℕ) → t < length (sheet_tests rules) → Near (test_at rules t)
  tests_near t h =
      near_is (test_at rules t) (rules_near arity rules few accepted (test_at rules t) (mem_at (place 0) (sheet_tests rules) t h))

  -- A pair behind the places.
  pair_behind
      : (t : ℕ) → t < length (sheet_tests rules) → (t < length l.places → ⊥)
      → (c : ℕ) × (test_in s t ≡ c) × (test_at rules t ≡ code_pair c)
  pair_behind t h after =
      let k = t - length l.places in
      let inside : k < length l.pairs = omega (arith, tests_number rules l.places l.pairs l.tests) in
      let back : t ≡ length l.places + k = omega arith in
      let spot : 4 + t ≡ 4 + place_tests_in s + k = omega (arith, l.places_are) in
      let near : k < tests_in s - place_tests_in s = omega (arith, l.tests_are, l.places_are) in (
        get_or l.pairs k 0,
        ap (λ (j : ℕ). get_or s j 0) spot
            ∙ sym (get_or-drop (4 + place_tests_in s) s k 0)
            ∙ sym (get_or-take (tests_in s - place_tests_in s) (drop (4 + place_tests_in s) s) k 0 near)
            ∙ ap (λ (xs : List ℕ). get_or xs k 0) l.pairs_are,
        ap (test_at rules) back ∙ pair_number_lem rules l.places l.pairs l.tests k inside,
      )

  -- Each test has its code,
  pub tests_coded : (t : ℕ) → t < length (sheet_tests rules) → test_in s t ≡ test_code (test_at rules t)
  tests_coded t h =
      by_cases (dec_lt t (length l.places))
      (λ (k : t < length l.places).
      l.place_is t k ∙ sym (ap test_code (place_number rules l.places l.pairs l.tests t k)))
      (λ (k : t < length l.places → ⊥).
      let (c, code, is) = pair_behind t h k in
      let whole : c ≡ c / 0x1_0000 * 0x1_0000 + c % 0x1_0000 = omega arith in
      code ∙ whole ∙ sym (ap test_code is))

  -- and the places come first.
  pub tests_split : (t : ℕ) → t < length (sheet_tests rules) → is_place (test_at rules t) ≡ ltb t (place_tests_in s)
  tests_split t h =
      by_cases (dec_lt t (length l.places))
      (λ (k : t < length l.places).
      ap is_place (place_number rules l.places l.pairs l.tests t k)
      ∙ sym (lt-ltb t (place_tests_in s) (omega (arith, l.places_are))))
      (λ (k : t < length l.places → ⊥).
      ap is_place (pair_behind t h k).2 ∙ sym (le-ltb t (place_tests_in s) (omega (arith, l.places_are))))

  -- A place test is numbered by its place,
  pub test_numbered : (t n : ℕ) → t < length (sheet_tests rules) → test_at rules t ≡ place n → get_or numbers n 0 ≡ t
  test_numbered t n h is =
      ap (λ (xs : List ℕ). get_or xs n 0) l.numbers_are
      ∙ place_numbered rules l.places l.pairs l.tests (number_all l.places 0 (replicate 680 0))
      (numbered arity rules few accepted l.places l.pairs l.tests l.few) t n (h, is)

  -- unknown settles what it settles,
  pub unknown_settles
      : (t n : ℕ) → t < length (sheet_tests rules) → test_at rules t ≡ place n
      → under_in s t ≡ tests_where rules (λ u. settled_by_unknown n (test_at rules u))
  unknown_settles t n h is =
      let (inside, spot) = number_place rules l.places l.pairs l.tests t n h is in
      let many : place_tests_in s ≤ length (sheet_tests rules) = omega (arith, tests_are_lem, l.counted.places) in
      l.under t inside ∙ under_right rules s many tests_near tests_coded tests_split t n h is

  -- and a rule's row is the set of its tests.
  pub row_is
      : (i : ℕ) → i < length rules
      → notes_row numbers (place_tests_in s) (pairs_listed s) (rule_notes (rule_at rules (suc i))) ≡ tests_where rules (has_test rules i)
  row_is i h =
      (λ j. notes_row (l.numbers_are j) (l.places_are j) (l.pairs_are j) (rule_notes (rule_at rules (suc i))))
      ∙ rule_row arity rules few accepted l.places l.pairs l.tests l.few i h
