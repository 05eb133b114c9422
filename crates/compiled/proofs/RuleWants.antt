-- The place tests of a rule by their numbers: no two have one number, and by test t the rule wants what it wants at the place of
-- the test.
use Prim.Native.Nat.{ℕ, suc, ◌≤◌, ◌<◌}
use mathlib.Core.Path.{◌≡◌, refl, sym, ap, ◌∙◌}
use mathlib.Core.Bool.{cond}
use mathlib.Core.List.{List, [], ◌∷◌}
use mathlib.Core.Logic.{by_cases}
use mathlib.Core.Option.{some}
use native.Mathlib.Decide.{ℕ_discrete}
use native.Mathlib.Omega.{arith}
use lib.Dec.{eqb}
use lib.ListN.{length, get_or, replicate}
use borrow.Author.Tests.{eq-eqb, ne_eqb}
use Rattle.basics.specs.Lists.{All, Mem}
use Rattle.basics.proofs.ListLaws.{all_at, all_from}
use Rattle.terms.specs.Pattern.{Patterns}
use Rattle.terms.specs.RuleTests.{PlaceTest, place_tests, patterns_range}
use Rattle.terms.specs.Answer.{rule_at}
use Rattle.terms.specs.Accepted.{AcceptedRule}
use Rattle.terms.proofs.Ascending.{Ascends, ascends_from}
use Rattle.terms.proofs.PreorderTests.{test_place, all_tests_ascend}
use Rattle.sheet_tests.specs.SheetTests.{place, sheet_tests}
use Rattle.decision.specs.Rules.{test_at, want_in, want_at}
use Rattle.decision.proofs.rules.SoundWants.{rule_accepted}
use Rattle.tables.specs.views.Planes.{place_tests_in}
use Rattle.test_list.specs.views.Numbers.{number_all}
use Rattle.rows.specs.views.TestsOf.{TestsOf}
use Rattle.rows.proofs.TestNumbers.{number_place}
use Rattle.rows.proofs.RowRight.{place_found}
use Rattle.rows.proofs.SheetRows.{numbered}
use Rattle.rows.proofs.TestsRight.{test_numbered}
use Rattle.compiled.proofs.TurnedCuts.{want_of, Apart}

module _ (arity : ℕ) (all : List Patterns) (few : arity ≤ 8) (accepted : All (AcceptedRule arity) all) (numbers s : List ℕ)
    (l : TestsOf all numbers s) (rules i : ℕ) (inside : i < rules) (many : rules ≡ length all) where
  abbrev number : PlaceTest → ℕ
  number x = get_or numbers x.place 0

  -- The number of a place test of the rule is that of a test of the sheet.
  abbrev Own : PlaceTest → Type 0
  Own x = (number x < length (sheet_tests all)) × (test_at all (number x) ≡ place x.place)

  abbrev tests : List PlaceTest
  tests = place_tests (rule_at all (suc i))

  ok : AcceptedRule arity (rule_at all (suc i))
  ok = rule_accepted arity all accepted i (omega arith)

  own : (x : PlaceTest) → Mem x tests → Own x
  own x m =
      let (u, is) =
      place_found all l.places l.pairs l.tests (number_all l.places 0 (replicate 680 0))
      (numbered arity all few accepted l.places l.pairs l.tests l.few) i (omega arith) ok x m in
      let e = test_numbered arity all few accepted numbers s l u x.place is.0 is.1 in
      (omega (arith, is.0), ap (test_at all) e ∙ is.1)

  owns : All Own tests
  owns = all_from Own tests own

  -- It is one of the place tests.
  pub numbers_within : All (λ (x : PlaceTest). number x < place_tests_in s) tests
  numbers_within =
      all_from (λ (x : PlaceTest). number x < place_tests_in s) tests
      (λ x m.
      let mine = own x m in
      let (h, spot) = number_place all l.places l.pairs l.tests (number x) x.place mine.0 mine.1 in
      omega (arith, l.places_are))

  apart_from
      : (b e : ℕ) (xs : List PlaceTest) → Ascends test_place b e xs → All Own xs
      → Apart numbers rules i (place_tests_in s) inside xs
  apart_from b e [] up own = tt
  apart_from b e (x ∷ xs) up own = (
    all_from (λ (y : PlaceTest). number x ≡ number y → ⊥) xs later,
    apart_from (suc x.place) e xs up.1 own.1,
  )
    where
      later : (y : PlaceTest) → Mem y xs → number x ≡ number y → ⊥
      later y m same =
          let above = ascends_from test_place (suc x.place) e xs up.1 in
          let after = all_at (λ (z : PlaceTest). suc x.place ≤ z.place) m above in
          let d : place x.place ≡ place y.place = sym own.0.1 ∙ ap (test_at all) same ∙ (all_at Own m own.1).1 in
          let equal : x.place ≡ y.place = cc in
          omega arith

  pub numbers_apart : Apart numbers rules i (place_tests_in s) inside tests
  numbers_apart =
      apart_from 0 _ tests (all_tests_ascend (patterns_range (rule_at all (suc i))) (rule_at all (suc i)) 4 0 ok.sound) owns

  -- By test t it wants what it wants at the test's place.
  pub wants_at
      : (t n : ℕ) → t < length (sheet_tests all) → test_at all t ≡ place n
      → want_of numbers rules i (place_tests_in s) inside tests t ≡ want_at all i n
  wants_at t n h is = go tests owns
    where
      same : (x : PlaceTest) → Own x → eqb (number x) t ≡ eqb x.place n
      same x mine =
          by_cases (ℕ_discrete x.place n)
          (λ (e : x.place ≡ n).
          eq-eqb (number x) t (ap (λ (p : ℕ). get_or numbers p 0) e ∙ test_numbered arity all few accepted numbers s l t n h is)
          ∙ sym (eq-eqb x.place n e))
          (λ (e : ¬ (x.place ≡ n)).
          ne_eqb (number x) t
          (λ d.
          let both : place x.place ≡ place n = sym mine.1 ∙ ap (test_at all) d ∙ is in
          e (cc))
          ∙ sym (ne_eqb x.place n e))

      go : (xs : List PlaceTest) → All Own xs → want_of numbers rules i (place_tests_in s) inside xs t ≡ want_in xs n
      go [] o = refl
      go (x ∷ xs) o = λ j. cond (same x o.0 j) (some x.want) (go xs o.1 j)
