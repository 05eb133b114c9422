-- A rule has the test of a place where it wants something there.
use Prim.Native.Nat.{ℕ, suc}
use mathlib.Core.Path.{◌≡◌, refl, ap, ◌∙◌}
use mathlib.Core.Bool.{Bool, true, false, ◌||◌, or-false, cond}
use mathlib.Core.List.{List, [], ◌∷◌, map}
use mathlib.Core.Option.{Option, some, none}
use lib.Dec.{eqb}
use Rattle.basics.specs.Lists.{any_of}
use Rattle.basics.proofs.Numbers.{eqb_swap}
use Rattle.basics.proofs.Filters.{any_join}
use Rattle.terms.specs.Pattern.{Patterns}
use Rattle.terms.specs.Answer.{rule_at}
use Rattle.terms.specs.RuleTests.{Want, PlaceTest, PairTest, place_tests, pair_tests}
use Rattle.sheet_tests.specs.SheetTests.{Test, place, pair, rule_tests}
use Rattle.decision.specs.Rules.{same_test, want_in, test_at, has_test, want_at}

abbrev pub wants_something : Option Want → Bool
wants_something none = false
wants_something (some w) = true

-- A place is among place tests where something is wanted at it,
places_any
    : (n : ℕ) (xs : List PlaceTest)
    → any_of (same_test (place n)) (map (λ (x : PlaceTest). place x.place) xs) ≡ wants_something (want_in xs n)
places_any n [] = refl
places_any n (x ∷ xs) = rw (eqb_swap n x.place) (go (eqb x.place n) (places_any n xs))
  where
    rest : Bool
    rest = any_of (same_test (place n)) (map (λ (y : PlaceTest). place y.place) xs)

    go : (b : Bool) → rest ≡ wants_something (want_in xs n)
        → b || rest ≡ wants_something (cond b (some x.want) (want_in xs n))
    go true e = refl
    go false e = e

-- and is never among pairs.
pairs_none
    : (n : ℕ) (xs : List PairTest)
    → any_of (same_test (place n)) (map (λ (x : PairTest). pair x.first x.second) xs) ≡ false
pairs_none n [] = refl
pairs_none n (x ∷ xs) = pairs_none n xs

module _ (rules : List Patterns) where
  -- A rule has the test of a place where it wants something there.
  pub has_wanted
      : (i t n : ℕ) → test_at rules t ≡ place n → has_test rules i t ≡ wants_something (want_at rules i n)
  has_wanted i t n e =
      let rule = rule_at rules (suc i) in
      ap (λ (x : Test). any_of (same_test x) (rule_tests rule)) e
      ∙ any_join (same_test (place n)) (map (λ (x : PlaceTest). place x.place) (place_tests rule))
      (map (λ (x : PairTest). pair x.first x.second) (pair_tests rule))
      ∙ (λ j. places_any n (place_tests rule) j || pairs_none n (pair_tests rule) j)
      ∙ or-false (wants_something (want_in (place_tests rule) n))
