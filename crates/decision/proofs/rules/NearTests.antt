-- The places of a sheet's tests: rules of at most 8 arguments test places below 680.
use Prim.Native.Nat.{ℕ, ◌+◌, ◌≤◌, ◌<◌}
use mathlib.Core.List.{List, [], ◌∷◌, map}
use native.Mathlib.Omega.{arith}
use Rattle.basics.specs.Lists.{All, Mem}
use Rattle.terms.specs.Pattern.{Patterns, count_patterns}
use Rattle.terms.specs.RuleTests.{PlaceTest, PairTest, Occurrence, place_tests, pair_tests, rule_variables, patterns_range}
use Rattle.terms.specs.Accepted.{AcceptedRule}
use Rattle.basics.proofs.ListLaws.{all_join, all_at, all_map}
use Rattle.basics.proofs.Filters.{all_mapped}
use Rattle.terms.proofs.TermPlaces.{extent, extent_le}
use Rattle.terms.proofs.Ascending.{ascends_below}
use Rattle.terms.proofs.PreorderTests.{test_place, all_tests_ascend}
use Rattle.terms.proofs.PairTests.{variable_place, all_variables_ascend, pairs_each}
use Rattle.sheet_tests.specs.SheetTests.{Test, place, pair, rule_tests, all_tests, sheet_tests}
use Rattle.sheet_tests.proofs.TestOrder.{ascending_mem}

-- A test of places below 680.
abbrev pub Near : Test → Type 0
Near (place n) = n < 680
Near (pair p q) = (p < 680) × (q < 680)

rule_near : (arity : ℕ) (rule : Patterns) → arity ≤ 8 → AcceptedRule arity rule → All Near (rule_tests rule)
rule_near arity rule few a =
    let end = 0 + extent (count_patterns rule) 4 in
    let inside : extent (count_patterns rule) 4 ≤ 680 = extent_le (count_patterns rule) 8 4 (omega (arith, a.arguments)) in
    let places = ascends_below test_place 0 end (place_tests rule) (all_tests_ascend (patterns_range rule) rule 4 0 a.sound) in
    let up = all_variables_ascend rule 4 0 a.sound in
    let variables = ascends_below variable_place 0 end (rule_variables rule) up in
    let pairs = pairs_each (λ (o : Occurrence). o.place < end) BothNear (λ o x before one p q. (omega arith, omega arith)) 0 end (rule_variables rule) up variables in
    all_join Near (map (λ (x : PlaceTest). place x.place) (place_tests rule)) (map (λ (x : PairTest). pair x.first x.second) (pair_tests rule))
    (all_mapped Near (λ (x : PlaceTest). place x.place) (place_tests rule)
    (all_map (λ (x : PlaceTest). x.place < end) (λ (x : PlaceTest). x.place < 680) (λ x h. omega arith) (place_tests rule) places))
    (all_mapped Near (λ (x : PairTest). pair x.first x.second) (pair_tests rule) pairs)
  where
    BothNear : PairTest → Type 0
    BothNear x = (x.first < 680) × (x.second < 680)

all_near : (arity : ℕ) (rules : List Patterns) → arity ≤ 8 → All (AcceptedRule arity) rules → All Near (all_tests rules)
all_near arity [] few a = tt
all_near arity (rule ∷ rules) few a =
    all_join Near (rule_tests rule) (all_tests rules) (rule_near arity rule few a.0) (all_near arity rules few a.1)

-- So are all tests of the sheet.
pub rules_near
    : (arity : ℕ) (rules : List Patterns) → arity ≤ 8 → All (AcceptedRule arity) rules
    → (t : Test) → Mem t (sheet_tests rules) → Near t
rules_near arity rules few accepted t m = all_at Near (ascending_mem (all_tests rules) m) (all_near arity rules few accepted)
