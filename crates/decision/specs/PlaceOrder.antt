-- The order in which the tests of a sheet are asked by a list of places (document 02, request 1): "A loaded table of 680 wide place
-- numbers replaces the ascending order of places; pairs still come after all places, and test numbers stay."
use Rattle.std.specs.Prelude.{ℕ, Bool, true, false, List, [], ◌∷◌, ◌++◌}
use Rattle.basics.specs.Lists.{filter}
use Rattle.terms.specs.Pattern.{Patterns}
use Rattle.sheet_tests.specs.SheetTests.{Test, place, pair}
use Rattle.decision.specs.Rules.{same_test, test_at}
use Rattle.decision.specs.Graph.{lowest_first}

abbrev pub is_pair : Test → Bool
is_pair (place n) = false
is_pair (pair p q) = true

-- The numbers of those tests of the sheet for which f is true, ascending: "test numbers stay".
abbrev pub numbers_where : (Test → Bool) → List Patterns → List ℕ
numbers_where f rules = filter (λ (t : ℕ). f (test_at rules t)) (lowest_first rules)

-- The places in the list's order, each where the sheet tests it; "pairs still come after all places".
abbrev pub order_by : List ℕ → List Patterns → List ℕ
order_by [] rules = numbers_where is_pair rules
order_by (p ∷ places) rules = numbers_where (same_test (place p)) rules ++ order_by places rules
