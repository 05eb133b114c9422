-- The places of a sheet's pairs are two: "an equality test for each of its pairs p < q".
use Prim.Native.Nat.{ℕ, ◌+◌, ◌<◌}
use mathlib.Core.List.{List, [], ◌∷◌, map}
use Rattle.basics.specs.Lists.{All, Mem}
use Rattle.basics.proofs.ListLaws.{all_join, all_at, all-always}
use Rattle.basics.proofs.Filters.{all_mapped, mapped_always}
use Rattle.terms.specs.Pattern.{Patterns, count_patterns}
use Rattle.terms.specs.RuleTests.{PlaceTest, PairTest, Occurrence, place_tests, pair_tests, rule_variables}
use Rattle.terms.specs.Accepted.{AcceptedRule}
use Rattle.terms.proofs.TermPlaces.{extent}
use Rattle.terms.proofs.PairTests.{all_variables_ascend, pairs_each}
use Rattle.sheet_tests.specs.SheetTests.{Test, place, pair, rule_tests, all_tests, sheet_tests}
use Rattle.sheet_tests.proofs.TestOrder.{ascending_mem}

-- A pair's first place is below its second.
abbrev Ordered : Test → Type 0
Ordered (place n) = Unit
Ordered (pair p q) = p < q

rule_ordered : (arity : ℕ) (rule : Patterns) → AcceptedRule arity rule → All Ordered (rule_tests rule)
rule_ordered arity rule a =
    all_join Ordered (map (λ (x : PlaceTest). place x.place) (place_tests rule))
    (map (λ (x : PairTest). pair x.first x.second) (pair_tests rule))
    (mapped_always Ordered (λ (x : PlaceTest). place x.place) (λ x. tt) (place_tests rule))
    (all_mapped Ordered (λ (x : PairTest). pair x.first x.second) (pair_tests rule)
    (pairs_each (λ (o : Occurrence). Unit) (λ (x : PairTest). x.first < x.second) (λ o x before one p q. before) 0
    (0 + extent (count_patterns rule) 4) (rule_variables rule) (all_variables_ascend rule 4 0 a.sound)
    (all-always (λ (o : Occurrence). Unit) (λ o. tt) (rule_variables rule))))

all_ordered : (arity : ℕ) (rules : List Patterns) → All (AcceptedRule arity) rules → All Ordered (all_tests rules)
all_ordered arity [] a = tt
all_ordered arity (rule ∷ rules) a =
    all_join Ordered (rule_tests rule) (all_tests rules) (rule_ordered arity rule a.0) (all_ordered arity rules a.1)

pub pairs_apart
    : (arity : ℕ) (rules : List Patterns) → All (AcceptedRule arity) rules → (p q : ℕ) → Mem (pair p q) (sheet_tests rules) → p < q
pairs_apart arity rules a p q m = all_at Ordered (ascending_mem (all_tests rules) m) (all_ordered arity rules a)
