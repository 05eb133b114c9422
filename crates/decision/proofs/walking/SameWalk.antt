-- A walk goes by the tests of a sheet's rules alone: two sheets whose rules have, one after another, the same place tests and
-- the same equality tests get from any nodes the same answer, edges and wait list.
use Prim.Native.Nat.{ℕ, pred}
use mathlib.Core.Path.{◌≡◌, refl, ap, ◌∙◌, fun_ext}
use mathlib.Core.Bool.{◌&&◌, ◌||◌, not}
use mathlib.Core.List.{List, [], ◌∷◌, ◌++◌, map}
use lib.ListN.{length}
use Rattle.basics.specs.Lists.{any_of, any_below}
use Rattle.records.specs.Reading.{took, refused}
use Rattle.terms.specs.Term.{Terms}
use Rattle.terms.specs.Pattern.{Patterns}
use Rattle.terms.specs.RuleTests.{place_tests, pair_tests}
use Rattle.terms.specs.Outcome.{Outcome, holds, not_known, contradicted, rule_outcome}
use Rattle.terms.specs.Answer.{rule_at, only_rule}
use Rattle.terms.specs.Answer as answers
use Rattle.terms.specs.Lookup.{term_at}
use Rattle.sheet_tests.specs.SheetTests.{Test, place, pair}
use Rattle.decision.specs.Rules.{test_at, has_test, tests_where}
use Rattle.decision.specs.Key.{Leaf, fail_node, suspend_node, execute_node}
use Rattle.decision.specs.Node.{Node}
use Rattle.decision.specs.Path.{Path, node_at, path}
use Rattle.decision.specs.Walk.{is_not_known, asks_test, test_not_known, want_outcome, test_outcome, is_contradicted, live_on}
use Rattle.decision.specs.Walk.{execute_waits, waits_for, is_listed, listed_from, suspend_waits, at_leaf, at_end, walk}
use Rattle.decision.proofs.rules.SameTests.{same_test_at, same_has_test, same_want_at, same_tests_where}
use Rattle.decision.proofs.rules.SameTests.{same_tests_same_count, same_tests_same_tests, same_tests_same_outcome}

module _
    (rules others : List Patterns) (places : map place_tests rules ≡ map place_tests others)
    (pairs : map pair_tests rules ≡ map pair_tests others) (nodes : List (Node ℕ)) (piece : Terms)
  where
    test_at_lem : test_at rules ≡ test_at others
    test_at_lem = same_test_at rules others places pairs

    tests_where_lem : tests_where rules ≡ tests_where others
    tests_where_lem = same_tests_where rules others places pairs

    has_test_lem : has_test rules ≡ has_test others
    has_test_lem = same_has_test rules others places pairs

    -- A test comes to the same for a rule,
    outcome_same : (n : ℕ) → test_outcome rules piece n ≡ test_outcome others piece n
    outcome_same n = fun_ext go
      where
        go : (t : Test) → test_outcome rules piece n t ≡ test_outcome others piece n t
        go (place p) = λ i. want_outcome (same_want_at rules others places pairs i n p) (term_at piece p)
        go (pair p q) = refl

    -- the same rules are live on a walk,
    live_on_lem : live_on rules nodes piece ≡ live_on others nodes piece
    live_on_lem =
        let tests = same_tests_same_tests rules others places pairs in
        λ i walked n. not (any_below (length (tests i))
        (λ t. any_of (λ (m : ℕ). asks_test (test_at_lem i t) (node_at nodes m)) walked && has_test_lem i n t
        && is_contradicted (outcome_same n i (test_at_lem i t))))

    -- the same tests are not known for them,
    waits_for_lem : waits_for rules nodes piece ≡ waits_for others nodes piece
    waits_for_lem = λ i before t n. live_on_lem i before n && has_test_lem i n t && is_not_known (outcome_same n i (test_at_lem i t))

    is_listed_lem : is_listed rules nodes piece ≡ is_listed others nodes piece
    is_listed_lem =
        let count = same_tests_same_count rules others places pairs in
        λ i before t. test_not_known piece (test_at_lem i t) || any_below (count i) (waits_for_lem i before t)

    listed_from_lem
        : (before ns : List ℕ) (t : ℕ) → listed_from rules nodes piece before ns t ≡ listed_from others nodes piece before ns t
    listed_from_lem before [] t = refl
    listed_from_lem before (n ∷ ns) t =
        let later = listed_from_lem (before ++ n ∷ []) ns t in
        λ i. asks_test (test_at_lem i t) (node_at nodes n) && is_listed_lem i before t || later i

    -- so the wait lists are the same,
    suspend_waits_lem : (walked : List ℕ) → suspend_waits rules nodes piece walked ≡ suspend_waits others nodes piece walked
    suspend_waits_lem walked = λ i. tests_where_lem i (λ t. listed_from_lem [] walked t i)

    execute_waits_lem : (n : ℕ) (x : Outcome) → execute_waits rules piece n x ≡ execute_waits others piece n x
    execute_waits_lem n holds = refl
    execute_waits_lem n not_known =
        λ i. tests_where_lem i
        (λ t. has_test_lem i (pred n) t && is_not_known (outcome_same (pred n) i (test_at_lem i t)))
    execute_waits_lem n contradicted = refl

    -- what a leaf answers is the same,
    at_leaf_lem : (walked : List ℕ) (l : Leaf) → at_leaf rules nodes piece walked l ≡ at_leaf others nodes piece walked l
    at_leaf_lem walked fail_node = refl
    at_leaf_lem walked suspend_node =
        λ i. record { answer = answers.suspend; edges = pred (length walked); waits = suspend_waits_lem walked i }
    at_leaf_lem walked (execute_node n) =
        let outcome = same_tests_same_outcome rules others places pairs n piece in
        let waits = ap (execute_waits rules piece n) outcome ∙ execute_waits_lem n (rule_outcome (rule_at others n) piece) in
        λ i. record { answer = only_rule n (outcome i); edges = pred (length walked); waits = waits i }

    at_end_lem : (x : Path) → at_end rules nodes piece x ≡ at_end others nodes piece x
    at_end_lem (took k way) = ap (took k) (at_leaf_lem way.walked way.last)
    at_end_lem (refused q) = refl

    -- and so is what the walk answers.
    pub same_tests_same_walk : walk rules nodes piece ≡ walk others nodes piece
    same_tests_same_walk = at_end_lem (path nodes piece)
