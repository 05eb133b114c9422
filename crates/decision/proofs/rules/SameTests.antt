-- A sheet goes by the tests of its rules alone: two sheets whose rules have, one after another, the same place tests and the
-- same equality tests have the same tests, the same outcome of each rule and the same plain answer.
use Prim.Native.Nat.{ℕ, pred}
use mathlib.Core.Path.{◌≡◌, refl, sym, ap, ◌∙◌}
use mathlib.Core.List.{List, [], ◌∷◌, ◌++◌, map}
use lib.ListN.{length, get_or, length-map, get_or-map}
use Rattle.masks.specs.Mask.{mask_of}
use Rattle.basics.specs.Lists.{filter, any_of, count_from}
use Rattle.basics.proofs.Clash.{clash}
use Rattle.terms.specs.Term.{Terms}
use Rattle.terms.specs.Pattern.{Patterns, pnil}
use Rattle.terms.specs.RuleTests.{PlaceTest, PairTest, place_tests, pair_tests}
use Rattle.terms.specs.Outcome.{◌and◌, together, place_outcome, pair_outcome, rule_outcome}
use Rattle.terms.specs.Answer.{rule_at, is_open, decide, plain_answer}
use Rattle.sheet_tests.specs.SheetTests.{place, pair, rule_tests, all_tests, ascending, sheet_tests}
use Rattle.decision.specs.Rules.{same_test, want_in, test_at, has_test, want_at, rules_where, tests_where}

-- The tests of a rule are those of its two lists,
rule_tests_same
    : (rule other : Patterns) → place_tests rule ≡ place_tests other → pair_tests rule ≡ pair_tests other
    → rule_tests rule ≡ rule_tests other
rule_tests_same rule other p q =
    λ i. map (λ (x : PlaceTest). place x.place) (p i) ++ map (λ (x : PairTest). pair x.first x.second) (q i)

-- and so for all rules.
all_tests_same
    : (rules others : List Patterns) → map place_tests rules ≡ map place_tests others → map pair_tests rules ≡ map pair_tests others
    → all_tests rules ≡ all_tests others
all_tests_same [] [] places pairs = refl
all_tests_same [] (q ∷ qs) places pairs = clash cc
all_tests_same (r ∷ rs) [] places pairs = clash cc
all_tests_same (r ∷ rs) (q ∷ qs) places pairs =
    let p : place_tests r ≡ place_tests q = cc in
    let e : pair_tests r ≡ pair_tests q = cc in
    let ps : map place_tests rs ≡ map place_tests qs = cc in
    let es : map pair_tests rs ≡ map pair_tests qs = cc in
    let rest = all_tests_same rs qs ps es in
    λ i. rule_tests_same r q p e i ++ rest i

module _
    (rules others : List Patterns) (places : map place_tests rules ≡ map place_tests others)
    (pairs : map pair_tests rules ≡ map pair_tests others)
  where
    -- As many rules,
    pub same_tests_same_count : length rules ≡ length others
    same_tests_same_count = sym (length-map rules place_tests) ∙ ap length places ∙ length-map others place_tests

    -- each with the same tests,
    places_at : (n : ℕ) → place_tests (get_or rules n pnil) ≡ place_tests (get_or others n pnil)
    places_at n =
        sym (get_or-map place_tests rules n pnil)
        ∙ ap (λ (l : List (List PlaceTest)). get_or l n []) places
        ∙ get_or-map place_tests others n pnil

    pairs_at : (n : ℕ) → pair_tests (get_or rules n pnil) ≡ pair_tests (get_or others n pnil)
    pairs_at n =
        sym (get_or-map pair_tests rules n pnil)
        ∙ ap (λ (l : List (List PairTest)). get_or l n []) pairs
        ∙ get_or-map pair_tests others n pnil

    -- and the same tests of the sheet, under the same numbers.
    pub same_tests_same_tests : sheet_tests rules ≡ sheet_tests others
    same_tests_same_tests = ap ascending (all_tests_same rules others places pairs)

    pub same_test_at : test_at rules ≡ test_at others
    same_test_at = λ i t. get_or (same_tests_same_tests i) t (place 0)

    rule_tests_at : (n : ℕ) → rule_tests (get_or rules n pnil) ≡ rule_tests (get_or others n pnil)
    rule_tests_at n = rule_tests_same (get_or rules n pnil) (get_or others n pnil) (places_at n) (pairs_at n)

    -- A rule has the same of them, and wants the same at each place.
    pub same_has_test : has_test rules ≡ has_test others
    same_has_test = λ i n t. any_of (same_test (same_test_at i t)) (rule_tests_at n i)

    pub same_want_at : want_at rules ≡ want_at others
    same_want_at = λ i n m. want_in (places_at n i) m

    -- So the sets of rules and of tests are made alike.
    pub same_rules_where : rules_where rules ≡ rules_where others
    same_rules_where = λ i p. mask_of (same_tests_same_count i) p

    pub same_tests_where : tests_where rules ≡ tests_where others
    same_tests_where = λ i p. mask_of (length (same_tests_same_tests i)) p

    -- Each rule has the same outcome,
    pub same_tests_same_outcome : (n : ℕ) (piece : Terms) → rule_outcome (rule_at rules n) piece ≡ rule_outcome (rule_at others n) piece
    same_tests_same_outcome n piece =
        λ i. ◌and◌ (together (place_outcome piece) (places_at (pred n) i)) (together (pair_outcome piece) (pairs_at (pred n) i))

    -- and the sheet the same plain answer.
    pub same_tests_same_plain : (piece : Terms) → plain_answer rules piece ≡ plain_answer others piece
    same_tests_same_plain piece =
        λ i. decide (λ n. same_tests_same_outcome n piece i)
        (filter (λ (n : ℕ). is_open (same_tests_same_outcome n piece i)) (count_from 1 (same_tests_same_count i)))
