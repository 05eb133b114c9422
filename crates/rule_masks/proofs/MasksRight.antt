-- The masks of a rule's tests, off its notes and the cells of an accepted piece, are the sets of the rule's tests that are not
-- known and that are contradicted for it in the piece, and they say the rule's outcome.
use Prim.Native.Nat.{ℕ, suc, ◌/◌, ◌%◌, ◌≤◌, ◌<◌}
use mathlib.Core.Path.{◌≡◌, sym, ap, subst, ◌∙◌}
use mathlib.Core.Bool.{Bool, ◌&&◌}
use mathlib.Core.List.{List, ◌++◌, map}
use mathlib.Core.Option.{Option}
use native.Mathlib.Omega.{arith}
use lib.ListN.{length}
use Rattle.masks.specs.Mask.{mask_of}
use Rattle.basics.specs.Lists.{All, Mem, any_of}
use Rattle.basics.proofs.ListLaws.{all_at, all_from, all_join, all_map}
use Rattle.basics.proofs.Filters.{mem_left, mem_right, mem_map, map_join, all_mapped}
use Rattle.basics.proofs.Positions.{mem_at}
use Rattle.terms.specs.Term.{Terms}
use Rattle.terms.specs.Pattern.{Patterns}
use Rattle.terms.specs.RuleTests.{Want, a_symbol, a_number, a_compound, PlaceTest, PairTest, place_tests, pair_tests}
use Rattle.terms.specs.Lookup.{term_at}
use Rattle.terms.specs.Outcome.{Outcome, ◌and◌, place_outcome, pair_outcome, rule_outcome}
use Rattle.terms.specs.Accepted.{AcceptedRule, AcceptedPiece}
use Rattle.terms.specs.Answer.{rule_at}
use Rattle.sheet.specs.views.Noted.{rule_notes}
use Rattle.sheet_tests.specs.SheetTests.{Test, place, pair, rule_tests, sheet_tests}
use Rattle.pairs.specs.views.KeptPairs.{pair_code}
use Rattle.codes.specs.views.Codes.{SoundWant}
use Rattle.codes.proofs.FitCodes.{WantFields}
use Rattle.piece.specs.views.LaidOut.{piece_cells}
use Rattle.outcomes.specs.views.CellOutcome.{pair_cells}
use Rattle.outcomes.proofs.PlaceTestsAgree.{place_test_agrees}
use Rattle.outcomes.proofs.PairTestsAgree.{pair_test_agrees}
use Rattle.plain.proofs.Gathering.{together_append}
use Rattle.decision.specs.Rules.{same_test, test_at}
use Rattle.decision.specs.Walk.{is_not_known, is_contradicted, want_outcome, test_outcome, rule_tests_where}
use Rattle.decision.proofs.rules.NearTests.{rules_near}
use Rattle.decision.proofs.rules.SoundWants.{SoundTest, rule_tests_sound, rule_accepted}
use Rattle.decision.proofs.rules.TestsOfRules.{mem_has, place_wanted}
use Rattle.decision.proofs.rules.TestNumbers.{test_number_lem}
use Rattle.test_list.specs.views.Tests.{spot_code}
use Rattle.rows.proofs.NotesRight.{rule_wants, rule_pairs}
use Rattle.rule_masks.specs.views.RuleMasks.{Made, made, after_all, place_made, pair_made, after_pairs, no_masks, notes_masks}
use Rattle.rule_masks.proofs.Numbers.{number_there, sheet_once}
use Rattle.rule_masks.proofs.PairsApart.{pairs_apart}
use Rattle.rule_masks.proofs.ListedTests.{spot_test, pair_test_lem, map_twice, map_same}
use Rattle.rule_masks.proofs.MadeTurns.{after_append}
use Rattle.rule_masks.proofs.OneMask.{made_test, number, one_mask, two_masks, Right, one_right}
use Rattle.rule_masks.proofs.MasksOutcome.{masks_outcome, outcome_after, together_map}

-- What is sound has fields of its codes.
want_fields : (w : Want) → SoundWant w → WantFields w
want_fields (a_symbol l u) h = (omega (arith, h.0, h.1), h.1)
want_fields (a_number l u) h = (omega (arith, h.0, h.1), h.1)
want_fields (a_compound a n) h = (h.0, omega (arith, h.1))

module _ (arity : ℕ) (rules : List Patterns) (few : arity ≤ 8) (accepted : All (AcceptedRule arity) rules)
    (few_tests : length (sheet_tests rules) ≤ 64) (piece : Terms) (ok : AcceptedPiece arity piece) (i : ℕ) (inside : i < length rules)
  where
    abbrev rule : Patterns
    rule = rule_at rules (suc i)

    abbrev tests : List Test
    tests = sheet_tests rules

    abbrev cells : List ℕ
    cells = piece_cells piece

    own : AcceptedRule arity rule
    own = rule_accepted arity rules accepted i inside

    -- The rule's tests, made in the piece.
    abbrev place_test : PlaceTest → Test
    place_test x = place x.place

    abbrev pair_test : PairTest → Test
    pair_test x = pair x.first x.second

    abbrev place_meant : PlaceTest → Made
    place_meant x = made (spot_code x.place) (place_outcome piece x)

    abbrev pair_meant : PairTest → Made
    pair_meant x = made (pair_code x.first x.second) (pair_outcome piece x)

    abbrev all : List Made
    all = map place_meant (place_tests rule) ++ map pair_meant (pair_tests rule)

    -- They are tests of the sheet.
    rule_mem : (t : Test) → Mem t (rule_tests rule) → Mem t tests
    rule_mem t m =
        let (u, h, e) = test_number_lem rules i inside t (mem_has rule m) in
        subst (λ (x : Test). Mem x tests) e (mem_at (place 0) tests u h)

    place_mem : (x : PlaceTest) → Mem x (place_tests rule) → Mem (place_test x) tests
    place_mem x m = rule_mem (place_test x) (mem_left (map pair_test (pair_tests rule)) (mem_map place_test m))

    pair_mem : (x : PairTest) → Mem x (pair_tests rule) → Mem (pair_test x) tests
    pair_mem x m = rule_mem (pair_test x) (mem_right (map place_test (place_tests rule)) (mem_map pair_test m))

    place_near : (x : PlaceTest) → Mem x (place_tests rule) → x.place < 680
    place_near x m = rules_near arity rules few accepted (place_test x) (place_mem x m)

    pair_near : (x : PairTest) → Mem x (pair_tests rule) → (x.first < 680) × (x.second < 680)
    pair_near x m = rules_near arity rules few accepted (pair_test x) (pair_mem x m)

    -- Their codes are those of their tests,
    place_coded : (x : PlaceTest) → Mem x (place_tests rule) → made_test (place_meant x) ≡ place_test x
    place_coded x m = spot_test x.place (omega (arith, place_near x m))

    pair_coded : (x : PairTest) → Mem x (pair_tests rule) → made_test (pair_meant x) ≡ pair_test x
    pair_coded x m =
        pair_test_lem x.first x.second (pairs_apart arity rules accepted x.first x.second (pair_mem x m))
        (omega (arith, (pair_near x m).1))

    -- and the cells say what the piece does.
    place_says : (x : PlaceTest) → Mem x (place_tests rule) → place_made cells x ≡ place_meant x
    place_says x m =
        let sound = all_at SoundTest m (rule_tests_sound rule own) in
        ap (made (spot_code x.place))
        (place_test_agrees arity piece ok few x.want (want_fields x.want sound) x.place (place_near x m))

    pair_says : (x : PairTest) → Mem x (pair_tests rule) → pair_made cells (pair_code x.first x.second) ≡ pair_meant x
    pair_says x m =
        let code = pair_code x.first x.second in
        let near = pair_near x m in
        let first : code / 0x1_0000 ≡ x.first = omega (arith, near.1) in
        let second : code % 0x1_0000 ≡ x.second = omega (arith, near.1) in
        ap (made code)
        ((λ j. pair_cells cells (first j) (second j))
        ∙ pair_test_agrees arity piece ok few x.first x.second near.0 near.1)

    notes_made_lem : notes_masks tests cells (rule_notes rule) ≡ after_all tests all no_masks
    unfolding notes_masks
    notes_made_lem =
        let places =
        map_same (place_made cells) place_meant (place_tests rule)
        (all_from (λ (x : PlaceTest). place_made cells x ≡ place_meant x) (place_tests rule) place_says) in
        let pairs =
        map_twice (pair_made cells) (λ (x : PairTest). pair_code x.first x.second) pair_meant (pair_tests rule)
        (all_from (λ (x : PairTest). pair_made cells (pair_code x.first x.second) ≡ pair_meant x) (pair_tests rule) pair_says) in
        (λ j. after_pairs tests cells (rule_pairs own j) (after_all tests (map (place_made cells) (rule_wants own j)) no_masks))
        ∙ (λ j. after_all tests (pairs j) (after_all tests (places j) no_masks))
        ∙ sym (after_append tests (map place_meant (place_tests rule)) (map pair_meant (pair_tests rule)) no_masks)

    -- Each has the outcome that it has for the rule.
    abbrev out : Test → Outcome
    out = test_outcome rules piece i

    place_right : (x : PlaceTest) → Mem x (place_tests rule) → Right tests few_tests (sheet_once rules) out (place_meant x)
    place_right x m = (
      subst (λ (t : Test). Mem t tests) (sym (place_coded x m)) (place_mem x m),
      sym
          (ap out (place_coded x m)
          ∙ ap (λ (w : Option Want). want_outcome w (term_at piece x.place)) (place_wanted rule own.sound x m)),
    )

    pair_right : (x : PairTest) → Mem x (pair_tests rule) → Right tests few_tests (sheet_once rules) out (pair_meant x)
    pair_right x m = (subst (λ (t : Test). Mem t tests) (sym (pair_coded x m)) (pair_mem x m), sym (ap out (pair_coded x m)))

    all_right : All (Right tests few_tests (sheet_once rules) out) all
    all_right =
        let R = Right tests few_tests (sheet_once rules) out in
        all_join R (map place_meant (place_tests rule)) (map pair_meant (pair_tests rule))
        (all_mapped R place_meant (place_tests rule) (all_from (λ (x : PlaceTest). R (place_meant x)) (place_tests rule) place_right))
        (all_mapped R pair_meant (pair_tests rule) (all_from (λ (x : PairTest). R (pair_meant x)) (pair_tests rule) pair_right))

    made_tests : map made_test all ≡ rule_tests rule
    made_tests =
        map_join made_test (map place_meant (place_tests rule)) (map pair_meant (pair_tests rule))
        ∙ (λ j.
        map_twice made_test place_meant place_test (place_tests rule)
        (all_from (λ (x : PlaceTest). made_test (place_meant x) ≡ place_test x) (place_tests rule) place_coded) j
        ++ map_twice made_test pair_meant pair_test (pair_tests rule)
        (all_from (λ (x : PairTest). made_test (pair_meant x) ≡ pair_test x) (pair_tests rule) pair_coded) j)

    mask_right
        : (is : Outcome → Bool)
        → mask_of (length tests) (λ t. any_of (same_test (test_at rules t)) (map made_test all) && is (out (test_at rules t)))
        ≡ rule_tests_where rules piece i is
    mask_right is =
        ap (λ (ts : List Test). mask_of (length tests) (λ t. any_of (same_test (test_at rules t)) ts && is (out (test_at rules t))))
        made_tests

    -- The masks are the rule's tests that are not known and those that are contradicted,
    pub masks_right
        : notes_masks tests cells (rule_notes rule)
        ≡ record { unknown = rule_tests_where rules piece i is_not_known; contradicted = rule_tests_where rules piece i is_contradicted }
    masks_right =
        let mask : (is : Outcome → Bool) → one_mask tests is all 0 ≡ rule_tests_where rules piece i is =
        λ is. one_right tests few_tests (sheet_once rules) out is all all_right ∙ mask_right is in
        notes_made_lem
        ∙ two_masks tests all no_masks
        ∙ (λ j. record { unknown = mask is_not_known j; contradicted = mask is_contradicted j })

    -- with the rule's outcome.
    pub outcome_right : masks_outcome (notes_masks tests cells (rule_notes rule)) ≡ rule_outcome rule piece
    outcome_right =
        ap masks_outcome notes_made_lem
        ∙ outcome_after tests all no_masks
        (all_map (Right tests few_tests (sheet_once rules) out) (λ (x : Made). number tests x < 64)
        (λ x r. omega (arith, number_there (made_test x) tests r.0, few_tests)) all all_right)
        ∙ together_append (λ (x : Made). x.outcome) (map place_meant (place_tests rule)) (map pair_meant (pair_tests rule))
        ∙ (λ j. ◌and◌ (together_map place_meant (place_tests rule) j) (together_map pair_meant (pair_tests rule) j))
