-- The list of a suspended piece, off its cells, the notes of the rules and the codes of the tests met, is that of the piece on the
-- nodes walked: the tests met not known, and the places met whose span lies partly inside and partly outside the range of a rule
-- live there. So for every piece that its cells say, spans or not.
use Prim.Native.Nat.{ℕ, suc, ◌≤◌, ◌<◌}
use mathlib.Core.Path.{◌≡◌, refl, sym, ap, ap₂, ◌∙◌}
use mathlib.Core.Bool.{Bool, false, ◌&&◌, ◌||◌}
use mathlib.Core.Logic.{by_cases, inl, inr}
use mathlib.Core.List.{List, [], ◌∷◌, ◌++◌}
use native.Mathlib.Decide.{dec_lt}
use native.Mathlib.Nat.{lt_of_lt_of_le}
use native.Mathlib.Omega.{arith}
use lib.Dec.{eqb}
use lib.ListN.{length, get_or}
use lib.Pow.{pow_mono}
use Rattle.masks.specs.Mask.{has, mask_of}
use Rattle.masks.proofs.Membership.{has_empty, has_above}
use Rattle.masks.proofs.Extensionality.{ext, mask_of_lt, has_mask_of, mask_of_same}
use Rattle.basics.specs.Lists.{All, Mem, any_of, any_below}
use Rattle.basics.proofs.AnyBelow.{any_none, any_same}
use Rattle.basics.proofs.Booleans.{by_test, both_true, true_both, same_truth}
use Rattle.basics.proofs.Filters.{map_join}
use Rattle.basics.proofs.ListLaws.{all_map, all_join}
use Rattle.terms.specs.Term.{Terms}
use Rattle.terms.specs.Pattern.{Patterns, pnil}
use Rattle.terms.specs.Answer.{rule_at}
use Rattle.sheet.specs.views.Noted.{rule_notes}
use Rattle.sheet_tests.specs.SheetTests.{Test, place, pair, sheet_tests}
use Rattle.pairs.specs.views.KeptPairs.{pair_code}
use Rattle.decision.specs.Rules.{same_test, test_at}
use Rattle.decision.specs.Node.{Node, end, switch, pair_node}
use Rattle.decision.specs.Path.{node_at}
use Rattle.decision.specs.Walk.{is_not_known, is_contradicted, test_not_known, is_met, listed_from, suspend_waits, rule_tests_where}
use Rattle.decision.proofs.keys.Sets.{in_where, where_in}
use Rattle.decision.proofs.waiting.SpanWaitsSentence.{span_waits_are}
use Rattle.path.specs.views.Following.{asked_codes, met_codes}
use Rattle.path.proofs.PathsAgree.{nodes_each}
use Rattle.rule_masks.specs.views.TestNumbers.{test_number, code_test, KeptCode}
use Rattle.rule_masks.specs.views.RuleMasks.{notes_masks}
use Rattle.rule_masks.proofs.Numbers.{number_there, number_at, sheet_once}
use Rattle.waiting.specs.views.OpenTests.{met_waits}
use Rattle.waiting.specs.views.SpanTests.{span_at, met_numbers, with_rules, span_list}
use Rattle.waiting.proofs.MetAsked.{open_met, Coded, met_same}
use Rattle.waiting.proofs.ListParts.{numbers_below, list_short, list_long}
use Rattle.waiting.proofs.RuleAlong.{along, along_same, along_none, adds, has_rules, any_numbered}
use Rattle.waiting.proofs.LiveTests.{against, unsure, waits_on, listed_parts, live_first}
use Rattle.waiting.proofs.LiveTests.{Asking, none, one, numbers_on, waits_along}
use Rattle.waiting.proofs.CellsSay.{CellsSay}
use Rattle.waiting.proofs.NoSpans.{no_partly}

-- The test that a node asks is one of these.
abbrev AsksOne : List Test → Node ℕ → Type 0
AsksOne tests n = All (KeptCode tests) (asked_codes n)

module _ (rules : List Patterns) (few_tests : length (sheet_tests rules) ≤ 64) (piece : Terms) (cells : List ℕ)
    (say : CellsSay rules piece cells) (nodes : List (Node ℕ)) (coded : All Coded nodes)
    (asked : All (AsksOne (sheet_tests rules)) nodes) where
  abbrev tests : List Test
  tests = sheet_tests rules

  -- The number of the test that a node asks.
  number_asks
      : (t : ℕ) → t < length tests → (x : Test) (code : ℕ) → code_test code ≡ x → Mem (code_test code) tests
      → same_test (test_at rules t) x ≡ eqb (test_number tests (code_test code)) t
  number_asks t l x code c m =
      ap (same_test (test_at rules t)) (sym c) ∙ sym (number_at (code_test code) (place 0) tests (sheet_once rules) m t l)

  asks_number : (n : Node ℕ) → Coded n → AsksOne tests n → Asking rules nodes piece n (met_numbers tests (asked_codes n))
  asks_number (end l) c k = none (λ t. refl)
  asks_number (switch n cs x y) c k =
      one (test_number tests (code_test (pair_code n n))) (number_there (code_test (pair_code n n)) tests k.0.1)
      (λ t l. number_asks t l (place n) (pair_code n n) c k.0.1)
  asks_number (pair_node p q x y) c k =
      one (test_number tests (code_test (pair_code p q))) (number_there (code_test (pair_code p q)) tests k.0.1)
      (λ t l. number_asks t l (pair p q) (pair_code p q) c k.0.1)

  abbrev number_of : ℕ → List ℕ
  number_of n = met_numbers tests (asked_codes (node_at nodes n))

  asking : (n : ℕ) → Asking rules nodes piece (node_at nodes n) (number_of n)
  asking n = asks_number (node_at nodes n) (nodes_each Coded nodes tt coded n) (nodes_each (AsksOne tests) nodes tt asked n)

  met_kept : (walked : List ℕ) → All (KeptCode tests) (met_codes nodes walked)
  met_kept [] = tt
  met_kept (n ∷ walked) =
      all_join (KeptCode tests) (asked_codes (node_at nodes n)) (met_codes nodes walked) (nodes_each (AsksOne tests) nodes tt asked n)
      (met_kept walked)

  -- The numbers of the tests met are those that the nodes ask.
  numbers_met : (walked : List ℕ) → met_numbers tests (met_codes nodes walked) ≡ numbers_on rules nodes piece number_of asking walked
  numbers_met [] = refl
  numbers_met (n ∷ walked) =
      map_join (λ (c : ℕ). test_number tests (code_test c)) (asked_codes (node_at nodes n)) (met_codes nodes walked)
      ∙ ap (λ (l : List ℕ). number_of n ++ l) (numbers_met walked)

  module _ (walked : List ℕ) where
    abbrev met : List ℕ
    met = met_codes nodes walked

    abbrev numbers : List ℕ
    numbers = met_numbers tests met

    below : All (λ t. t < length tests) numbers
    below = numbers_below tests met (met_kept walked)

    -- What rule i adds by its masks is what it waits for on the walk.
    rule_adds
        : (i t : ℕ) → i < length rules → t < length tests
        → adds tests cells numbers t (get_or rules i pnil) ≡ waits_on rules nodes piece [] walked t i
    rule_adds i t inside l =
        let m = notes_masks tests cells (rule_notes (rule_at rules (suc i))) in
        let right = say.outcomes i inside in
        let bad : m.contradicted ≡ rule_tests_where rules piece i is_contradicted = λ j. (right j).contradicted in
        let open-tests : m.unknown ≡ rule_tests_where rules piece i is_not_known = λ j. (right j).unknown in
        along_same (has m.contradicted) (has m.unknown) (against rules nodes piece i) (unsure rules nodes piece i) numbers
        (all_map (λ u. u < length tests)
        (λ u. (has m.contradicted u ≡ against rules nodes piece i u) × (has m.unknown u ≡ unsure rules nodes piece i u))
        (λ u h. (
          ap (λ (s : ℕ). has s u) bad ∙ has_mask_of (length tests) (against rules nodes piece i) u h,
          ap (λ (s : ℕ). has s u) open-tests ∙ has_mask_of (length tests) (unsure rules nodes piece i) u h,
        )) numbers below) t
        ∙ ap (λ (ns : List ℕ). along (against rules nodes piece i) (unsure rules nodes piece i) ns t) (numbers_met walked)
        ∙ sym
        (waits_along rules nodes piece number_of asking i t l [] walked
        ∙ ap (λ (b : Bool). b && along (against rules nodes piece i) (unsure rules nodes piece i)
        (numbers_on rules nodes piece number_of asking walked) t) (live_first rules nodes piece i))

    abbrev added : ℕ
    added = with_rules tests cells numbers rules 0

    -- The set of what all rules add,
    has_added : (t : ℕ) → t < length tests → has added t ≡ any_below (length rules) (waits_on rules nodes piece [] walked t)
    has_added t l =
        has_rules tests cells numbers rules 0 t (omega arith)
        ∙ ap (λ (b : Bool). b || any_of (adds tests cells numbers t) rules) (has_empty t)
        ∙ any_numbered pnil (adds tests cells numbers t) rules
        ∙ any_same (length rules) _ _ (λ i inside. rule_adds i t inside l)

    no_other : (t : ℕ) → t < 64 → length tests ≤ t → has added t ≡ false
    no_other t fits l =
        has_rules tests cells numbers rules 0 t fits
        ∙ ap (λ (b : Bool). b || any_of (adds tests cells numbers t) rules) (has_empty t)
        ∙ any_numbered pnil (adds tests cells numbers t) rules
        ∙ any_none (length rules) _ (λ i inside. along_none _ _ (length tests) numbers below t l)

    abbrev open_part : ℕ
    open_part = met_waits tests cells met

    open_is : open_part ≡ open_met rules nodes piece walked
    open_is = met_same rules piece cells say.unknowns nodes coded walked

    -- with the tests met that are not known, is the list.
    both_right : mask_of 64 (λ t. has open_part t || has added t) ≡ suspend_waits rules nodes piece walked
    both_right =
        ext 64 (mask_of 64 (λ t. has open_part t || has added t)) (suspend_waits rules nodes piece walked) (mask_of_lt 64 _)
        (lt_of_lt_of_le (mask_of_lt (length tests) (listed_from rules nodes piece [] walked)) (pow_mono few_tests))
        (λ t h.
        has_mask_of 64 (λ u. has open_part u || has added u) t h
        ∙ ap (λ (s : ℕ). has s t || has added t) open_is
        ∙ by_cases (dec_lt t (length tests))
        (λ (l : t < length tests).
        ap₂ (λ (x y : Bool). x || y)
        (has_mask_of (length tests) (λ u. is_met rules nodes walked u && test_not_known piece (test_at rules u)) t l) (has_added t l)
        ∙ sym (listed_parts rules nodes piece [] walked t)
        ∙ sym (has_mask_of (length tests) (listed_from rules nodes piece [] walked) t l))
        (λ (l : t < length tests → ⊥).
        ap₂ (λ (x y : Bool). x || y)
        (has_above (length tests) (open_met rules nodes piece walked) t (mask_of_lt (length tests) _) (omega arith))
        (no_other t h (omega arith))
        ∙ sym (has_above (length tests) (suspend_waits rules nodes piece walked) t (mask_of_lt (length tests) _) (omega arith))))

    -- Where no span is met, they are the list alone.
    open-right : any_of (span_at cells) met ≡ false → open_part ≡ suspend_waits rules nodes piece walked
    open-right free =
        open_is
        ∙ mask_of_same (length tests) (λ u. is_met rules nodes walked u && test_not_known piece (test_at rules u))
        (listed_from rules nodes piece [] walked) (λ t l.
        let listed = listed_from rules nodes piece [] walked in
        let is-met = is_met rules nodes walked t in
        let not_known = test_not_known piece (test_at rules t) in
        let says = span_waits_are rules nodes piece walked t l in
        same_truth (is-met && not_known) (listed t)
        (λ h. (where_in (length tests) listed t (says.1 (inl (both_true is-met not_known h)))).1)
        (λ h. elim (says.0 (in_where (length tests) listed t l h)) [
          | inl s ↦ true_both is-met not_known s.0 s.1
          | inr p ↦ absurd (no_partly rules piece cells say nodes coded walked free t l p)
        ]))

    pub span_waits_right : span_list tests cells rules met ≡ suspend_waits rules nodes piece walked
    span_waits_right =
        by_test (any_of (span_at cells) met)
        (λ e. list_long tests cells rules met e ∙ both_right)
        (λ e. sym (list_short tests cells rules met e) ∙ open-right e)
