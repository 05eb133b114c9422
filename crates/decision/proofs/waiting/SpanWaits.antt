-- The list of a walk that suspends (document 02, request 4): "For suspend, a place met is also listed if its span lies partly
-- inside and partly outside the range of a rule live there." What is met and not known for a rule that is open is listed.
use Prim.Native.Nat.{ℕ, suc, ◌<◌}
use mathlib.Core.Bool.{◌&&◌}
use mathlib.Core.Logic.{inl, inr}
use mathlib.Core.List.{List, [], ◌∷◌, ◌++◌}
use lib.Dec.{T}
use lib.ListN.{length}
use Rattle.masks.specs.Mask.{has}
use Rattle.basics.specs.Lists.{All}
use Rattle.basics.proofs.ListLaws.{all_at}
use Rattle.basics.proofs.Booleans.{true_both, either_true, true_left, true_right}
use Rattle.terms.specs.Term.{Terms}
use Rattle.terms.specs.Pattern.{Patterns}
use Rattle.terms.specs.RuleTests.{PlaceTest, PairTest, place_tests}
use Rattle.terms.specs.Outcome.{Outcome, holds, not_known, contradicted, NotKnown}
use Rattle.terms.specs.Outcome.{place_outcome, pair_outcome, rule_outcome}
use Rattle.terms.specs.Accepted.{AcceptedRule}
use Rattle.terms.specs.Answer.{rule_at}
use Rattle.terms.proofs.Outcomes.{Open}
use Rattle.terms.proofs.RuleOutcomes.{outcome_open}
use Rattle.sheet_tests.specs.SheetTests.{Test, place, pair, sheet_tests}
use Rattle.decision.specs.Rules.{test_at, has_test}
use Rattle.decision.specs.Node.{Node}
use Rattle.decision.specs.Path.{node_at}
use Rattle.decision.specs.Walk.{is_not_known, test_not_known, asks_test, is_met, test_outcome, is_contradicted, live_on}
use Rattle.decision.specs.Walk.{waits_for, is_listed, listed_from, suspend_waits}
use Rattle.decision.specs.Waiting.{IsTest}
use Rattle.decision.proofs.keys.Sets.{in_where, in_any}
use Rattle.decision.proofs.rules.SoundWants.{rule_accepted}
use Rattle.decision.proofs.rules.TestsOfRules.{HasTest, want_test, has_want, has_pair_lem}
use Rattle.decision.proofs.walking.LiveOn.{live_says}
use Rattle.decision.proofs.waiting.KeptOpen.{Unsure}

module _ (rules : List Patterns) (nodes : List (Node ℕ)) (piece : Terms) where
  -- A test that is met and would be listed after any nodes is listed.
  pub met_listed
      : (t : ℕ) → ((before : List ℕ) → T (is_listed rules nodes piece before t)) → (before ns : List ℕ) → T (is_met rules nodes ns t)
      → T (listed_from rules nodes piece before ns t)
  met_listed t always before [] met = met
  met_listed t always before (n ∷ ns) met =
      let asked = asks_test (test_at rules t) (node_at nodes n) in
      let now = asked && is_listed rules nodes piece before t in
      let later = listed_from rules nodes piece (before ++ n ∷ []) ns t in
      elim (either_true asked (is_met rules nodes ns t) met) [
        | inl k ↦ true_left now later (true_both asked (is_listed rules nodes piece before t) k (always before))
        | inr k ↦ true_right now later (met_listed t always (before ++ n ∷ []) ns k)
      ]

-- What is not known passes the walk's test for it,
pub is_not_known_lem : (x : Outcome) → NotKnown x → T (is_not_known x)
is_not_known_lem holds h = h
is_not_known_lem not_known h = h
is_not_known_lem contradicted h = h

-- what passes it is not known,
pub not_known_is : (x : Outcome) → T (is_not_known x) → NotKnown x
not_known_is holds h = h
not_known_is not_known h = h
not_known_is contradicted h = h

-- and what is open is not contradicted.
open-against : (x : Outcome) → Open x → T (is_contradicted x) → ⊥
open-against holds o c = c
open-against not_known o c = c
open-against contradicted o c = o

module _ (arity : ℕ) (rules : List Patterns) (accepted : All (AcceptedRule arity) rules) (nodes : List (Node ℕ))
    (piece : Terms) where
  module _ (i : ℕ) (l : i < length rules) (may : Open (rule_outcome (rule_at rules (suc i)) piece)) where
    -- No test of a rule that is open is contradicted,
    test_open : (x : Test) → HasTest (rule_at rules (suc i)) x → Open (test_outcome rules piece i x)
    test_open (place n) own =
        let rule = rule_at rules (suc i) in
        let w = has_want rule (rule_accepted arity rules accepted i l).sound n own in
        let free = ((outcome_open rule piece).0 may).0 in
        rw w.1 (all_at (λ (y : PlaceTest). Open (place_outcome piece y)) (want_test (place_tests rule) n w.0 w.1) free)
    test_open (pair p q) own =
        let rule = rule_at rules (suc i) in
        all_at (λ (y : PairTest). Open (pair_outcome piece y)) (has_pair_lem rule p q own) ((outcome_open rule piece).0 may).1

    -- so it is live, whatever was walked.
    open-live : (before : List ℕ) → T (live_on rules nodes piece before i)
    open-live before =
        (live_says arity rules accepted piece nodes before i).1
        (λ u inside met own against.
        open-against (test_outcome rules piece i (test_at rules u)) (test_open (test_at rules u) own) against)

  -- A test met that is not known, whatever a rule wants or for a rule that is open, is listed.
  pub unsure_listed
      : (walked : List ℕ) (t : ℕ) → IsTest rules t → T (is_met rules nodes walked t) → Unsure rules piece t
      → T (has (suspend_waits rules nodes piece walked) t)
  unsure_listed walked t inside met unsure =
      in_where (length (sheet_tests rules)) (listed_from rules nodes piece [] walked) t inside
      (met_listed rules nodes piece t (always unsure) [] walked met)
    where
      always : Unsure rules piece t → (before : List ℕ) → T (is_listed rules nodes piece before t)
      always (inl u) before = true_left (test_not_known piece (test_at rules t)) _ u
      always (inr (i, l, may, own, u)) before =
          let live = open-live i l may before in
          let outcome = test_outcome rules piece i (test_at rules t) in
          true_right (test_not_known piece (test_at rules t)) _
          (in_any (length rules) i (waits_for rules nodes piece before t) l
          (true_both (live_on rules nodes piece before i && has_test rules i t) (is_not_known outcome)
          (true_both (live_on rules nodes piece before i) (has_test rules i t) live own) (is_not_known_lem outcome u)))
