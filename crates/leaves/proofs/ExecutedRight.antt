-- What is answered at an execute by the masks of the rule's tests is what the rule's outcome says.
use Prim.Native.Nat.{ℕ, suc, ◌≤◌, ◌<◌}
use mathlib.Core.Path.{◌≡◌, refl, ap, ◌∙◌}
use mathlib.Core.Bool.{Bool, true, false, cond}
use mathlib.Core.List.{List}
use lib.Dec.{eqb}
use lib.ListN.{length}
use Rattle.basics.specs.Lists.{All}
use Rattle.terms.specs.Term.{Terms}
use Rattle.terms.specs.Pattern.{Patterns}
use Rattle.terms.specs.Outcome.{Outcome, holds, not_known, contradicted, rule_outcome}
use Rattle.terms.specs.Accepted.{AcceptedRule, AcceptedPiece}
use Rattle.terms.specs.Answer.{Answer, commit, execute, fail, rule_at, only_rule}
use Rattle.sheet.specs.views.Noted.{rule_notes}
use Rattle.sheet_tests.specs.SheetTests.{sheet_tests}
use Rattle.piece.specs.views.LaidOut.{piece_cells}
use Rattle.decision.specs.Walk.{is_not_known, rule_tests_where, execute_waits}
use Rattle.rule_masks.specs.declared.Masks.{Masks}
use Rattle.rule_masks.specs.views.RuleMasks.{notes_masks}
use Rattle.rule_masks.proofs.MasksOutcome.{masks_outcome}
use Rattle.rule_masks.proofs.MasksRight.{masks_right, outcome_right}
use Rattle.leaves.specs.views.LeafAnswers.{RuleEnd, executed_by}

-- A wait list holds "for execute those of rule i not known, else none".
abbrev waits_of : Outcome → ℕ → ℕ
waits_of holds own = 0
waits_of not_known own = own
waits_of contradicted own = 0

-- What is answered goes by the outcome.
executed_by_lem
    : (rule : ℕ) (m : Masks)
    → executed_by rule m ≡ record { answer = only_rule rule (masks_outcome m); waits = waits_of (masks_outcome m) m.unknown }
executed_by_lem rule m = go (eqb m.contradicted 0) (eqb m.unknown 0)
  where
    ended : Answer → ℕ → RuleEnd
    ended answer waits = record { answer = answer; waits = waits }

    go
        : (a b : Bool)
        → cond a (cond b (ended (commit rule) 0) (ended (execute rule) m.unknown)) (ended fail 0)
        ≡ ended (only_rule rule (cond a (cond b holds not_known) contradicted))
        (waits_of (cond a (cond b holds not_known) contradicted) m.unknown)
    go true true = refl
    go true false = refl
    go false b = refl

module _ (arity : ℕ) (rules : List Patterns) (few : arity ≤ 8) (accepted : All (AcceptedRule arity) rules)
    (few_tests : length (sheet_tests rules) ≤ 64) (piece : Terms) (ok : AcceptedPiece arity piece) (i : ℕ) (inside : i < length rules)
  where
    abbrev rule : Patterns
    rule = rule_at rules (suc i)

    waits_right
        : (o : Outcome) {set : ℕ} → set ≡ rule_tests_where rules piece i is_not_known
        → waits_of o set ≡ execute_waits rules piece (suc i) o
    waits_right holds e = refl
    waits_right not_known e = e
    waits_right contradicted e = refl

    pub executed_right
        : executed_by (suc i) (notes_masks (sheet_tests rules) (piece_cells piece) (rule_notes rule))
        ≡ record {
          answer = only_rule (suc i) (rule_outcome rule piece);
          waits = execute_waits rules piece (suc i) (rule_outcome rule piece);
        }
    executed_right =
        let m = notes_masks (sheet_tests rules) (piece_cells piece) (rule_notes rule) in
        let outcome = outcome_right arity rules few accepted few_tests piece ok i inside in
        let unknown : m.unknown ≡ rule_tests_where rules piece i is_not_known =
        λ j. (masks_right arity rules few accepted few_tests piece ok i inside j).unknown in
        executed_by_lem (suc i) m
        ∙ (λ j. record { answer = only_rule (suc i) (outcome j); waits = waits_of (outcome j) m.unknown })
        ∙ ap (λ (w : ℕ). record { answer = only_rule (suc i) (rule_outcome rule piece); waits = w })
        (waits_right (rule_outcome rule piece) unknown)
