-- At a right leaf the answer is the one that demand 3 asks for: of accepted rules, and of an accepted piece of their
-- arity.
use Prim.Native.Nat.{ℕ, zero, suc, pred}
use mathlib.Core.Logic.{inl, inr}
use mathlib.Core.List.{List}
use native.Mathlib.Omega.{arith}
use lib.Dec.{T}
use Rattle.basics.specs.Lists.{All}
use Rattle.terms.specs.Term.{Terms}
use Rattle.terms.specs.Pattern.{Patterns}
use Rattle.terms.specs.Outcome.{Outcome, rule_outcome}
use Rattle.terms.specs.Accepted.{AcceptedRule, AcceptedPiece}
use Rattle.terms.specs.Answer.{rule_at}
use Rattle.terms.specs.Right.{Right}
use Rattle.terms.proofs.Outcomes.{Open, open_or_contradicted}
use Rattle.terms.proofs.Plain.{rules_say}
use Rattle.terms.proofs.Verdict.{right_fail, right_only, right_suspend}
use Rattle.decision.specs.Rules.{has_test}
use Rattle.decision.specs.Key.{Key, Leaf, fail_node, suspend_node, execute_node, leaf}
use Rattle.decision.specs.Node.{Node}
use Rattle.decision.specs.Walk.{at_leaf}
use Rattle.decision.proofs.elimination.Elimination.{none_left, one_left, alive}
use Rattle.decision.proofs.elimination.FirmTests.{IsIndex, DeadRule, FirmTest, dead_test}
use Rattle.decision.proofs.keys.Vertices.{Settled}
use Rattle.decision.proofs.elimination.RightKeys.{RightKey, RightVertex}

module _ (arity : ℕ) (rules : List Patterns) (piece : Terms)
    (accepted : All (AcceptedRule arity) rules) (ok : AcceptedPiece arity piece) where
  -- The outcome of the tests of a rule, counted from 1.
  abbrev outcome : ℕ → Outcome
  outcome i = rule_outcome (rule_at rules i) piece

  -- A settled rule of a right key is open.
  pub settled_open
      : {Seen : ℕ → Type 0} (key : Key) → RightKey rules piece Seen key → (i : ℕ) → Settled rules key i
      → Open (outcome (suc i))
  settled_open key right i s =
      elim (open_or_contradicted (outcome (suc i))) [
        | inl o ↦ o
        | inr d ↦ absurd (not_dead d)
      ]
    where
      not_dead : DeadRule rules piece i → ⊥
      not_dead =
          alive (IsIndex rules) (FirmTest rules piece) (DeadRule rules piece) right.invariant
          (λ j t. T (has_test rules j t)) (dead_test arity rules piece accepted ok) i s.0
          (λ t h p. s.1 t (right.held t p).0 p h)

  -- The answer at a right leaf is right: where no rule is live, where two rules are settled, and where one rule is
  -- live.
  pub right_leaf
      : {Seen : ℕ → Type 0} (nodes : List (Node ℕ)) (walked : List ℕ) (l : Leaf) → RightVertex rules piece Seen (leaf l)
      → Right rules piece (at_leaf rules nodes piece walked l).answer
  right_leaf nodes walked fail_node v =
      right_fail rules piece ok.well_formed (rules_say arity rules piece accepted ok)
      (λ i is_rule. dead (pred i) (omega arith))
    where
      dead : (i : ℕ) → IsIndex rules i → DeadRule rules piece i
      dead =
          none_left (IsIndex rules) (FirmTest rules piece) (DeadRule rules piece) v.right.invariant
          (λ i m. v.means i (v.right.invariant.inside i m) m)
  right_leaf nodes walked suspend_node v =
      let two = v.means in
      right_suspend rules piece ok.well_formed (rules_say arity rules piece accepted ok) (suc two.lower)
      (suc two.higher) (omega arith, omega arith) (omega arith, omega arith) (λ e. omega arith)
      (settled_open v.key v.right two.lower two.at_lower)
      (settled_open v.key v.right two.higher two.at_higher)
  right_leaf nodes walked (execute_node zero) v = absurd v.means
  right_leaf nodes walked (execute_node (suc i)) v =
      let only = v.means in
      let others =
      one_left (IsIndex rules) (FirmTest rules piece) (DeadRule rules piece) v.right.invariant i
      (λ j m. only.2 j (v.right.invariant.inside j m) m) in
      right_only rules piece ok.well_formed (rules_say arity rules piece accepted ok) (suc i)
      (omega arith, omega (arith, only.0))
      (λ j is_rule differ.
      elim (others (pred j) (omega arith)) [ inl e ↦ absurd (differ (omega arith)) | inr d ↦ d ])
