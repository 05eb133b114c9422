-- Right answers keep what they promise for a piece filled in further: what holds or is contradicted stays so.
use Prim.Native.Nat.{ℕ}
use mathlib.Core.Path.{◌≡◌, refl, ◌∙◌}
use mathlib.Core.Logic.{◌⊎◌, inl, inr}
use mathlib.Core.List.{List}
use Rattle.terms.specs.Term.{Terms}
use Rattle.terms.specs.Pattern.{Patterns}
use Rattle.terms.specs.Outcome.{Outcome, holds, not_known, contradicted, Holds, Contradicted, rule_outcome}
use Rattle.terms.specs.Filling.{WellFormeds}
use Rattle.terms.specs.Answer.{Answer, commit, execute, fail, rule_at, only_rule}
use Rattle.terms.specs.Right.{IsRule, NoneMeetsAnother, Right, Keeps}
use Rattle.terms.proofs.Outcomes.{Stays, stays_holds, stays_contradicted}
use Rattle.terms.proofs.Says.{Says}
use Rattle.terms.proofs.Verdict.{AllContradicted, OthersContradicted, one_right, right_fail, right_only}
use Rattle.terms.proofs.Verdict.{fails_contradicted, others_contradicted, commits_holds}

-- A rule that is left alone and holds is committed to.
only_holds : (i : ℕ) (o : Outcome) → Holds o → only_rule i o ≡ commit i
only_holds i holds h = refl
only_holds i not_known h = absurd h
only_holds i contradicted h = absurd h

-- A rule that is left alone is executed, committed to, or fails.
only_goes : (i : ℕ) (o : Outcome) → (only_rule i o ≡ execute i) ⊎ ((only_rule i o ≡ commit i) ⊎ (only_rule i o ≡ fail))
only_goes i holds = inr (inl refl)
only_goes i not_known = inl refl
only_goes i contradicted = inr (inr refl)

module _ (rules : List Patterns) (piece further : Terms) (ok : WellFormeds piece) (okFurther : WellFormeds further)
    (stay : (i : ℕ) → Stays (rule_outcome (rule_at rules i) piece) (rule_outcome (rule_at rules i) further))
    (law : (i : ℕ) → IsRule rules i → Says (rule_outcome (rule_at rules i) piece) (rule_at rules i) piece)
    (lawFurther : (i : ℕ) → IsRule rules i → Says (rule_outcome (rule_at rules i) further) (rule_at rules i) further) where
  abbrev before : ℕ → Outcome
  before i = rule_outcome (rule_at rules i) piece

  abbrev after : ℕ → Outcome
  after i = rule_outcome (rule_at rules i) further

  -- A contradicted rule stays contradicted.
  contradicted_after : (i : ℕ) → Contradicted (before i) → Contradicted (after i)
  contradicted_after i = stays_contradicted (before i) (after i) (stay i)

  -- Where no filling of the piece meets another rule than i, rule i alone is left for the piece filled in further.
  only_after
      : (i : ℕ) → IsRule rules i → NoneMeetsAnother rules piece i
      → (b : Answer) → Right rules further b → b ≡ only_rule i (after i)
  only_after i is_rule none b right =
      let others = others_contradicted rules piece ok law i none in
      let othersAfter : OthersContradicted rules further i = λ j other differ. contradicted_after j (others j other differ) in
      one_right rules further okFurther b (only_rule i (after i)) right
      (right_only rules further okFurther lawFurther i is_rule othersAfter)

  -- Right answers keep what they promise.
  pub right_keeps : (a b : Answer) → Right rules piece a → Right rules further b → Keeps a b
  right_keeps a b right rightFurther = record {
    fail_stays = λ e.
        let all = fails_contradicted rules piece ok law (right.fails.0 e) in
        let allAfter : AllContradicted rules further = λ i is_rule. contradicted_after i (all i is_rule) in
        one_right rules further okFurther b fail rightFurther (right_fail rules further okFurther lawFurther allAfter);
    commit_stays = λ i e.
        let c = (right.commits i).0 e in
        only_after i c.0 c.2 b rightFurther
        ∙ only_holds i (after i) (stays_holds (before i) (after i) (stay i) (commits_holds rules piece ok law i c));
    execute_goes = λ i e.
        let x = (right.executes i).0 e in
        rw (only_after i x.0 x.3 b rightFurther) (only_goes i (after i));
  }
