-- Which answer demand 3 asks for: one and no other, and by the outcomes of the rules' tests it is known which.
use Prim.Native.Nat.{ℕ}
use mathlib.Core.Path.{◌≡◌, refl, ap, sym, subst, ◌∙◌}
use mathlib.Core.List.{List}
use native.Mathlib.Decide.{ℕ_discrete}
use Rattle.terms.specs.Term.{Terms}
use Rattle.terms.specs.Pattern.{Patterns}
use Rattle.terms.specs.Outcome.{Outcome, holds, not_known, contradicted, Holds, Contradicted, rule_outcome, Meets}
use Rattle.terms.specs.Filling.{WellFormeds, Filling}
use Rattle.terms.specs.Answer.{Answer, commit, execute, suspend, fail, rule_at, only_rule}
use Rattle.terms.specs.Right.{IsRule, EveryMeets, SomeMeets, NoneMeets, NoneMeetsAnother}
use Rattle.terms.specs.Right.{Commits, Executes, Fails, Suspends, Right}
use Rattle.terms.proofs.Outcomes.{Open}
use Rattle.terms.proofs.Says.{Says}
use Rattle.terms.proofs.FillingSentences.{has_filling}

module _ (rules : List Patterns) (piece : Terms) where
  -- The sentence of demand 3 for an answer.
  abbrev Asked : Answer → Type 0
  Asked (commit i) = Commits rules piece i
  Asked (execute i) = Executes rules piece i
  Asked suspend = Suspends rules piece
  Asked fail = Fails rules piece

  -- Where no filling meets a rule other than j, a rule that some filling meets is rule j.
  met_only : (i j : ℕ) → IsRule rules i → SomeMeets rules piece i → NoneMeetsAnother rules piece j → i ≡ j
  met_only i j is_rule some none =
      elim (ℕ_discrete i j) [ yes e ↦ e | no d ↦ absurd (none i is_rule d some.0 some.1 some.2) ]

  -- Where some filling meets a rule, demand 3 does not ask for fail.
  met_or_fail : (i : ℕ) → IsRule rules i → SomeMeets rules piece i → Fails rules piece → ⊥
  met_or_fail i is_rule some f = f i is_rule some.0 some.1 some.2

  -- A right answer is asked for.
  right_asked : (a : Answer) → Right rules piece a → Asked a
  right_asked (commit i) right = (right.commits i).0 refl
  right_asked (execute i) right = (right.executes i).0 refl
  right_asked suspend right = right.suspends.0 refl
  right_asked fail right = right.fails.0 refl

  module _ (ok : WellFormeds piece) where
    -- A rule that every filling meets is met by one.
    every_some : (i : ℕ) → EveryMeets rules piece i → SomeMeets rules piece i
    every_some i every = let f = has_filling piece ok in (f.0, f.1, every f.0 f.1)

    -- Demand 3 never asks for both commit and execute.
    commit_or_execute : (i j : ℕ) → Commits rules piece i → Executes rules piece j → ⊥
    commit_or_execute i j c x =
        let same = met_only i j c.0 (every_some i c.1) x.3 in
        let miss = x.2 in
        miss.2 (subst (EveryMeets rules piece) same c.1 miss.0 miss.1)

    -- Demand 3 asks for one answer.
    one_asked : (a b : Answer) → Asked a → Asked b → a ≡ b
    one_asked (commit i) (commit j) p q = ap commit (met_only i j p.0 (every_some i p.1) q.2)
    one_asked (commit i) (execute j) p q = absurd (commit_or_execute i j p q)
    one_asked (commit i) suspend p q = absurd (q.0 i p)
    one_asked (commit i) fail p q = absurd (met_or_fail i p.0 (every_some i p.1) q)
    one_asked (execute i) (commit j) p q = absurd (commit_or_execute j i q p)
    one_asked (execute i) (execute j) p q = ap execute (met_only i j p.0 p.1 q.3)
    one_asked (execute i) suspend p q = absurd (q.1 i p)
    one_asked (execute i) fail p q = absurd (met_or_fail i p.0 p.1 q)
    one_asked suspend (commit j) p q = absurd (p.0 j q)
    one_asked suspend (execute j) p q = absurd (p.1 j q)
    one_asked suspend suspend p q = refl
    one_asked suspend fail p q = absurd (p.2 q)
    one_asked fail (commit j) p q = absurd (met_or_fail j q.0 (every_some j q.1) p)
    one_asked fail (execute j) p q = absurd (met_or_fail j q.0 q.1 p)
    one_asked fail suspend p q = absurd (q.2 p)
    one_asked fail fail p q = refl

    -- The answer that is asked for is right.
    asked_right : (a : Answer) → Asked a → Right rules piece a
    asked_right a asked = record {
      commits = λ i. (λ e. subst Asked e asked, λ c. one_asked a (commit i) asked c);
      executes = λ i. (λ e. subst Asked e asked, λ c. one_asked a (execute i) asked c);
      fails = (λ e. subst Asked e asked, λ c. one_asked a fail asked c);
      suspends = (λ e. subst Asked e asked, λ c. one_asked a suspend asked c);
    }

    -- There is one right answer.
    pub one_right : (a b : Answer) → Right rules piece a → Right rules piece b → a ≡ b
    one_right a b p q = one_asked a b (right_asked a p) (right_asked b q)

-- One rule of a well-formed piece: what its outcome says is what the fillings do.
module _ (rule : Patterns) (piece : Terms) (ok : WellFormeds piece) where
  -- A rule that every filling meets holds.
  every_holds : (o : Outcome) → Says o rule piece → Says holds rule piece → Holds o
  every_holds holds says every = tt
  every_holds not_known says every = let miss = says.1 in miss.2 (every miss.0 miss.1)
  every_holds contradicted says every = let f = has_filling piece ok in says f.0 f.1 (every f.0 f.1)

  -- A rule that no filling meets is contradicted.
  none_contradicted : (o : Outcome) → Says o rule piece → Says contradicted rule piece → Contradicted o
  none_contradicted holds says none = let f = has_filling piece ok in none f.0 f.1 (says f.0 f.1)
  none_contradicted not_known says none = let met = says.0 in none met.0 met.1 met.2
  none_contradicted contradicted says none = tt

  -- No filling meets a contradicted rule.
  contradicted_none : (o : Outcome) → Says o rule piece → Contradicted o → Says contradicted rule piece
  contradicted_none holds says c = absurd c
  contradicted_none not_known says c = absurd c
  contradicted_none contradicted says c = says

  -- Some filling meets an open rule.
  open-some : (o : Outcome) → Says o rule piece → Open o → (filled : Terms) × Filling piece filled × Meets rule filled
  open-some holds says c = let f = has_filling piece ok in (f.0, f.1, says f.0 f.1)
  open-some not_known says c = says.0
  open-some contradicted says c = absurd c

module _ (rules : List Patterns) (piece : Terms) where
  -- Each rule is contradicted, and each rule but one.
  abbrev pub AllContradicted : Type 0
  AllContradicted = (i : ℕ) → IsRule rules i → Contradicted (rule_outcome (rule_at rules i) piece)

  abbrev pub OthersContradicted : ℕ → Type 0
  OthersContradicted i =
      (j : ℕ) → IsRule rules j → (j ≡ i → ⊥) → Contradicted (rule_outcome (rule_at rules j) piece)

-- All rules of a well-formed piece, where the outcome of each says what the fillings do.
module _ (rules : List Patterns) (piece : Terms) (ok : WellFormeds piece)
    (law : (i : ℕ) → IsRule rules i → Says (rule_outcome (rule_at rules i) piece) (rule_at rules i) piece) where
  abbrev outcome : ℕ → Outcome
  outcome i = rule_outcome (rule_at rules i) piece

  -- Where demand 3 asks for fail, each rule is contradicted.
  pub fails_contradicted : Fails rules piece → AllContradicted rules piece
  fails_contradicted f i is_rule = none_contradicted (rule_at rules i) piece ok (outcome i) (law i is_rule) (f i is_rule)

  -- Where no filling meets another rule, each other rule is contradicted.
  pub others_contradicted : (i : ℕ) → NoneMeetsAnother rules piece i → OthersContradicted rules piece i
  others_contradicted i none j is_rule differ =
      none_contradicted (rule_at rules j) piece ok (outcome j) (law j is_rule) (none j is_rule differ)

  -- Where demand 3 asks for commit, the rule holds.
  pub commits_holds : (i : ℕ) → Commits rules piece i → Holds (outcome i)
  commits_holds i c = every_holds (rule_at rules i) piece ok (outcome i) (law i c.0) c.1

  -- Where each rule is contradicted, fail is right.
  pub right_fail : AllContradicted rules piece → Right rules piece fail
  right_fail all =
      asked_right rules piece ok fail
      (λ i is_rule. contradicted_none (rule_at rules i) piece ok (outcome i) (law i is_rule) (all i is_rule))

  -- Where no filling meets rule i, nor another, fail is asked for.
  all_missed : (i : ℕ) → NoneMeets rules piece i → NoneMeetsAnother rules piece i → Fails rules piece
  all_missed i missed none j other =
      elim (ℕ_discrete j i) [ yes e ↦ subst (NoneMeets rules piece) (sym e) missed | no d ↦ none j other d ]

  -- What is asked for where no filling meets a rule but rule i, by what the outcome of rule i says.
  only_asked
      : (i : ℕ) → IsRule rules i → NoneMeetsAnother rules piece i
      → (o : Outcome) → Says o (rule_at rules i) piece → Asked rules piece (only_rule i o)
  only_asked i is_rule none holds says = (is_rule, says, none)
  only_asked i is_rule none not_known says = (is_rule, says.0, says.1, none)
  only_asked i is_rule none contradicted says = all_missed i says none

  -- Where each rule but rule i is contradicted, the answer by the outcome of rule i is right: commit, execute or fail.
  pub right_only
      : (i : ℕ) → IsRule rules i → OthersContradicted rules piece i → Right rules piece (only_rule i (outcome i))
  right_only i is_rule others =
      asked_right rules piece ok (only_rule i (outcome i)) (only_asked i is_rule none (outcome i) (law i is_rule))
    where
      none : NoneMeetsAnother rules piece i
      none j other differ = contradicted_none (rule_at rules j) piece ok (outcome j) (law j other) (others j other differ)

  -- Where two rules are open, suspend is right.
  pub right_suspend
      : (i j : ℕ) → IsRule rules i → IsRule rules j → (i ≡ j → ⊥) → Open (outcome i) → Open (outcome j)
      → Right rules piece suspend
  right_suspend i j is_rule other differ p q =
      asked_right rules piece ok suspend (λ k c. two k c.2, λ k c. two k c.3, met_or_fail rules piece i is_rule first)
    where
      first : SomeMeets rules piece i
      first = open-some (rule_at rules i) piece ok (outcome i) (law i is_rule) p

      second : SomeMeets rules piece j
      second = open-some (rule_at rules j) piece ok (outcome j) (law j other) q

      two : (k : ℕ) → NoneMeetsAnother rules piece k → ⊥
      two k none =
          differ (met_only rules piece i k is_rule first none ∙ sym (met_only rules piece j k other second none))
