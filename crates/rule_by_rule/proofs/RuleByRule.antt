-- The plain answer is what the rules, one after another, move fail to.
use Prim.Native.Nat.{ℕ, zero, suc, ◌+◌}
use mathlib.Core.Path.{◌≡◌, refl, sym, ap, ◌∙◌}
use mathlib.Core.Bool.{Bool, cond}
use mathlib.Core.List.{List, [], ◌∷◌}
use native.Mathlib.Omega.{arith}
use lib.ListN.{length, get_or}
use Rattle.basics.specs.Lists.{All, filter, count_from}
use Rattle.terms.specs.Term.{Terms}
use Rattle.terms.specs.Pattern.{Patterns, pnil}
use Rattle.terms.specs.Outcome.{Outcome, holds, not_known, contradicted, rule_outcome}
use Rattle.terms.specs.Answer.{Answer, commit, execute, suspend, fail, rule_at, is_open, only_rule, decide, plain_answer}
use Rattle.rule_by_rule.specs.views.RuleByRule.{opened, answer_after, moved_by}

-- Suspend stays.
pub moved_suspend : (i : ℕ) (o : Outcome) → answer_after suspend i o ≡ suspend
moved_suspend i holds = refl
moved_suspend i not_known = refl
moved_suspend i contradicted = refl

module _ (outcome : ℕ → Outcome) where
  -- The k rules from number i on, one after another.
  abbrev counted : ℕ → ℕ → Answer → Answer
  counted i zero a = a
  counted i (suc k) a = counted (suc i) k (answer_after a i (outcome i))

  abbrev is_open_rule : ℕ → Bool
  is_open_rule i = is_open (outcome i)

  suspended : (i k : ℕ) → counted i k suspend ≡ suspend
  suspended i zero = refl
  suspended i (suc k) = ap (counted (suc i) k) (moved_suspend i (outcome i)) ∙ suspended (suc i) k

  -- A rule is open: the answer so far is about it alone.
  abbrev First : ℕ → Answer → Type 0
  First j a = (only_rule j (outcome j) ≡ a) × ((only : Answer) → opened a only ≡ suspend)

  one_open
      : (j i k : ℕ) (a : Answer) → First j a → decide outcome (j ∷ filter is_open_rule (count_from i k)) ≡ counted i k a
  one_open j i zero a first = first.0
  one_open j i (suc k) a first = go (outcome i) (one_open j (suc i) k a first)
    where
      rest : List ℕ
      rest = filter is_open_rule (count_from (suc i) k)

      go
          : (o : Outcome) → decide outcome (j ∷ rest) ≡ counted (suc i) k a
          → decide outcome (j ∷ cond (is_open o) (i ∷ rest) rest) ≡ counted (suc i) k (answer_after a i o)
      go holds onward = sym (ap (counted (suc i) k) (first.1 (commit i)) ∙ suspended (suc i) k)
      go not_known onward = sym (ap (counted (suc i) k) (first.1 (execute i)) ∙ suspended (suc i) k)
      go contradicted onward = onward

  none_open : (i k : ℕ) → decide outcome (filter is_open_rule (count_from i k)) ≡ counted i k fail
  none_open i zero = refl
  none_open i (suc k) = go (outcome i) refl (none_open (suc i) k)
    where
      rest : List ℕ
      rest = filter is_open_rule (count_from (suc i) k)

      go
          : (o : Outcome) → outcome i ≡ o → decide outcome rest ≡ counted (suc i) k fail
          → decide outcome (cond (is_open o) (i ∷ rest) rest) ≡ counted (suc i) k (answer_after fail i o)
      go holds e onward = one_open i (suc i) k (commit i) (ap (only_rule i) e, λ only. refl)
      go not_known e onward = one_open i (suc i) k (execute i) (ap (only_rule i) e, λ only. refl)
      go contradicted e onward = onward

  -- Numbered from i on, the rules of a list move an answer as the list does.
  numbered
      : (byRule : Patterns → Outcome) (rules : List Patterns) (i : ℕ) (a : Answer)
      → ((n : ℕ) → outcome (i + n) ≡ byRule (get_or rules n pnil)) → counted i (length rules) a ≡ moved_by byRule i a rules
  numbered byRule [] i a same = refl
  numbered byRule (rule ∷ rules) i a same =
      ap (λ (o : Outcome). counted (suc i) (length rules) (answer_after a i o)) (ap outcome (omega arith) ∙ same 0)
      ∙ numbered byRule rules (suc i) (answer_after a i (byRule rule)) (λ n. ap outcome (omega arith) ∙ same (suc n))

-- The plain answer, rule by rule.
pub plain_by_rule
    : (rules : List Patterns) (piece : Terms)
    → plain_answer rules piece ≡ moved_by (λ (rule : Patterns). rule_outcome rule piece) 1 fail rules
plain_by_rule rules piece =
    let outcome : ℕ → Outcome = λ i. rule_outcome (rule_at rules i) piece in
    none_open outcome 1 (length rules)
    ∙ numbered outcome (λ (rule : Patterns). rule_outcome rule piece) rules 1 fail
    (λ n. ap (λ (k : ℕ). rule_outcome (get_or rules k pnil) piece) (omega arith))

-- Rules that have the same outcomes move an answer alike.
pub Moved-same
    : (f g : Patterns → Outcome) (rules : List Patterns) (i : ℕ) (a : Answer) → All (λ (rule : Patterns). f rule ≡ g rule) rules
    → moved_by f i a rules ≡ moved_by g i a rules
Moved-same f g [] i a same = refl
Moved-same f g (rule ∷ rules) i a same =
    ap (λ (o : Outcome). moved_by f (suc i) (answer_after a i o) rules) same.0
    ∙ Moved-same f g rules (suc i) (answer_after a i (g rule)) same.1
