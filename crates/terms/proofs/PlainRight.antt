-- The plain answer is right: going through the rules in order, it meets no open rule, one, or a second.
use Prim.Native.Nat.{ℕ, zero, suc, ◌+◌, ◌≤◌, ◌<◌}
use mathlib.Core.Path.{◌≡◌}
use mathlib.Core.Bool.{Bool, true, false, cond}
use mathlib.Core.List.{List, ◌∷◌}
use borrow.Author.Count.{below_more}
use native.Mathlib.Omega.{arith}
use lib.Dec.{T}
use lib.ListN.{length}
use Rattle.basics.specs.Lists.{filter, count_from}
use Rattle.terms.specs.Term.{Terms}
use Rattle.terms.specs.Pattern.{Patterns}
use Rattle.terms.specs.Outcome.{Outcome, Contradicted, rule_outcome}
use Rattle.terms.specs.Filling.{WellFormeds}
use Rattle.terms.specs.Answer.{rule_at, is_open, decide, plain_answer}
use Rattle.terms.specs.Right.{IsRule, Right}
use Rattle.terms.proofs.Outcomes.{Open, is_open_lem, is_not_open}
use Rattle.terms.proofs.Says.{Says}
use Rattle.terms.proofs.Verdict.{right_fail, right_only, right_suspend}

-- What holds of a filtered list, whether its first thing is let through or left out.
filter_cases
    : (Q : List ℕ → Type 0) (f : ℕ → Bool) (x : ℕ) (xs : List ℕ)
    → (T (f x) → Q (x ∷ filter f xs)) → ((T (f x) → ⊥) → Q (filter f xs)) → Q (filter f (x ∷ xs))
filter_cases Q f x xs = go (f x)
  where
    go
        : (b : Bool) → (T b → Q (x ∷ filter f xs)) → ((T b → ⊥) → Q (filter f xs))
        → Q (cond b (x ∷ filter f xs) (filter f xs))
    go true kept left = kept tt
    go false kept left = left (λ h. h)

module _ (rules : List Patterns) (piece : Terms) (ok : WellFormeds piece)
    (law : (i : ℕ) → IsRule rules i → Says (rule_outcome (rule_at rules i) piece) (rule_at rules i) piece) where
  abbrev outcome : ℕ → Outcome
  outcome i = rule_outcome (rule_at rules i) piece

  abbrev is_open_rule : ℕ → Bool
  is_open_rule i = is_open (outcome i)

  -- The answer is right if these are the open rules.
  abbrev RightFor : List ℕ → Type 0
  RightFor l = Right rules piece (decide outcome l)

  -- No rule before n is open, but perhaps rule i.
  abbrev ClosedBut : ℕ → ℕ → Type 0
  ClosedBut i n = (j : ℕ) → j < n → IsRule rules j → (j ≡ i → ⊥) → Contradicted (outcome j)

  -- Where rule n is not open either, that is so before n + 1.
  closed_next : (i n : ℕ) → ClosedBut i n → (T (is_open_rule n) → ⊥) → ClosedBut i (suc n)
  closed_next i n before closed j l =
      below_more (λ j. IsRule rules j → (j ≡ i → ⊥) → Contradicted (outcome j)) n before
      (λ is_rule differ. is_not_open (outcome n) closed) j (omega arith)

  -- Where rule i is open and no other before n, the answer with the k rules from n on is right.
  one_open
      : (i n k : ℕ) → IsRule rules i → Open (outcome i) → i < n → n + k ≡ suc (length rules) → ClosedBut i n
      → RightFor (i ∷ filter is_open_rule (count_from n k))
  one_open i n zero is_rule may later end before =
      right_only rules piece ok law i is_rule (λ j other. before j (omega arith) other)
  one_open i n (suc k) is_rule may later end before =
      let other : IsRule rules n = (omega arith, omega arith) in
      filter_cases (λ l. RightFor (i ∷ l)) is_open_rule n (count_from (suc n) k)
      (λ kept. right_suspend rules piece ok law i n is_rule other (λ e. omega arith) may (is_open_lem (outcome n) kept))
      (λ left. one_open i (suc n) k is_rule may (omega arith) (omega arith) (closed_next i n before left))

  -- Where no rule before n is open, the answer with the k rules from n on is right.
  none_open
      : (n k : ℕ) → 1 ≤ n → n + k ≡ suc (length rules) → ClosedBut 0 n → RightFor (filter is_open_rule (count_from n k))
  none_open n zero first end before =
      right_fail rules piece ok law (λ j is_rule. before j (omega arith) is_rule (λ e. omega arith))
  none_open n (suc k) first end before =
      let only : ClosedBut n (suc n) = λ j l is_rule differ. before j (omega arith) is_rule (λ e. omega arith) in
      filter_cases RightFor is_open_rule n (count_from (suc n) k)
      (λ kept. one_open n (suc n) k (first, omega arith) (is_open_lem (outcome n) kept) (omega arith) (omega arith) only)
      (λ left. none_open (suc n) k (omega arith) (omega arith) (closed_next 0 n before left))

  -- The plain answer is right.
  pub plain_right : Right rules piece (plain_answer rules piece)
  plain_right = none_open 1 (length rules) (omega arith) (omega arith) (λ j l is_rule. absurd (omega arith))
