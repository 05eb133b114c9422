-- The answer over the rules of a sheet that are read one after another.
use Prim.Native.Nat.{ℕ, suc, ◌+◌, ◌-◌, ◌≤◌, ◌<◌}
use mathlib.Core.Path.{◌≡◌, refl, sym, ap, ◌∙◌}
use mathlib.Core.List.{List, [], ◌∷◌}
use native.Mathlib.Numerals.{add-one}
use native.Mathlib.Omega.{arith}
use lib.ListN.{drop}
use lib.Seq.{drop-drop}
use Rattle.records.specs.Reading.{Reading, took, refused, map_reading, after}
use Rattle.records.proofs.Rows.{row_none, row_refused, row_next}
use Rattle.terms.specs.Pattern.{Patterns}
use Rattle.terms.specs.Outcome.{Outcome}
use Rattle.terms.specs.Answer.{Answer, commit, execute, suspend, fail, word_of}
use Rattle.sheet.specs.views.Noted.{rule_notes}
use Rattle.sheet.specs.ReadSheet.{read_rule, read_rules}
use Rattle.plain.specs.Plain.{PlainValues, answer_values, plain_refusal_values, reading_values}
use Rattle.rule_by_rule.specs.views.RuleByRule.{answer_after, moved_by}
use Rattle.rule_by_rule.proofs.RuleByRule.{moved_suspend}

-- The values do not say how many bytes were read.
values_after
    : {A : Type 0} (a : ℕ) (f : List Patterns → Answer) (g : A → List Patterns) (x : Reading A)
    → reading_values (map_reading f (after a g x)) ≡ reading_values (map_reading (λ (y : A). f (g y)) x)
values_after a f g (took b y) = refl
values_after a f g (refused q) = refl

-- A reading is not refused,
pub readings_apart : {A : Type 0} {b q : ℕ} {x : A} → took b x ≡ refused q → ⊥
readings_apart e = let z : ◌≡◌ {A = ℕ} 0 1 = cc in absurd (omega arith)

-- and two readings of a rule are of one rule.
pub same_rule : {b k : ℕ} {rule other : Patterns} → took b rule ≡ took k other → rule_notes rule ≡ rule_notes other
same_rule e = cc

-- A refusal is no answer.
refusal_no : {q : ℕ} (a : Answer) → plain_refusal_values q ≡ answer_values a → ⊥
refusal_no a e = go a (ap (λ (v : PlainValues). v.word) e)
  where
    go : (x : Answer) → 0 ≡ word_of x → ⊥
    go (commit j) z = omega arith
    go (execute j) z = omega arith
    go suspend z = omega arith
    go fail z = omega arith

module _ (outcome : Patterns → Outcome) (arity count : ℕ) (s : List ℕ) where
  -- What comes of the rules behind the first i, which take so many bytes, where this is answered by those.
  abbrev pub answer_from : ℕ → ℕ → Answer → PlainValues
  answer_from i at a = reading_values (map_reading (moved_by outcome (suc i) a) (read_rules arity (count - i) (drop at s)))

  -- Before the first rule all are to come.
  pub turns_start : (a : Answer) → answer_from 0 0 a ≡ reading_values (map_reading (moved_by outcome 1 a) (read_rules arity count s))
  turns_start a =
      let all : count - 0 ≡ count = omega arith in
      ap (λ (k : ℕ). reading_values (map_reading (moved_by outcome 1 a) (read_rules arity k s))) all

  module _ (i at : ℕ) (a : Answer) where
    -- After the last rule none is to come.
    pub turns_end : count ≤ i → answer_values a ≡ answer_from i at a
    turns_end h =
        sym
        (ap (λ x. reading_values (map_reading (moved_by outcome (suc i) a) x))
        (row_none [] ◌∷◌ (read_rule arity) (count - i) (drop at s) (omega arith)))

    module _ (h : i < count) where
      -- A rule that is refused ends the reading.
      pub turn_refused : {q : ℕ} → read_rule arity (drop at s) ≡ refused q → plain_refusal_values q ≡ answer_from i at a
      turn_refused e =
          sym
          (ap (λ x. reading_values (map_reading (moved_by outcome (suc i) a) x))
          (row_refused [] ◌∷◌ (read_rule arity) (count - i) (drop at s) (omega arith) e))

      -- A rule that is read moves the answer, and the others follow it.
      pub turn_next
          : {b : ℕ} (rule : Patterns) → read_rule arity (drop at s) ≡ took b rule
          → answer_from (i + 1) (at + b) (answer_after a (i + 1) (outcome rule)) ≡ answer_from i at a
      turn_next {b} rule e =
          let less : count - (i + 1) ≡ count - i - 1 = omega arith in
          let next : ℕ → Answer = λ k. answer_after a k (outcome rule) in
          (λ j.
          reading_values
          (map_reading (moved_by outcome (suc (add-one i j)) (next (add-one i j)))
          (read_rules arity (less j) (sym (drop-drop b at s) j))))
          ∙ sym
          (ap (λ x. reading_values (map_reading (moved_by outcome (suc i) a) x))
          (row_next [] ◌∷◌ (read_rule arity) (count - i) (drop at s) (omega arith) e)
          ∙ values_after b (moved_by outcome (suc i) a) (λ rules. rule ∷ rules)
          (read_rules arity (count - i - 1) (drop b (drop at s))))

  -- Where two rules are open and the others can be read, the answer is suspend.
  suspended : (i : ℕ) (rules : List Patterns) → moved_by outcome i suspend rules ≡ suspend
  suspended i [] = refl
  suspended i (rule ∷ rules) =
      ap (λ (a : Answer). moved_by outcome (suc i) a rules) (moved_suspend i (outcome rule)) ∙ suspended (suc i) rules

  pub turns_suspend
      : (i at : ℕ) (a : Answer) → answer_from i at suspend ≡ answer_values a → answer_values suspend ≡ answer_from i at suspend
  turns_suspend i at a e = go (read_rules arity (count - i) (drop at s)) e
    where
      go
          : (x : Reading (List Patterns)) → reading_values (map_reading (moved_by outcome (suc i) suspend) x) ≡ answer_values a
          → answer_values suspend ≡ reading_values (map_reading (moved_by outcome (suc i) suspend) x)
      go (took b rules) h = ap answer_values (sym (suspended (suc i) rules))
      go (refused q) h = absurd (refusal_no a h)

  -- A rule of an accepted sheet can be read.
  pub turn_read
      : (i at : ℕ) (a x : Answer) → i < count → answer_from i at a ≡ answer_values x
      → (b : ℕ) × (rule : Patterns) × (read_rule arity (drop at s) ≡ took b rule)
  turn_read i at a x h e = go (read_rule arity (drop at s)) refl
    where
      go
          : (r : Reading Patterns) → read_rule arity (drop at s) ≡ r
          → (b : ℕ) × (rule : Patterns) × (read_rule arity (drop at s) ≡ took b rule)
      go (took b rule) read = (b, rule, read)
      go (refused q) read = absurd (refusal_no x (turn_refused i at a h read ∙ e))
