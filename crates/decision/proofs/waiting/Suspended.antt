-- A walk that suspends: its path ends at a suspend node.
use Prim.Native.Nat.{ℕ}
use mathlib.Core.Path.{◌≡◌, refl, ap, ◌∙◌}
use mathlib.Core.List.{List}
use Rattle.records.specs.Reading.{took, refused}
use Rattle.terms.specs.Term.{Terms}
use Rattle.terms.specs.Pattern.{Patterns}
use Rattle.terms.specs.Outcome.{Outcome, holds, not_known, contradicted, rule_outcome}
use Rattle.terms.specs.Answer.{rule_at, only_rule}
use Rattle.terms.specs.Answer as answers
use Rattle.basics.proofs.Clash.{clash}
use Rattle.decision.specs.Key.{fail_node, suspend_node, execute_node, Leaf}
use Rattle.decision.specs.Node.{Node}
use Rattle.decision.specs.Path.{Path, ends, path, Way}
use Rattle.decision.specs.Walk.{Walk, at_leaf, at_end, walk}

-- Two ways to a leaf that are the same path have the same nodes and the same leaf.
pub way_same
    : {a : ℕ} {w : Way} {walked : List ℕ} {l : Leaf} → took a w ≡ ends walked l
    → (a ≡ 0) × (w.walked ≡ walked) × (w.last ≡ l)
way_same {a} {w} {walked} {l} e =
    let way : ◌≡◌ {A = Way} w (record { walked = walked; last = l }) = cc in
    ((cc), ap (λ (x : Way). x.walked) way, ap (λ (x : Way). x.last) way)

-- The answer at an execute node is never suspend.
execute_not_suspend : {C : Type 0} (i : ℕ) (x : Outcome) → only_rule i x ≡ answers.suspend → C
execute_not_suspend i holds e = clash (cc)
execute_not_suspend i not_known e = clash (cc)
execute_not_suspend i contradicted e = clash (cc)

module _ (rules : List Patterns) (nodes : List (Node ℕ)) (piece : Terms) where
  -- A walk that suspends, by the path that it takes.
  pub record Suspended (w : Walk) : Type 0 where
    pub walked : List ℕ
    pub taken : path nodes piece ≡ ends walked suspend_node
    pub told : at_leaf rules nodes piece walked suspend_node ≡ w

  suspended_at
      : {w : Walk} (walked : List ℕ) (l : Leaf) → path nodes piece ≡ ends walked l → at_leaf rules nodes piece walked l ≡ w
      → w.answer ≡ answers.suspend → Suspended w
  suspended_at walked fail_node d same suspends =
      let fails = ap (λ (v : Walk). v.answer) same ∙ suspends in
      clash (cc)
  suspended_at walked suspend_node d same suspends = record { walked = walked; taken = d; told = same }
  suspended_at walked (execute_node i) d same suspends =
      execute_not_suspend i (rule_outcome (rule_at rules i) piece) (ap (λ (v : Walk). v.answer) same ∙ suspends)

  -- The path of a walk that suspends ends at a suspend node.
  pub suspended : (w : Walk) → walk rules nodes piece ≡ took 0 w → w.answer ≡ answers.suspend → Suspended w
  suspended w e suspends = go (path nodes piece) refl e
    where
      go : (p : Path) → path nodes piece ≡ p → at_end rules nodes piece p ≡ took 0 w → Suspended w
      go (refused q) d k = clash (cc)
      go (took a way) d k =
          let none : a ≡ 0 = cc in
          let same : at_leaf rules nodes piece way.walked way.last ≡ w = cc in
          suspended_at way.walked way.last (d ∙ ap (λ (n : ℕ). took n way) none) same suspends
