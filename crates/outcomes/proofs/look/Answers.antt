-- `look` meets its contract: the cell of the place, or what the nearest cell above it hides.
use Prim.Native.Nat.{ℕ}
use mathlib.Core.Path.{◌≡◌, sym, ◌∙◌}
use mathlib.Core.Logic.{inl, inr, ⊎_elim}
use borrow.Author.Tests.{eq-eqb, ne_eqb}
use borrow.Author.Rules.{rules}
use Rattle.outcomes.specs.views.Look.{hidden_below, look}
use Rattle.outcomes.proofs.Climbing.{parent_most, hides_itself, hides_nothing, looked_above}
use Rattle.outcomes.proofs.look.Goals as goal
use Rattle.outcomes.proofs.look.Goals.{After-nearest-above}

-- Where the nearest cell above is known, it decides.
module _ (c : goal.After-nearest-above) where
  abbrev above : ℕ
  above = c.nearest-above.result

  above_decides : let a = c.args in look a.cells.now a.p ≡ hidden_below above
  above_decides =
      let a = c.args in
      looked_above a.cells.now a.p c.if-own-ne0.false c.parent.ensures c.nearest-above.ensures

pub returns-then-own-ne0 : goal.returns-then-own-ne0
returns-then-own-ne0 c = simp (ne_eqb _ _ c.if-own-ne0.true)

pub nearest-above-requires : goal.nearest-above-requires
nearest-above-requires c =
    let up = c.parent.ensures in rw up (parent_most c.args.p (search rules))

pub returns-then-above-eq-UNKNOWN : goal.returns-then-above-eq-UNKNOWN
returns-then-above-eq-UNKNOWN c =
    sym
    (above_decides (goal.at.returns-then-above-eq-UNKNOWN c).After-nearest-above
    ∙ hides_itself c.nearest-above.result
    (⊎_elim (λ w. inl w) (λ w. inr (eq-eqb _ _ w.1)) c.then-above-eq-UNKNOWN.either))

pub returns : goal.returns
returns c =
    sym (above_decides (goal.at.returns c).After-nearest-above ∙ hides_nothing c.nearest-above.result c.if-above-eq-UNKNOWN.false
    (ne_eqb _ _ c.if-above-eq-NEVER.false))
