-- `pair_outcome` meets its contract: each answer by the tests that led to it.
use Prim.Native.Nat.{ℕ, pred}
use mathlib.Core.Path.{◌≡◌, sym, ap₂, subst, ◌∙◌}
use mathlib.Core.Logic.{inl, inr, ⊎_elim}
use native.Mathlib.Omega.{arith}
use borrow.Author.Rules.{rules}
use borrow.Author.Tests.{eq-eqb, ne_eqb}
use Rattle.places.specs.Numbering.{levels_at}
use Rattle.terms.specs.Outcome.{Outcome}
use Rattle.outcomes.specs.views.CompareCells.{NarrowRun, compare_at}
use Rattle.outcomes.specs.views.CellOutcome.{runs_outcome, pair_cells}
use Rattle.outcomes.proofs.PairCells.{one_lacking, both_there, look_narrow, levels_below, place_inside}
use Rattle.outcomes.proofs.pair_outcome.Goals as goal
use Rattle.outcomes.proofs.pair_outcome.Goals.{After-look-b}

-- Where both places were looked at: how their terms compare, and that the runs decide.
module _ (c : goal.After-look-b) where
  abbrev compared : ℕ → ℕ → Outcome
  compared x y =
      let a = c.args in
      compare_at a.cells.now (pred (levels_at a.p)) (pred (levels_at a.q)) a.p a.q x y

  runs_decide
      : runs_outcome c.look-a.result c.look-b.result (compared c.look-a.result c.look-b.result)
      ≡ pair_cells c.args.cells.now c.args.p c.args.q
  runs_decide = ap₂ (λ x y. runs_outcome x y (compared x y)) c.look-a.ensures c.look-b.ensures

pub returns-then-a-eq0 : goal.returns-then-a-eq0
returns-then-a-eq0 c =
    one_lacking c.look-a.result c.look-b.result _
    (⊎_elim (λ w. inl w) (λ w. inr (eq-eqb _ _ w.1)) c.then-a-eq0.either)
    ∙ runs_decide (goal.at.returns-then-a-eq0 c).After-look-b

pub overflow_sub-depth : goal.overflow_sub-depth
overflow_sub-depth c =
    let levels = levels_below c.args.p c.depth.result c.depth.ensures in
    omega arith

pub overflow_sub-depth-2 : goal.overflow_sub-depth-2
overflow_sub-depth-2 c =
    let levels = levels_below c.args.q c.depth-2.result c.depth-2.ensures in
    omega arith

pub compare-requires : goal.compare-requires
compare-requires c =
    let depth = c.depth in
    let depth-other = c.depth-2 in (
      place_inside c.args.p depth.result depth.ensures (search rules),
      place_inside c.args.q depth-other.result depth-other.ensures (search rules),
      c.requires.2,
      subst NarrowRun (sym c.look-a.ensures) (look_narrow c.args.cells.now c.args.p c.requires.2),
      subst NarrowRun (sym c.look-b.ensures) (look_narrow c.args.cells.now c.args.q c.requires.2),
    )

pub returns : goal.returns
returns c =
    let a = c.args in
    let levels = levels_below a.p c.depth.result c.depth.ensures in
    let levels-other = levels_below a.q c.depth-2.result c.depth-2.ensures in
    c.compare.ensures
    ∙ ap₂ (λ k l. compare_at a.cells.now k l a.p a.q c.look-a.result c.look-b.result) levels.2
    levels-other.2
    ∙ sym (both_there c.look-a.result c.look-b.result _ c.if-a-eq0.false (ne_eqb _ _ c.if-b-eq0.false)) ∙ runs_decide (goal.at.returns c).After-look-b
