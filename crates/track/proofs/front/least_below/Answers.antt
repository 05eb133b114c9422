-- `track::front::least_below` meets its contract: the children of a place are a row.
use Prim.Native.Nat.{◌+◌, ◌≤◌}
use mathlib.Core.Path.{sym, ◌∙◌}
use native.Mathlib.Omega.{arith}
use Rattle.places.proofs.Levels.{depth_range}
use Rattle.places.proofs.Rows.{step_most}
use Rattle.track.proofs.Rows.{Row, children, no_children, below_none, least_below}
use Rattle.track.proofs.front.least_below.Goals as goal
use Rattle.track.proofs.front.least_below.Goals.{Else-depth-eq4, After-step}

pub returns-then-depth-eq4 : goal.returns-then-depth-eq4
returns-then-depth-eq4 c =
    below_none _ _ (no_children c.args.p c.requires.1 (sym c.requires.2 ∙ c.if-depth-eq4.true))

-- A place that is not at the deepest depth has children.
module _ (c : Else-depth-eq4) where
  some : c.args.depth ≤ 3
  some =
      omega (arith, depth_range c.args.p, c.requires.2, c.if-depth-eq4.false)

pub step-requires : goal.step-requires
step-requires c = some (goal.at.step-requires c).Else-depth-eq4

module _ (c : After-step) where
  row : Row c.args.p (c.args.p + 1) c.step.result 4
  row =
      children c.args.p c.args.depth c.step.result c.requires.1 c.requires.2 (omega (arith, depth_range c.args.p, c.requires.2, c.if-depth-eq4.false))
      c.step.ensures

pub least_row-requires : goal.least_row-requires
least_row-requires c =
    (c.requires.0, omega (arith, c.step.ensures, step_most c.args.depth), (row (goal.at.least_row-requires c).After-step).inside)

pub returns : goal.returns
returns c = least_below (row (goal.at.returns c).After-step) c.least_row.ensures
