-- The step above the depth of a place is the stride of its levels.
use Prim.Native.Nat.{◌+◌, ◌-◌}
use mathlib.Core.Path.{ap, ◌∙◌}
use native.Mathlib.Omega.{arith}
use Rattle.places.specs.Numbering.{stride}
use Rattle.places.proofs.Rows.{step_most}
use Rattle.places.proofs.Levels.{depth_range, levels_by_depth}
use Rattle.test_list.proofs.tests.below_end.Goals as goal

pub overflow_sub-depth : goal.overflow_sub-depth
overflow_sub-depth c = omega (arith, depth_range c.args.p, c.depth.ensures)

pub step-requires : goal.step-requires
step-requires c = omega (arith, depth_range c.args.p, c.depth.ensures)

pub overflow_add-result : goal.overflow_add-result
overflow_add-result c = omega (arith, step_most (c.depth.result - 1), c.step.ensures)

pub returns : goal.returns
returns c =
    let p = c.args.p in
    ap (λ x. p + x) (c.step.ensures ∙ ap (λ d. stride (4 - (d - 1))) c.depth.ensures ∙ ap stride (levels_by_depth p))
