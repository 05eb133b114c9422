-- `step` meets its contract: a power of 4, less 1, divided by 3 is the stride of the levels.
use mathlib.Core.Path.{ap, ◌∙◌}
use Prim.Native.Nat.{ℕ, ◌-◌, ◌/◌}
use native.Mathlib.Omega.{arith}
use Rattle.places.proofs.Steps.{stride_power, stride_closed, shifted}
use Rattle.places.proofs.step.Goals as goal

pub overflow_sub-result-2 : goal.overflow_sub-result-2
overflow_sub-result-2 c = let d = c.args.d in omega (arith, shifted (4 - d) (omega arith), stride_power (4 - d))

pub returns : goal.returns
returns c =
    let d = c.args.d in
    ap (λ (x : ℕ). (x - 1) / 3) (shifted (4 - d) (omega arith)) ∙ stride_closed (4 - d)
