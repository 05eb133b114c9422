-- `child` meets its contract: the step of depth d is the stride of the levels below it.
use mathlib.Core.Path.{◌≡◌, ap, ◌∙◌}
use Prim.Native.Nat.{ℕ, pred, ◌+◌, ◌*◌, ◌-◌, ◌≤◌}
use native.Mathlib.Nat.{mul-le-mul}
use native.Mathlib.Omega.{arith}
use Rattle.places.specs.Numbering.{stride}
use Rattle.places.proofs.Rows.{step_most}
use Rattle.places.proofs.child.Goals as goal

-- Child j is at most three steps of at most 85 after the first child.
room : (j d s : ℕ) → j ≤ 4 → s ≡ stride (4 - d) → (j - 1) * s ≤ 255
room j d s few is = mul-le-mul {n₁ = j - 1} {m₁ = s} {n₂ = 3} {m₂ = 85} (omega arith) (omega (arith, step_most d))

pub overflow_mul-result : goal.overflow_mul-result
overflow_mul-result c =
    let a = c.args in omega (arith, room a.j a.d c.step.result (omega arith) c.step.ensures)

pub overflow_add-result-2 : goal.overflow_add-result-2
overflow_add-result-2 c =
    let a = c.args in omega (arith, room a.j a.d c.step.result (omega arith) c.step.ensures)

pub returns : goal.returns
returns c =
    let a = c.args in
    let levels : 4 - a.d ≡ pred (5 - a.d) = omega arith in
    ap (λ s. a.p + 1 + (a.j - 1) * s) (c.step.ensures ∙ ap stride levels)
