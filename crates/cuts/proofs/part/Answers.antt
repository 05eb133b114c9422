-- `cuts::part` meets its contract.
use Prim.Native.Nat.{◌+◌, ◌*◌, ◌≤◌}
use native.Mathlib.Omega.{arith}
use native.Mathlib.Nat.{mul-le-mul}
use Rattle.cuts.proofs.part.Goals as goal

pub overflow_mul-result-2 : goal.overflow_mul-result-2
overflow_mul-result-2 c =
    let a = c.args in
    let h : (1 + 4 * a.rules) * a.t ≤ 257 * 64 = mul-le-mul {n₂ = 257} {m₂ = 64} (omega arith) (omega arith) in
    omega arith
