-- `masks::full` meets its contract: `2 ^ n - 1` has the numbers below n, and where n is 64 or more these are all.
-- Assumes nothing.
use mathlib.Core.Path.{sym, ap, ◌∙◌}
use Prim.Native.Nat.{ℕ, ◌-◌}
use native.Mathlib.Omega.{arith}
use lib.Pow.{pow_pos}
use borrow.Author.Rules.{rules}
use borrow.Author.Tests.{lt-ltb}
use Rattle.masks.proofs.Extensionality.{mask_of_same}
use Rattle.masks.proofs.Operations.{shl_one, full_is}
use Rattle.masks.proofs.full.Goals as goal

pub returns-then-n-ge64 : goal.returns-then-n-ge64
returns-then-n-ge64 c =
    full_is 64 64 (omega arith)
    ∙ mask_of_same 64 _ _ (λ i l. lt-ltb i 64 l ∙ sym (lt-ltb i c.args.n (omega arith)))

pub overflow_sub-result : goal.overflow_sub-result
overflow_sub-result c = omega (arith, shl_one 64 c.args.n (search rules), pow_pos c.args.n)

pub returns : goal.returns
returns c =
    let n = c.args.n in
    ap (λ (x : ℕ). x - 1) (shl_one 64 n (search rules)) ∙ full_is 64 n (omega arith)
