-- `order::table::is_late` meets its contract: the entry of a place's parent, or of 680, is read.
use mathlib.Core.Path.{ap}
use native.Mathlib.Omega.{arith}
use lib.Dec.{eqb}
use lib.ListN.{get_or}
use Prim.Native.Nat.{ℕ}
use Rattle.order.proofs.ReadOn.{parent_inside}
use Rattle.order.proofs.table.is_late.Goals as goal

pub parent_in-requires : goal.parent_in-requires
parent_in-requires c = (c.requires.0, c.requires.1)

pub bounds-down-parent_in : goal.bounds-down-parent_in
bounds-down-parent_in c = omega (arith, c.parent_in.ensures, parent_inside c.args.p c.requires.0)

pub returns : goal.returns
returns c = ap (λ (q : ℕ). eqb (get_or c.args.down.now q 0) 0) c.parent_in.ensures
