-- A search: each number passed is below the code.
use Prim.Native.Nat.{◌+◌}
use mathlib.Core.Path.{◌≡◌}
use lib.ListN.{take, drop}
use Rattle.pairs.specs.views.Slot.{slot}
use Rattle.pairs.proofs.kept.position.Given as goal

abbrev pub invariant-loop-i : goal.invariant-loop-i
invariant-loop-i l = (slot l.code (take l.n l.codes) ≡ l.i + slot l.code (drop l.i (take l.n l.codes)))
