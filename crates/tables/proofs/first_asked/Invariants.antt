-- `tables::first_asked` meets its contract: where it stands, as many steps are left as make up the answer.
use Prim.Native.Nat.{ℕ, ◌-◌, ◌<◌, ◌≤◌, ◌^◌}
use mathlib.Core.Path.{◌≡◌, sym, ap, ◌∙◌}
use native.Mathlib.Omega.{arith}
use lib.Bits.{bit_and, and_le_l}
use lib.Count.{count_trailing_zeros, trailing_le}
use borrow.Author.Rules.{rules}
use Rattle.masks.proofs.Operations.{and_fits}
use Rattle.masks.proofs.LowestMember.{trailing_lt}
use Rattle.tables.specs.views.Planes.{first_from, first_asked_in}
use Rattle.tables.proofs.AskedFrom.{fewer, from_step, from_end}
use Rattle.tables.proofs.first_asked.Given as goal

abbrev pub invariant-loop-earlier : goal.invariant-loop-earlier
invariant-loop-earlier l =
    (l.t < 64) × (l.earlier < 2 ^ 64)
    × (steps : ℕ) × (l.earlier ≤ steps) × (first_from l.s steps l.t l.earlier ≡ first_asked_in l.s l.pending)

abbrev pub decreases-loop-earlier : goal.decreases-loop-earlier
decreases-loop-earlier l = l.earlier
