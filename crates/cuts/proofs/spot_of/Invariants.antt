-- `cuts::spot_of` meets its contract. The loop's invariant: the cuts passed are below the code.
use Prim.Native.Nat.{ℕ, ◌<◌}
use Rattle.cuts.specs.views.Cuts.{cut_at}
use Rattle.cuts.proofs.spot_of.Given as goal

abbrev pub invariant-loop-k : goal.invariant-loop-k
invariant-loop-k l = (j : ℕ) → j < l.k → (cut_at l.c l.from j).code < l.code
