-- `number_search::numbers::count_before` meets its contract: the part in which the first of the others stands is halved.
use Prim.Native.Nat.{◌-◌}
use Rattle.number_search.proofs.Halving.{Halved}
use Rattle.number_search.proofs.numbers.count_before.Given as goal

abbrev pub invariant-loop-from : goal.invariant-loop-from
invariant-loop-from l = Halved l.graph l.start l.count l.rank l.from l.to

abbrev pub decreases-loop-from : goal.decreases-loop-from
decreases-loop-from l = l.to - l.from
