-- A loop over the pairs: those passed are written down.
use Prim.Native.Nat.{◌+◌}
use lib.ListN.{take}
use Rattle.test_list.proofs.PutLists.{Putting}
use Rattle.test_list.proofs.tests.put_pairs.Given as goal

abbrev pub invariant-loop-t : goal.invariant-loop-t
invariant-loop-t l = Putting (4 + l.count) (take l.pairs l.codes) l.initial.s l.s l.t
