-- A loop over the tests: those passed have the lower ones before them.
use Prim.Native.Nat.{ℕ}
use mathlib.Core.List.{List, map}
use Rattle.basics.specs.Lists.{count_from}
use Rattle.test_list.proofs.PutLists.{Putting}
use Rattle.turns.specs.views.Turned.{lower_tests}
use Rattle.turns.proofs.lowest_first.Given as goal

-- The tests below each.
abbrev pub lower : ℕ → List ℕ
lower count = map lower_tests (count_from 0 count)

abbrev pub invariant-loop-t : goal.invariant-loop-t
invariant-loop-t l = Putting 260 (lower l.count) l.initial.s l.s l.t
