-- A loop over the place tests: what an unknown at those passed settles is written down.
use Prim.Native.Nat.{ℕ}
use mathlib.Core.List.{List, map}
use Rattle.basics.specs.Lists.{count_from}
use Rattle.tables.specs.views.Planes.{place_tests_in}
use Rattle.test_list.specs.views.Tests.{settled_below}
use Rattle.test_list.proofs.PutLists.{Putting}
use Rattle.test_list.proofs.tests.put_under.Given as goal

abbrev pub sets : List ℕ → List ℕ
sets s = map (settled_below s) (count_from 0 (place_tests_in s))

abbrev pub invariant-loop-t : goal.invariant-loop-t
invariant-loop-t l = Putting 196 (sets l.initial.s) l.initial.s l.s l.t
