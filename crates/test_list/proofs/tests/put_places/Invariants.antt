-- A loop over the listed places: those passed are written down.
use mathlib.Core.List.{map}
use lib.ListN.{take}
use Rattle.test_list.specs.views.Tests.{spot_code}
use Rattle.test_list.proofs.PutLists.{Putting}
use Rattle.test_list.proofs.tests.put_places.Given as goal

abbrev pub invariant-loop-t : goal.invariant-loop-t
invariant-loop-t l = Putting 4 (map spot_code (take l.count l.places)) l.initial.s l.s l.t
