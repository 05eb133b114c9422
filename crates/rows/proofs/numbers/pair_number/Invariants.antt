-- A search: each pair passed comes before the pair.
use Prim.Native.Nat.{◌+◌, ◌-◌, ◌≤◌}
use mathlib.Core.Path.{◌≡◌}
use lib.ListN.{drop}
use Rattle.pairs.specs.views.Slot.{slot}
use Rattle.pairs.specs.views.KeptPairs.{pair_code}
use Rattle.tables.specs.views.Planes.{tests_in, place_tests_in}
use Rattle.test_list.specs.views.Tests.{pairs_listed}
use Rattle.rows.proofs.numbers.pair_number.Given as goal

abbrev pub invariant-loop-i : goal.invariant-loop-i
invariant-loop-i l =
    (l.i ≤ tests_in l.s - place_tests_in l.s) × (slot (pair_code l.p l.q) (pairs_listed l.s) ≡ l.i + slot (pair_code l.p l.q) (drop l.i (pairs_listed l.s)))
