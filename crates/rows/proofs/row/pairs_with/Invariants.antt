-- A loop over the later notes: the pairs with those passed are in the set.
use Prim.Native.Nat.{◌-◌, ◌≤◌}
use mathlib.Core.Path.{◌≡◌}
use lib.ListN.{drop}
use Rattle.sheet.specs.views.NoteArray.{notes_in}
use Rattle.pairs.specs.views.NoteVariables.{codes_with}
use Rattle.tables.specs.views.Planes.{place_tests_in}
use Rattle.test_list.specs.views.Tests.{pairs_listed}
use Rattle.rows.specs.views.Row.{with_tests, pair_numbers}
use Rattle.rows.proofs.row.pairs_with.Given as goal

abbrev pub invariant-loop-j : goal.invariant-loop-j
invariant-loop-j l =
    (l.j ≤ l.n)
    × (with_tests (pair_numbers (place_tests_in l.s) (pairs_listed l.s) (codes_with l.place l.v (drop l.j (notes_in l.notes l.n)))) l.all
    ≡ with_tests (pair_numbers (place_tests_in l.s) (pairs_listed l.s) (codes_with l.place l.v (drop l.from (notes_in l.notes l.n)))) l.row)
