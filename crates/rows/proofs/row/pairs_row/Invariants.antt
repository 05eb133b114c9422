-- A loop over the notes: the pairs of those passed are in the set.
use Prim.Native.Nat.{◌-◌, ◌≤◌}
use mathlib.Core.Path.{◌≡◌}
use lib.ListN.{drop}
use Rattle.sheet.specs.views.NoteArray.{notes_in}
use Rattle.pairs.specs.views.NoteVariables.{notes_codes}
use Rattle.tables.specs.views.Planes.{place_tests_in}
use Rattle.test_list.specs.views.Tests.{pairs_listed}
use Rattle.rows.specs.views.Row.{with_tests, pair_numbers}
use Rattle.rows.proofs.row.pairs_row.Given as goal

abbrev pub invariant-loop-i : goal.invariant-loop-i
invariant-loop-i l =
    (l.i ≤ l.n)
    × (with_tests (pair_numbers (place_tests_in l.s) (pairs_listed l.s) (notes_codes (drop l.i (notes_in l.notes l.n)))) l.all
    ≡ with_tests (pair_numbers (place_tests_in l.s) (pairs_listed l.s) (notes_codes (notes_in l.notes l.n))) l.row)
