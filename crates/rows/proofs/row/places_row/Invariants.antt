-- A loop over the notes: the place tests of those passed are in the set.
use Prim.Native.Nat.{◌-◌, ◌≤◌}
use mathlib.Core.Path.{◌≡◌}
use lib.ListN.{drop}
use Rattle.sheet.specs.views.NoteArray.{notes_in}
use Rattle.rows.specs.views.Wants.{notes_tests}
use Rattle.rows.specs.views.Row.{with_tests, place_numbers}
use Rattle.rows.proofs.row.places_row.Given as goal

abbrev pub invariant-loop-i : goal.invariant-loop-i
invariant-loop-i l =
    (l.i ≤ l.n)
    × (with_tests (place_numbers l.numbers (notes_tests l.ranges.low l.ranges.high (drop l.i (notes_in l.notes l.n)))) l.row
    ≡ with_tests (place_numbers l.numbers (notes_tests l.ranges.low l.ranges.high (notes_in l.notes l.n))) 0)
