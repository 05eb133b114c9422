-- The place tests, then the pairs.
use mathlib.Core.Path.{ap, ◌∙◌}
use Rattle.sheet.specs.views.NoteArray.{notes_in}
use Rattle.pairs.specs.views.NoteVariables.{notes_codes}
use Rattle.tables.specs.views.Planes.{place_tests_in}
use Rattle.test_list.specs.views.Tests.{pairs_listed}
use Rattle.rows.specs.views.Row.{with_tests, pair_numbers, row_of}
use Rattle.rows.proofs.row.rule_row.Goals as goal

pub places_row-places-requires : goal.places_row-places-requires
places_row-places-requires c = let pre = c.requires in (pre.0, pre.1, pre.2, pre.3)

pub pairs_row-requires : goal.pairs_row-requires
pairs_row-requires c = let pre = c.requires in (pre.0, pre.1, pre.2, pre.4)

pub returns : goal.returns
unfolding row_of
returns c =
    let a = c.args in
    let notes = notes_in a.notes.now a.n in
    let kept = pairs_listed a.s.now in
    let count = place_tests_in a.s.now in
    c.pairs_row.ensures ∙ ap (with_tests (pair_numbers count kept (notes_codes notes))) c.places_row-places.ensures
