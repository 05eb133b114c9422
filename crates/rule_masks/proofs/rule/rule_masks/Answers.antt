-- The place tests, then the pairs.
use mathlib.Core.Path.{ap, ◌∙◌}
use Rattle.sheet.specs.views.NoteArray.{notes_in}
use Rattle.pairs.specs.views.NoteVariables.{notes_codes}
use Rattle.rule_masks.specs.views.Kept.{listed_tests}
use Rattle.rule_masks.specs.views.RuleMasks.{after_places, after_pairs, no_masks, notes_masks}
use Rattle.rule_masks.proofs.rule.rule_masks.Goals as goal

pub place_masks-places-requires : goal.place_masks-places-requires
place_masks-places-requires c = let pre = c.requires in (pre.0, pre.1, pre.2, pre.3)

pub pair_masks-requires : goal.pair_masks-requires
pair_masks-requires c = c.requires

pub returns : goal.returns
unfolding notes_masks
returns c =
    let a = c.args in
    let notes = notes_in a.notes.now a.n in
    let tests = listed_tests a.kept.now in
    let ranges = c.ranges-ranges.ensures in
    let places =
    c.place_masks-places.ensures
    ∙ (λ i. after_places tests a.cells.now (ranges i).low (ranges i).high notes no_masks) in
    c.pair_masks.ensures ∙ ap (after_pairs tests a.cells.now (notes_codes notes)) places
