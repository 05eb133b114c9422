-- A loop over the notes: the place tests of those passed are made.
use mathlib.Core.Path.{◌≡◌}
use lib.ListN.{drop}
use Rattle.sheet.specs.views.NoteArray.{notes_in}
use Rattle.rule_masks.specs.views.Kept.{listed_tests}
use Rattle.rule_masks.specs.views.RuleMasks.{after_places, no_masks}
use Rattle.rule_masks.proofs.rule.place_masks.Given as goal

abbrev pub invariant-loop-code : goal.invariant-loop-code
invariant-loop-code l =
    after_places (listed_tests l.kept) l.cells l.ranges.low l.ranges.high (drop l.code-index (notes_in l.notes l.n)) l.masks
    ≡ after_places (listed_tests l.kept) l.cells l.ranges.low l.ranges.high (notes_in l.notes l.n) no_masks
