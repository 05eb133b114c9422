-- A loop over the later notes: the pairs with those passed are made.
use mathlib.Core.Path.{◌≡◌}
use lib.ListN.{drop}
use Rattle.sheet.specs.views.NoteArray.{notes_in}
use Rattle.pairs.specs.views.NoteVariables.{codes_with}
use Rattle.rule_masks.specs.views.Kept.{listed_tests}
use Rattle.rule_masks.specs.views.RuleMasks.{after_pairs}
use Rattle.rule_masks.proofs.rule.pairs_with.Given as goal

abbrev pub invariant-loop-j : goal.invariant-loop-j
invariant-loop-j l =
    after_pairs (listed_tests l.kept) l.cells (codes_with l.spot.place l.spot.name (drop l.j (notes_in l.notes l.n))) l.all
    ≡ after_pairs (listed_tests l.kept) l.cells (codes_with l.spot.place l.spot.name (drop l.from (notes_in l.notes l.n))) l.initial.all
