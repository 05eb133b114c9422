-- A loop over the notes: the pairs of those passed are made.
use mathlib.Core.Path.{◌≡◌}
use lib.ListN.{drop}
use Rattle.sheet.specs.views.NoteArray.{notes_in}
use Rattle.pairs.specs.views.NoteVariables.{notes_codes}
use Rattle.rule_masks.specs.views.Kept.{listed_tests}
use Rattle.rule_masks.specs.views.RuleMasks.{after_pairs}
use Rattle.rule_masks.proofs.rule.pair_masks.Given as goal

abbrev pub invariant-loop-i : goal.invariant-loop-i
invariant-loop-i l =
    after_pairs (listed_tests l.kept) l.cells (notes_codes (drop l.i (notes_in l.notes l.n))) l.all
    ≡ after_pairs (listed_tests l.kept) l.cells (notes_codes (notes_in l.notes l.n)) l.initial.all
