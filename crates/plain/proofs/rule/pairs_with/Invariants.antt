-- A loop over the later notes: what is gathered and what is left make up all pairs of the place.
use mathlib.Core.Path.{◌≡◌}
use lib.ListN.{drop}
use Rattle.terms.specs.RuleTests.{pairs_with}
use Rattle.terms.specs.Outcome.{◌and◌, together}
use Rattle.sheet.specs.views.NoteArray.{notes_in}
use Rattle.pairs.specs.views.NoteVariables.{notes_variables}
use Rattle.outcomes.specs.views.CellOutcome.{outcome_of}
use Rattle.plain.specs.views.NotesOutcome.{pair_test_cells}
use Rattle.plain.proofs.rule.pairs_with.Given as goal

abbrev pub invariant-loop-j : goal.invariant-loop-j
invariant-loop-j l =
    ◌and◌ (outcome_of l.outcome) (together (pair_test_cells l.cells) (pairs_with l.place l.v (notes_variables (drop l.j (notes_in l.notes l.n)))))
    ≡ together (pair_test_cells l.cells) (pairs_with l.place l.v (notes_variables (drop l.from (notes_in l.notes l.n))))
