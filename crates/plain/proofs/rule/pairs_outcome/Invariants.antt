-- A loop over the notes: what is gathered and what is left make up all equality tests.
use mathlib.Core.Path.{◌≡◌}
use lib.ListN.{drop}
use Rattle.terms.specs.Outcome.{◌and◌}
use Rattle.sheet.specs.views.NoteArray.{notes_in}
use Rattle.outcomes.specs.views.CellOutcome.{outcome_of}
use Rattle.plain.specs.views.NotesOutcome.{pairs_outcome}
use Rattle.plain.proofs.rule.pairs_outcome.Given as goal

abbrev pub invariant-loop-i : goal.invariant-loop-i
invariant-loop-i l =
    ◌and◌ (outcome_of l.outcome) (pairs_outcome l.cells (drop l.i (notes_in l.notes l.n))) ≡ pairs_outcome l.cells (notes_in l.notes l.n)
