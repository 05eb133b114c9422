-- A loop over the notes: what is gathered and what is left make up all place tests.
use mathlib.Core.Path.{◌≡◌}
use lib.ListN.{drop}
use Rattle.terms.specs.Outcome.{◌and◌}
use Rattle.sheet.specs.views.NoteArray.{notes_in}
use Rattle.outcomes.specs.views.CellOutcome.{outcome_of}
use Rattle.plain.specs.views.NotesOutcome.{places_outcome}
use Rattle.plain.proofs.rule.places_outcome.Given as goal

abbrev pub invariant-loop-i : goal.invariant-loop-i
invariant-loop-i l =
    ◌and◌ (outcome_of l.outcome) (places_outcome l.cells l.ranges.low l.ranges.high (drop l.i (notes_in l.notes l.n)))
    ≡ places_outcome l.cells l.ranges.low l.ranges.high (notes_in l.notes l.n)
