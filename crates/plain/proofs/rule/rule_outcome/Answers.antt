-- The place tests, then the equality tests.
use mathlib.Core.Path.{sym, ap, ◌∙◌}
use Rattle.terms.specs.Outcome.{Outcome, ◌and◌}
use Rattle.sheet.specs.declared.Ranges.{Ranges}
use Rattle.sheet.specs.views.NoteArray.{notes_in}
use Rattle.outcomes.specs.views.CellOutcome.{outcome_of}
use Rattle.plain.specs.views.NotesOutcome.{places_outcome, pairs_outcome, notes_outcome}
use Rattle.plain.proofs.rule.rule_outcome.Goals as goal

pub returns-in-Contradicted : goal.returns-in-Contradicted
unfolding notes_outcome
returns-in-Contradicted c =
    let a = c.args in
    let cells = c.args.cells.now in
    let notes = notes_in a.notes.now a.n in
    let places = c.places_outcome-places.ensures ∙ ap (λ (x : Ranges). places_outcome cells x.low x.high notes) c.ranges-2.ensures in
    let told = ap outcome_of c.in-Contradicted.is in
    told ∙ sym (ap (λ (x : Outcome). ◌and◌ x (pairs_outcome cells notes)) (sym places ∙ told))

pub returns : goal.returns
unfolding notes_outcome
returns c =
    let a = c.args in
    let cells = c.args.cells.now in
    let notes = notes_in a.notes.now a.n in
    let places = c.places_outcome-places.ensures ∙ ap (λ (x : Ranges). places_outcome cells x.low x.high notes) c.ranges-2.ensures in
    c.both.ensures ∙ (λ j. ◌and◌ (places j) (c.pairs_outcome.ensures j))
