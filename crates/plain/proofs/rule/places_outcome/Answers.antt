-- A loop over the notes: what is gathered and what is left make up all place tests.
use Prim.Native.Nat.{◌+◌, ◌≤◌}
use mathlib.Core.Path.{refl, sym, ap, ◌∙◌, subst}
use native.Mathlib.Omega.{arith}
use lib.ListN.{length, get_or, drop}
use Rattle.terms.specs.Outcome.{Outcome, ◌and◌, together}
use Rattle.patterns.specs.views.NoteCode.{note_of, Fitting}
use Rattle.sheet.specs.views.NoteArray.{notes_in}
use Rattle.patterns.proofs.NoteCodes.{code_fits}
use Rattle.pairs.specs.views.NoteVariables.{Placed}
use Rattle.pairs.proofs.NoteRows.{notes_each}
use Rattle.outcomes.specs.views.CellOutcome.{outcome_of}
use Rattle.plain.specs.views.NotesOutcome.{record_outcome, note_outcome}
use Rattle.plain.proofs.Gathering.{gathered_more, gathered_stops, gathered_all}
use Rattle.plain.proofs.NoteTurns.{note_turn, no_note}
use Rattle.plain.proofs.rule.places_outcome.Goals as goal

pub record_outcome-one-requires : goal.record_outcome-one-requires
record_outcome-one-requires c =
    let a = c.args in
    let codes = c.args.notes.now in
    let within : a.n ≤ length codes = omega (arith, c.requires) in
    let placed = notes_each codes a.n within Placed c.loop-i.i c.requires.2 c.loop-i-test.true in (
      omega (arith, c.note_place.ensures, placed),
      subst Fitting (sym c.note_record.ensures) (code_fits (get_or codes c.loop-i.i 0)),
    )

pub returns-in-Contradicted : goal.returns-in-Contradicted
returns-in-Contradicted c =
    let a = c.args in
    let codes = c.args.notes.now in
    let cells = c.args.cells.now in
    let i = c.loop-i.i in
    let within : a.n ≤ length codes = omega (arith, c.requires) in
    let f = note_outcome cells a.ranges.low a.ranges.high in
    let gathered = outcome_of c.loop-i.outcome in
    let rest = together f (drop (i + 1) (notes_in codes a.n)) in
    let turn = note_turn codes a.n within i f c.loop-i-test.true in
    let left = sym (ap (◌and◌ gathered) turn) ∙ c.loop-i.invariant in
    let one = c.record_outcome-one.ensures
    ∙ (λ j. record_outcome cells a.ranges.low a.ranges.high (c.note_place.ensures j) (c.note_record.ensures j)) in
    one ∙ gathered_stops gathered (f (note_of (get_or codes i 0))) rest left (sym one ∙ ap outcome_of c.in-Contradicted.is)

pub loop-i-preserved : goal.loop-i-preserved
loop-i-preserved c =
    let a = c.args in
    let codes = c.args.notes.now in
    let cells = c.args.cells.now in
    let i = c.loop-i.i in
    let within : a.n ≤ length codes = omega (arith, c.requires) in
    let f = note_outcome cells a.ranges.low a.ranges.high in
    let gathered = outcome_of c.loop-i.outcome in
    let rest = together f (drop (i + 1) (notes_in codes a.n)) in
    let turn = note_turn codes a.n within i f c.loop-i-test.true in
    let left = sym (ap (◌and◌ gathered) turn) ∙ c.loop-i.invariant in
    let one = c.record_outcome-one.ensures
    ∙ (λ j. record_outcome cells a.ranges.low a.ranges.high (c.note_place.ensures j) (c.note_record.ensures j)) in
    ap (λ (x : Outcome). ◌and◌ x rest) (c.both-outcome.ensures ∙ ap (◌and◌ gathered) one)
    ∙ gathered_more gathered (f (note_of (get_or codes i 0))) rest left

pub returns : goal.returns
returns c =
    let a = c.args in
    let codes = c.args.notes.now in
    let within : a.n ≤ length codes = omega (arith, c.requires) in
    let f = note_outcome a.cells.now a.ranges.low a.ranges.high in
    let none = no_note codes a.n within c.loop-i.i f c.loop-i-test.false in
    gathered_all (outcome_of c.loop-i.outcome) (together f (drop c.loop-i.i (notes_in codes a.n))) none c.loop-i.invariant
