-- A loop over the notes: what is gathered and what is left make up all equality tests.
use Prim.Native.Nat.{ℕ, ◌+◌, ◌≤◌}
use mathlib.Core.Path.{refl, sym, ap, ◌∙◌}
use native.Mathlib.Omega.{arith}
use lib.ListN.{length, get_or, drop}
use Rattle.terms.specs.RuleTests.{pairs_with}
use Rattle.terms.specs.Outcome.{Outcome, ◌and◌, together}
use Rattle.patterns.specs.views.NoteCode.{code_place}
use Rattle.sheet.specs.views.NoteArray.{notes_in}
use Rattle.pairs.specs.views.NoteVariables.{name_of, notes_variables, Placed}
use Rattle.pairs.proofs.NoteRows.{notes_each}
use Rattle.outcomes.specs.views.CellOutcome.{outcome_of}
use Rattle.plain.specs.views.NotesOutcome.{pair_test_cells, pairs_outcome}
use Rattle.plain.proofs.Gathering.{gathered_more, gathered_all}
use Rattle.plain.proofs.NoteTurns.{variable_turn, nameless_turn, no_pairs}
use Rattle.plain.proofs.rule.pairs_outcome.Goals as goal
use Rattle.plain.proofs.rule.pairs_outcome.Goals.{in-Some, in_default}

pub pairs_with-requires : goal.pairs_with-requires
pairs_with-requires c =
    let a = c.args in
    let codes = c.args.notes.now in
    let within : a.n ≤ length codes = omega (arith, c.requires) in
    let placed = notes_each codes a.n within Placed c.loop-i.i c.requires.2 c.loop-i-test.true in
    let pre = c.requires in
    (omega arith, omega arith, omega (arith, c.note_place.ensures, placed), pre.1, pre.2, pre.3)

pub loop-i-preserved : goal.loop-i-preserved
loop-i-preserved c =
    let a = c.args in
    let codes = c.args.notes.now in
    let cells = c.args.cells.now in
    let i = c.loop-i.i in
    let within : a.n ≤ length codes = omega (arith, c.requires) in
    let f = pair_test_cells cells in
    let gathered = outcome_of c.loop-i.outcome in
    let later = drop (i + 1) (notes_in codes a.n) in
    let rest = pairs_outcome cells later in
    let name = ap name_of (sym c.note_record.ensures) ∙ sym c.name_of.ensures in
    let inside = c.loop-i-test.true in
    elim c.match-name_of.branch [
      | in-Some w ↦
          let v = w.in-Some.v in
          let turn = variable_turn codes a.n within i f v inside (name ∙ w.in-Some.is) in
          let with_place : ℕ → Outcome = λ p. together f (pairs_with p v (notes_variables later)) in
          let own = w.pairs_with.ensures ∙ ap with_place w.note_place.ensures in
          ap (λ (x : Outcome). ◌and◌ x rest) (ap outcome_of w.outcome-is ∙ w.both-outcome.ensures ∙ ap (◌and◌ gathered) own)
          ∙ gathered_more gathered (with_place (code_place (get_or codes i 0))) rest (sym (ap (◌and◌ gathered) turn) ∙ c.loop-i.invariant)
      | in_default w ↦
          let turn = nameless_turn codes a.n within i f inside (name ∙ w.in_default.is) in
          ap (λ o. ◌and◌ (outcome_of o) rest) w.outcome-is ∙ sym (ap (◌and◌ gathered) turn) ∙ c.loop-i.invariant
    ]

pub returns : goal.returns
returns c =
    let a = c.args in
    let codes = c.args.notes.now in
    let cells = c.args.cells.now in
    let i = c.loop-i.i in
    let within : a.n ≤ length codes = omega (arith, c.requires) in
    let none = no_pairs codes a.n within i (pair_test_cells cells) c.loop-i-test.false in
    gathered_all (outcome_of c.loop-i.outcome) (pairs_outcome cells (drop i (notes_in codes a.n))) none c.loop-i.invariant
