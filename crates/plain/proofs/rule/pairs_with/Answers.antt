-- A loop over the later notes: what is gathered and what is left make up all pairs of the place.
use Prim.Native.Nat.{ℕ, ◌+◌, ◌≤◌}
use mathlib.Core.Path.{refl, sym, ap, ◌∙◌}
use native.Mathlib.Omega.{arith}
use lib.ListN.{length, get_or, drop}
use Rattle.terms.specs.RuleTests.{both, pairs_with}
use Rattle.terms.specs.Outcome.{Outcome, ◌and◌, together}
use Rattle.patterns.specs.views.NoteCode.{code_place}
use Rattle.sheet.specs.views.NoteArray.{notes_in}
use Rattle.pairs.specs.views.NoteVariables.{names_variable, notes_variables, Placed}
use Rattle.pairs.proofs.NoteRows.{notes_each}
use Rattle.outcomes.specs.views.CellOutcome.{outcome_of, pair_cells}
use Rattle.plain.specs.views.NotesOutcome.{pair_test_cells}
use Rattle.plain.proofs.Gathering.{gathered_more, gathered_all}
use Rattle.plain.proofs.NoteTurns.{named_turn, other_turn, no_pair}
use Rattle.plain.proofs.rule.pairs_with.Goals as goal
use Rattle.plain.proofs.rule.pairs_with.Goals.{then-is_named, else-is_named}

pub pair_outcome-requires : goal.pair_outcome-requires
pair_outcome-requires c =
    let a = c.args in
    let codes = c.args.notes.now in
    let within : a.n ≤ length codes = omega (arith, c.requires) in
    let placed = notes_each codes a.n within Placed c.loop-j.j c.requires.4 c.loop-j-test.true in
    (c.requires.2, omega (arith, c.note_place.ensures, placed), c.requires.5)

pub loop-j-preserved : goal.loop-j-preserved
loop-j-preserved c =
    let a = c.args in
    let codes = c.args.notes.now in
    let cells = c.args.cells.now in
    let i = c.loop-j.j in
    let within : a.n ≤ length codes = omega (arith, c.requires) in
    let f = pair_test_cells cells in
    let gathered = outcome_of c.loop-j.outcome in
    let rest = together f (pairs_with a.place a.v (notes_variables (drop (i + 1) (notes_in codes a.n)))) in
    let named = ap (names_variable a.v) (sym c.note_record.ensures) ∙ sym c.is_named.ensures in
    let inside = c.loop-j-test.true in
    elim c.if-is_named.branch [
      | then-is_named w ↦
          let turn = named_turn codes a.n within i f a.place a.v inside (named ∙ w.if-is_named.true) in
          let one = w.pair_outcome.ensures ∙ ap (λ (q : ℕ). pair_cells cells a.place q) w.note_place.ensures in
          ap (λ (x : Outcome). ◌and◌ x rest) (ap outcome_of w.outcome-is ∙ w.both-outcome.ensures ∙ ap (◌and◌ gathered) one)
          ∙ gathered_more gathered (f (both a.place (code_place (get_or codes i 0)))) rest
          (sym (ap (◌and◌ gathered) turn) ∙ c.loop-j.invariant)
      | else-is_named w ↦
          let turn = other_turn codes a.n within i f a.place a.v inside (named ∙ w.if-is_named.false) in
          ap (λ o. ◌and◌ (outcome_of o) rest) w.outcome-is ∙ sym (ap (◌and◌ gathered) turn) ∙ c.loop-j.invariant
    ]

pub returns : goal.returns
returns c =
    let a = c.args in
    let codes = c.args.notes.now in
    let i = c.loop-j.j in
    let within : a.n ≤ length codes = omega (arith, c.requires) in
    let f = pair_test_cells a.cells.now in
    let rest = together f (pairs_with a.place a.v (notes_variables (drop i (notes_in codes a.n)))) in
    let none = no_pair codes a.n within i f a.place a.v c.loop-j-test.false in
    gathered_all (outcome_of c.loop-j.outcome) rest none c.loop-j.invariant
