-- A loop over the notes: the pairs of those passed are in the set.
use Prim.Native.Nat.{ℕ, ◌+◌, ◌≤◌}
use mathlib.Core.Path.{refl, sym, ap, ◌∙◌}
use native.Mathlib.Omega.{arith}
use lib.ListN.{length}
use Rattle.pairs.specs.views.NoteVariables.{name_of, Placed}
use Rattle.pairs.proofs.NoteRows.{notes_each}
use Rattle.tables.specs.views.Planes.{place_tests_in}
use Rattle.test_list.specs.views.Tests.{pairs_listed}
use Rattle.rows.proofs.RowTurns.{with_from, pairs_from, pairs_named, pairs_nameless, pairs_end}
use Rattle.rows.proofs.row.pairs_row.Goals as goal
use Rattle.rows.proofs.row.pairs_row.Goals.{in-Some, in_default}

pub loop-i-init : goal.loop-i-init
loop-i-init c = (omega arith, refl)

pub pairs_with-all-requires : goal.pairs_with-all-requires
pairs_with-all-requires c =
    let turn = c.loop-i in
    let notes = c.args.notes.now in
    let placed = notes_each notes c.args.n (omega arith) Placed turn.i c.requires.2 (omega arith) in
    let pre = c.requires in
    (omega arith, omega arith, omega (arith, c.note_place-p.ensures), pre.1, pre.2, pre.3)

pub loop-i-preserved : goal.loop-i-preserved
loop-i-preserved c =
    let turn = c.loop-i in
    let a = c.args in
    let notes = c.args.notes.now in
    let kept = pairs_listed a.s.now in
    let count = place_tests_in a.s.now in
    let within : a.n ≤ length notes = omega (arith, c.requires) in
    let i = c.loop-i.i in
    let name = ap name_of (sym c.note_record.ensures) ∙ sym c.name_of.ensures in
    elim c.match-name_of.branch [
      | in-Some w ↦
          let v = w.in-Some.v in
          let pairs : ℕ → ℕ = λ p. with_from notes a.n within i count kept p v (i + 1) turn.all in
          let own = w.pairs_with-all.ensures ∙ ap pairs w.note_place-p.ensures in (
            omega arith,
            ap (pairs_from notes a.n within i count kept (i + 1)) (w.all-is ∙ own)
                ∙ pairs_named notes a.n within i count kept v (omega arith) (name ∙ w.in-Some.is) turn.all
                ∙ turn.invariant.1,
          )
      | in_default w ↦ (
        omega arith,
        ap (pairs_from notes a.n within i count kept (i + 1)) w.all-is
            ∙ pairs_nameless notes a.n within i count kept (omega arith) (name ∙ w.in_default.is) turn.all
            ∙ turn.invariant.1,
      )
    ]

pub returns : goal.returns
returns c =
    let turn = c.loop-i in
    let a = c.args in
    let kept = pairs_listed a.s.now in
    let count = place_tests_in a.s.now in
    let within : a.n ≤ length a.notes.now = omega (arith, c.requires) in
    sym (pairs_end a.notes.now a.n within turn.i count kept (omega arith) turn.all) ∙ turn.invariant.1
