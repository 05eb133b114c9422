-- A loop over the later notes: the pairs with those passed are in the set.
use Prim.Native.Nat.{ℕ, ◌+◌, ◌≤◌}
use mathlib.Core.Path.{refl, sym, ap, ◌∙◌}
use native.Mathlib.Omega.{arith}
use lib.ListN.{length}
use Rattle.pairs.specs.views.KeptPairs.{pair_code}
use Rattle.pairs.specs.views.NoteVariables.{names_variable, Placed}
use Rattle.pairs.proofs.NoteRows.{notes_each}
use Rattle.tables.specs.views.Planes.{place_tests_in}
use Rattle.test_list.specs.views.Tests.{pairs_listed}
use Rattle.rows.specs.views.Row.{with_test, pair_number}
use Rattle.rows.proofs.RowTurns.{with_from, with_yes, with_no, with_end}
use Rattle.rows.proofs.row.pairs_with.Goals as goal
use Rattle.rows.proofs.row.pairs_with.Goals.{then-is_named, else-is_named}

pub loop-j-init : goal.loop-j-init
loop-j-init c = (c.requires.0, refl)

pub pair_number-requires : goal.pair_number-requires
pair_number-requires c =
    let turn = c.loop-j in
    let notes = c.args.notes.now in
    let placed = notes_each notes c.args.n (omega arith) Placed turn.j c.requires.4 (omega arith) in
    (c.requires.5, c.requires.2, omega (arith, c.note_place-q.ensures))

pub loop-j-preserved : goal.loop-j-preserved
loop-j-preserved c =
    let turn = c.loop-j in
    let a = c.args in
    let notes = c.args.notes.now in
    let kept = pairs_listed a.s.now in
    let count = place_tests_in a.s.now in
    let within : a.n ≤ length notes = omega (arith, c.requires) in
    let j = c.loop-j.j in
    let test = ap (names_variable a.v) (sym c.note_record.ensures) ∙ sym c.is_named.ensures in
    elim c.if-is_named.branch [
      | then-is_named w ↦
          let t = w.pair_number.ensures ∙ ap (λ (q : ℕ). pair_number count kept (pair_code a.place q)) w.note_place-q.ensures in (
            omega arith,
            ap (with_from notes a.n within j count kept a.place a.v (j + 1))
                (w.all-is ∙ w.with_test-all.ensures ∙ ap (with_test turn.all) t)
                ∙ with_yes notes a.n within j count kept a.place a.v (omega arith) (test ∙ w.if-is_named.true) turn.all
                ∙ turn.invariant.1,
          )
      | else-is_named w ↦ (
        omega arith,
        ap (with_from notes a.n within j count kept a.place a.v (j + 1)) w.all-is
            ∙ with_no notes a.n within j count kept a.place a.v (omega arith) (test ∙ w.if-is_named.false) turn.all
            ∙ turn.invariant.1,
      )
    ]

pub returns : goal.returns
returns c =
    let turn = c.loop-j in
    let a = c.args in
    let notes = c.args.notes.now in
    let kept = pairs_listed a.s.now in
    let count = place_tests_in a.s.now in
    let within : a.n ≤ length notes = omega (arith, c.requires) in
    sym (with_end notes a.n within turn.j count kept a.place a.v (omega arith) turn.all) ∙ turn.invariant.1
