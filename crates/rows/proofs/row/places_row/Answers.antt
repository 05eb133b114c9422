-- A loop over the notes: the place tests of those passed are in the set.
use Prim.Native.Nat.{ℕ, ◌+◌, ◌≤◌}
use mathlib.Core.Path.{refl, sym, ap, ◌∙◌, subst}
use native.Mathlib.Omega.{arith}
use lib.ListN.{length, get_or}
use Rattle.patterns.specs.declared.PatternRecord.{PatternRecord}
use Rattle.patterns.specs.views.NoteCode.{Fitting}
use Rattle.patterns.proofs.NoteCodes.{code_fits}
use Rattle.pairs.specs.views.NoteVariables.{Placed}
use Rattle.pairs.proofs.NoteRows.{notes_each}
use Rattle.rows.specs.views.Wants.{record_want, wanted_codes}
use Rattle.rows.specs.views.Row.{with_test}
use Rattle.rows.proofs.NotesWanted.{want_here, wants_some, wants_none}
use Rattle.rows.proofs.RowTurns.{places_from, places_turn, places_skip, places_end}
use Rattle.rows.proofs.row.places_row.Goals as goal
use Rattle.rows.proofs.row.places_row.Goals.{then-is_some, else-is_some}

pub loop-i-init : goal.loop-i-init
loop-i-init c = (omega arith, refl)

pub record_wanted-requires : goal.record_wanted-requires
record_wanted-requires c =
    let notes = c.args.notes.now in
    subst Fitting (sym c.note_record.ensures) (code_fits (get_or notes c.loop-i.i 0))

pub place_number-requires : goal.place_number-requires
place_number-requires c =
    let turn = c.loop-i in
    let notes = c.args.notes.now in
    let placed = notes_each notes c.args.n (omega arith) Placed turn.i c.requires.2 (omega arith) in
    (omega (arith, c.note_place.ensures), c.requires.3)

pub loop-i-preserved : goal.loop-i-preserved
loop-i-preserved c =
    let turn = c.loop-i in
    let a = c.args in
    let notes = c.args.notes.now in
    let numbers = c.args.numbers.now in
    let low = c.args.ranges.low in
    let high = c.args.ranges.high in
    let within : a.n ≤ length notes = omega (arith, c.requires) in
    let i = c.loop-i.i in
    let what = c.note_record.ensures in
    let want = c.record_wanted.ensures ∙ ap (λ (r : PatternRecord). wanted_codes (record_want low high r)) what in
    elim c.if-is_some.branch [
      | then-is_some w ↦
          let (v, is) = wants_some (want_here low high notes a.n within i) want (sym c.is_some.ensures ∙ w.if-is_some.true) in
          let t = w.place_number.ensures.0 ∙ ap (λ (p : ℕ). get_or numbers p 0) w.note_place.ensures in (
            omega arith,
            ap (places_from low high notes a.n within i numbers (i + 1)) (w.row-is ∙ w.with_test-row.ensures ∙ ap (with_test turn.row) t)
                ∙ places_turn low high notes a.n within i numbers (omega arith) v is turn.row
                ∙ turn.invariant.1,
          )
      | else-is_some w ↦
          let is = wants_none (want_here low high notes a.n within i) want (sym c.is_some.ensures ∙ w.if-is_some.false) in (
            omega arith,
            ap (places_from low high notes a.n within i numbers (i + 1)) w.row-is
                ∙ places_skip low high notes a.n within i numbers (omega arith) is turn.row
                ∙ turn.invariant.1,
          )
    ]

pub returns : goal.returns
returns c =
    let turn = c.loop-i in
    let a = c.args in
    let notes = c.args.notes.now in
    let within : a.n ≤ length notes = omega (arith, c.requires) in
    sym
    (places_end a.ranges.low a.ranges.high notes a.n within turn.i a.numbers.now (omega arith) turn.row)
    ∙ turn.invariant.1
