-- A loop over the notes: the rule has turned at what those passed want.
use Prim.Native.Nat.{ℕ, suc, ◌+◌, ◌*◌, ◌^◌, ◌≤◌}
use mathlib.Core.Path.{sym, ap, ◌∙◌, subst}
use native.Mathlib.Omega.{arith}
use lib.ListN.{length, get_or}
use Rattle.patterns.specs.declared.PatternRecord.{PatternRecord}
use Rattle.patterns.specs.views.NoteCode.{Fitting, note_of}
use Rattle.sheet.specs.views.NoteArray.{notes_in}
use Rattle.patterns.proofs.NoteCodes.{code_fits}
use Rattle.pairs.specs.views.NoteVariables.{Placed}
use Rattle.pairs.proofs.NoteRows.{notes_next, notes_end, notes_each}
use Rattle.cuts.specs.views.Cuts.{part_at, count_at}
use Rattle.rows.specs.views.Wants.{record_want, wanted_codes}
use Rattle.rows.proofs.NotesWanted.{wanted_some, wanted_none}
use Rattle.compiled.specs.views.CutRules.{turn_in}
use Rattle.compiled.proofs.NoteTurns.{left_start, left_room, left_some, left_none, left_done}
use Rattle.compiled.proofs.cut.cut_rule.Goals as goal
use Rattle.compiled.proofs.cut.cut_rule.Goals.{in-Some, in_default}

pub loop-k-init : goal.loop-k-init
loop-k-init c =
    let a = c.args in
    (omega arith, left_start a.numbers.now a.rules a.i a.ranges.low a.ranges.high (notes_in a.notes.now a.n) a.c.now c.requires.turns_fit)

pub record_wanted-requires : goal.record_wanted-requires
record_wanted-requires c =
    let notes = c.args.notes.now in
    subst Fitting (sym c.note_record.ensures) (code_fits (get_or notes c.loop-k.k 0))

pub place_number-requires : goal.place_number-requires
place_number-requires c =
    let turn = c.loop-k in
    let notes = c.args.notes.now in
    let placed = notes_each notes c.args.n (omega arith) Placed turn.k c.requires.n_bound.2 (omega arith) in
    (omega (arith, c.note_place.ensures), c.requires.n_bound.3)

pub part-from-requires : goal.part-from-requires
part-from-requires c =
    let pre = c.requires.n_bound in
    (omega (arith, pre.4, pre.5), omega (arith, c.place_number.ensures.1))

pub turn_rule-requires : goal.turn_rule-requires
turn_rule-requires c =
    let turn = c.loop-k in
    let a = c.args in
    let notes = c.args.notes.now in
    let low = c.args.ranges.low in
    let high = c.args.ranges.high in
    let within : a.n ≤ length notes = omega (arith, c.requires.n_bound) in
    let next = notes_next notes a.n within turn.k (omega arith) in
    let want =
    c.record_wanted.ensures
    ∙ ap (λ (r : PatternRecord). wanted_codes (record_want low high r)) c.note_record.ensures in
    let (v, is, least, most) =
    wanted_some (record_want low high (note_of (get_or notes turn.k 0)).what) (sym c.in-Some.is ∙ want) in
    let spot = c.place_number.ensures.0 ∙ ap (λ (p : ℕ). get_or a.numbers.now p 0) c.note_place.ensures in
    let from = c.part-from.ensures ∙ ap (part_at a.rules) spot in (
      subst (λ (x : ℕ). x + 5 + 2 * count_at turn.c x ≤ length turn.c) (sym from)
          (left_room a.numbers.now a.rules a.i low high (notes_in notes a.n) a.c.now turn.c _ _ (note_of (get_or notes turn.k 0)) next turn.invariant.1 v is),
      c.requires.n_bound.5,
    )

pub loop-k-preserved : goal.loop-k-preserved
loop-k-preserved c =
    let turn = c.loop-k in
    let a = c.args in
    let notes = c.args.notes.now in
    let low = c.args.ranges.low in
    let high = c.args.ranges.high in
    let within : a.n ≤ length notes = omega (arith, c.requires.n_bound) in
    let next = notes_next notes a.n within turn.k (omega arith) in
    let note = note_of (get_or notes turn.k 0) in
    let want =
    c.record_wanted.ensures
    ∙ ap (λ (r : PatternRecord). wanted_codes (record_want low high r)) c.note_record.ensures in
    elim c.match-record_wanted.branch [
      | in-Some w ↦
          let (v, is, least, most) = wanted_some (record_want low high note.what) (sym w.in-Some.is ∙ want) in
          let spot = w.place_number.ensures.0 ∙ ap (λ (p : ℕ). get_or a.numbers.now p 0) w.note_place.ensures in
          let from = w.part-from.ensures ∙ ap (part_at a.rules) spot in (
            omega arith,
            left_some a.numbers.now a.rules a.i low high (notes_in notes a.n) a.c.now turn.c _ _ note next turn.invariant.1 v is
                (w.c-is
                ∙ w.turn_rule.ensures
                ∙ (λ j. turn_in (turn_in turn.c (from j) (least j) (2 ^ a.i)) (from j) (suc (most j)) (2 ^ a.i))),
          )
      | in_default w ↦
          let is = wanted_none (record_want low high note.what) (sym w.in_default.is ∙ want) in (
            omega arith,
            left_none a.numbers.now a.rules a.i low high (notes_in notes a.n) a.c.now turn.c _ _ note next turn.invariant.1 is w.c-is,
          )
    ]

pub shape_of-c : goal.shape_of-c
shape_of-c c = c.loop-k.invariant.1.long

pub returns : goal.returns
returns c =
    let turn = c.loop-k in
    let a = c.args in
    let notes = c.args.notes.now in
    let within : a.n ≤ length notes = omega (arith, c.requires.n_bound) in
    let low = c.args.ranges.low in
    let high = c.args.ranges.high in
    left_done a.numbers.now a.rules a.i low high (notes_in notes a.n) a.c.now turn.c _ (notes_end notes a.n within turn.k (omega arith)) turn.invariant.1
