-- The common ranges in the notes passed so far, note by note.
use Rattle.std.proofs.Common.{◌≡◌, ◌<◌, length, get_or, set, sym, ap, ◌∙◌, arith}
use Rattle.std.proofs.lemmas.List.{get_or-take}
use Rattle.patterns.specs.views.NoteCode.{code_record}
use Rattle.sheet.specs.views.NoteRanges.{lows_of, highs_of, low_end, high_end}
use Rattle.sheet.proofs.NoteArrays.{notes_none}
use Rattle.sheet.proofs.RangeArrays.{lows_none, highs_none, no_range_lem, ranges_kept, low_narrowed, high_narrowed}
use Rattle.sheet.proofs.variable.ranges.Goals as goal
use Rattle.sheet.proofs.variable.ranges.Goals.{in-Ranged, in_default}

pub loop-code-init : goal.loop-code-init
loop-code-init c =
    let none = sym (notes_none c.args.notes.now) in
    (lows_none ∙ ap lows_of none, highs_none ∙ ap highs_of none)

pub loop-code-preserved : goal.loop-code-preserved
loop-code-preserved c =
    let codes = c.args.notes.now in
    let i = c.loop-code.code-index in
    let inside : i < length codes = omega arith in
    let is : code_record (get_or codes i 0) ≡ c.note_record.result =
    ap code_record (sym (get_or-take c.args.n codes i 0 (omega arith))) ∙ sym c.note_record.ensures in
    elim c.match-note_record.branch [
      | in-Ranged w ↦
          let what = is ∙ w.in-Ranged.is in (
            w.low-is
                ∙ ap (set c.loop-code.low w.in-Ranged.v) w.max.ensures
                ∙ low_narrowed codes i inside what c.loop-code.invariant.0,
            w.high-is
                ∙ ap (set c.loop-code.high w.in-Ranged.v) w.min.ensures
                ∙ high_narrowed codes i inside what c.loop-code.invariant.1,
          )
      | in_default w ↦
          let none = no_range_lem c.note_record.result w.in_default.not-Ranged in (
            w.low-is ∙ c.loop-code.invariant.0 ∙ ranges_kept codes i inside is none low_end,
            w.high-is ∙ c.loop-code.invariant.1 ∙ ranges_kept codes i inside is none high_end,
          )
    ]
