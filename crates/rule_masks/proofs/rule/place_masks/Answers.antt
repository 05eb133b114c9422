-- A loop over the notes: the place tests of those passed are made.
use Prim.Native.Nat.{◌+◌, ◌*◌, ◌≤◌}
use mathlib.Core.Path.{◌≡◌, refl, sym, ap, ◌∙◌, subst}
use native.Mathlib.Omega.{arith}
use lib.ListN.{length, get_or, take}
use lib.Seq.{get_or-take}
use Rattle.patterns.specs.declared.PatternRecord.{PatternRecord}
use Rattle.patterns.specs.views.NoteCode.{Fitting, code_place, code_record}
use Rattle.patterns.proofs.NoteCodes.{code_fits}
use Rattle.pairs.specs.views.NoteVariables.{Placed}
use Rattle.pairs.proofs.NoteRows.{notes_each}
use Rattle.outcomes.specs.views.CellOutcome.{place_cells}
use Rattle.test_list.specs.views.Tests.{spot_code}
use Rattle.rows.specs.views.Wants.{record_want, wanted_codes}
use Rattle.rows.proofs.NotesWanted.{want_here, wanted_some, wanted_none}
use Rattle.rule_masks.specs.views.Kept.{listed_tests}
use Rattle.rule_masks.specs.views.RuleMasks.{made, with_made}
use Rattle.rule_masks.proofs.MadeTurns.{places_from, places_turn, places_skip, places_end}
use Rattle.rule_masks.proofs.rule.place_masks.Goals as goal
use Rattle.rule_masks.proofs.rule.place_masks.Goals.{in-Some, in_default}

pub loop-code-init : goal.loop-code-init
loop-code-init c = refl

pub record_wanted-requires : goal.record_wanted-requires
record_wanted-requires c =
    subst Fitting (sym c.note_record.ensures) (code_fits (get_or (take c.args.n c.args.notes.now) c.loop-code.code-index 0))

pub place_outcome-outcome-requires : goal.place_outcome-outcome-requires
place_outcome-outcome-requires c =
    let a = c.args in
    let pre = c.requires in
    let placed = notes_each a.notes.now a.n (omega (arith, pre.0, pre.1)) Placed c.loop-code.code-index pre.2 (omega arith) in
    omega (arith, placed, c.note_place-place.ensures ∙ ap code_place (get_or-take a.n a.notes.now c.loop-code.code-index 0 (omega arith)))

pub overflow_mul-place : goal.overflow_mul-place
overflow_mul-place c =
    let a = c.args in
    let pre = c.requires in
    let placed = notes_each a.notes.now a.n (omega (arith, pre.0, pre.1)) Placed c.loop-code.code-index pre.2 (omega arith) in
    omega (arith, placed, c.note_place-place.ensures ∙ ap code_place (get_or-take a.n a.notes.now c.loop-code.code-index 0 (omega arith)))

pub with_outcome-masks-requires : goal.with_outcome-masks-requires
with_outcome-masks-requires c = c.requires.3

pub loop-code-preserved : goal.loop-code-preserved
loop-code-preserved c =
    let turn = c.loop-code in
    let a = c.args in
    let notes = c.args.notes.now in
    let cells = c.args.cells.now in
    let tests = listed_tests a.kept.now in
    let low = c.args.ranges.low in
    let high = c.args.ranges.high in
    let within : a.n ≤ length notes = omega (arith, c.requires) in
    let i = c.loop-code.code-index in
    let same = get_or-take a.n notes i 0 (omega arith) in
    let what = c.note_record.ensures ∙ ap code_record same in
    let want = c.record_wanted.ensures ∙ ap (λ (r : PatternRecord). wanted_codes (record_want low high r)) what in
    elim c.match-record_wanted.branch [
      | in-Some w ↦
          let (v, is, least, most) = wanted_some (want_here low high notes a.n within i) (sym w.in-Some.is ∙ want) in
          let spot = w.note_place-place.ensures ∙ ap code_place same in
          let p = code_place (get_or notes i 0) in
          let code : 0x1_0001 * w.note_place-place.result ≡ spot_code p = omega (arith, spot) in
          let outcome = w.place_outcome-outcome.ensures ∙ (λ j. place_cells cells (spot j) (least j) (most j)) in
          ap (places_from tests cells low high notes a.n within i (i + 1))
          (w.masks-is ∙ w.with_outcome-masks.ensures ∙ (λ j. with_made tests turn.masks (made (code j) (outcome j))))
          ∙ places_turn tests cells low high notes a.n within i (omega arith) v is turn.masks
          ∙ turn.invariant
      | in_default w ↦
          let is = wanted_none (want_here low high notes a.n within i) (sym w.in_default.is ∙ want) in
          ap (places_from tests cells low high notes a.n within i (i + 1)) w.masks-is
          ∙ places_skip tests cells low high notes a.n within i (omega arith) is turn.masks
          ∙ turn.invariant
    ]

pub returns : goal.returns
returns c =
    let turn = c.loop-code in
    let a = c.args in
    let notes = c.args.notes.now in
    let within : a.n ≤ length notes = omega (arith, c.requires) in
    sym
    (places_end (listed_tests a.kept.now) a.cells.now a.ranges.low a.ranges.high notes a.n within turn.code-index
    (omega arith) turn.masks)
    ∙ turn.invariant
