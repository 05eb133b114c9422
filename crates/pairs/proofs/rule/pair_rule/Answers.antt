-- A loop over the notes: the pairs of those passed with all later ones are kept.
use Rattle.std.proofs.Common.{ℕ, ◌+◌, length, drop, sym, ap, ◌∙◌, subst, arith}
use Rattle.sheet.specs.views.NoteArray.{notes_in}
use Rattle.pairs.specs.views.KeptPairs.{keep_all, pairs_in}
use Rattle.pairs.specs.views.NoteVariables.{name_of, codes_with, notes_codes, Placed}
use Rattle.basics.specs.Lists.{All}
use Rattle.pairs.proofs.NoteRows.{notes_all, notes_each, notes_later}
use Rattle.pairs.proofs.NotePairs.{pairs_from, pairs_named, pairs_nameless, pairs_end, full_done}
use Rattle.pairs.proofs.rule.pair_rule.Goals as goal
use Rattle.pairs.proofs.rule.pair_rule.Goals.{in-Some, in_default}

pub returns-then-pairs-gt64-clause-result_after : goal.returns-then-pairs-gt64-clause-result_after
returns-then-pairs-gt64-clause-result_after c =
    let turn = c.loop-i in
    full_done (notes_codes (drop turn.i (notes_in c.args.notes.now c.args.n))) turn.codes turn.pairs (omega arith)
    turn.invariant.2

pub pairs_with-pairs-requires : goal.pairs_with-pairs-requires
pairs_with-pairs-requires c =
    let turn = c.loop-i in
    let notes = c.args.notes.now in
    let n = c.args.n in
    let placed = notes_each notes n (omega arith) Placed turn.i c.requires.2 (omega arith) in
    let later = notes_all notes n (omega arith) Placed (turn.i + 1) c.requires.2 in (
      omega (arith, c.note_place.ensures),
      subst (All Placed) (sym (notes_later notes n (omega arith) (turn.i + 1) (omega arith))) later,
      turn.invariant.0,
      turn.invariant.1,
    )

pub loop-i-preserved : goal.loop-i-preserved
loop-i-preserved c =
    let turn = c.loop-i in
    let notes = c.args.notes.now in
    let n = c.args.n in
    let i = turn.i in
    let inv = turn.invariant in
    let kept = pairs_in turn.codes turn.pairs in
    let later = notes_later notes n (omega arith) (i + 1) (omega arith) in
    let name = ap name_of (sym c.note_record.ensures) ∙ sym c.name_of.ensures in
    elim c.match-name_of.branch [
      | in-Some w ↦ (
        omega (arith, w.pairs-is, w.pairs_with-pairs.ensures.upper_bound.0),
        ap length w.codes-is ∙ w.pairs_with-pairs.ensures.upper_bound.1,
        ap (pairs_from notes n (i + 1))
            ((λ j. pairs_in (w.codes-is j) (w.pairs-is j))
            ∙ w.pairs_with-pairs.ensures.result_after
            ∙ (λ j. keep_all (codes_with (w.note_place.ensures j) w.in-Some.v (later j)) kept))
            ∙ pairs_named notes n (omega arith) i w.in-Some.v (omega arith) (name ∙ w.in-Some.is) kept
            ∙ inv.2,
      )
      | in_default w ↦ (
        omega (arith, w.pairs-is),
        ap length w.codes-is ∙ inv.1,
        ap (pairs_from notes n (i + 1)) (λ j. pairs_in (w.codes-is j) (w.pairs-is j))
            ∙ pairs_nameless notes n (omega arith) i (omega arith) (name ∙ w.in_default.is) kept
            ∙ inv.2,
      )
    ]

pub returns-clause-result_after : goal.returns-clause-result_after
returns-clause-result_after c =
    let turn = c.loop-i in
    sym (pairs_end c.args.notes.now c.args.n (omega arith) turn.i (omega arith) (pairs_in turn.codes turn.pairs))
    ∙ turn.invariant.2
