-- A loop over the later notes: the pairs with those passed are kept.
use Rattle.std.proofs.Common.{ℕ, ◌+◌, length, drop, sym, ap, ◌∙◌, subst, arith}
use Rattle.sheet.specs.views.NoteArray.{notes_in}
use Rattle.pairs.specs.views.KeptPairs.{pair_code, keep, pairs_in}
use Rattle.pairs.specs.views.PutAt.{PutAt}
use Rattle.pairs.specs.views.NoteVariables.{names_variable, codes_with, Placed}
use Rattle.pairs.proofs.NoteRows.{notes_each}
use Rattle.pairs.proofs.NotePairs.{with_from, with_yes, with_no, with_end, full_done}
use Rattle.pairs.proofs.rule.pairs_with.Goals as goal
use Rattle.pairs.proofs.rule.pairs_with.Goals.{then-is_named, else-is_named}

pub returns-then-put-gt64-clause-result_after : goal.returns-then-put-gt64-clause-result_after
returns-then-put-gt64-clause-result_after c =
    let a = c.args in
    let turn = c.loop-code in
    let later = a.later.now in
    full_done (codes_with a.place a.v (drop turn.code-index (notes_in later (length later)))) turn.codes turn.put.count
    (omega arith) turn.invariant.1

pub pair_code-requires : goal.pair_code-requires
pair_code-requires c =
    let later = c.args.later.now in
    let placed = notes_each later (length later) (omega arith) Placed c.loop-code.code-index c.requires.1 (omega arith) in
    (c.requires.0, omega (arith, c.note_place.ensures))

pub loop-code-preserved : goal.loop-code-preserved
loop-code-preserved c =
    let turn = c.loop-code in
    let later = c.args.later.now in
    let n = length later in
    let i = turn.code-index in
    let inv = turn.invariant in
    let place = c.args.place in
    let v = c.args.v in
    let kept = pairs_in turn.codes turn.put.count in
    let test = ap (names_variable v) (sym c.note_record.ensures) ∙ sym c.is_named.ensures in
    elim c.if-is_named.branch [
      | then-is_named w ↦ (
        subst (λ x. x) (λ j. PutAt (sym w.codes-is j) (sym w.put-is j)) w.put_pair-put.ensures.put_at,
        ap (with_from place v later n (i + 1))
            ((λ j. pairs_in (w.codes-is j) (w.put-is j).count) ∙ w.put_pair-put.ensures.count_after
            ∙ ap (λ (k : ℕ). keep k kept) (w.pair_code.ensures ∙ ap (pair_code place) w.note_place.ensures))
            ∙ with_yes place v later n (omega arith) i (omega arith) (test ∙ w.if-is_named.true) kept
            ∙ inv.1,
      )
      | else-is_named w ↦ (
        subst (λ x. x) (λ j. PutAt (sym w.codes-is j) (sym w.put-is j)) inv.0,
        ap (with_from place v later n (i + 1)) (λ j. pairs_in (w.codes-is j) (w.put-is j).count)
            ∙ with_no place v later n (omega arith) i (omega arith) (test ∙ w.if-is_named.false) kept
            ∙ inv.1,
      )
    ]

pub returns-clause-result_after : goal.returns-clause-result_after
returns-clause-result_after c =
    let a = c.args in
    let turn = c.loop-code in
    sym (with_end a.place a.v a.later.now (length a.later.now) (omega arith) turn.code-index (omega arith)
    (pairs_in turn.codes turn.put.count))
    ∙ turn.invariant.1
