-- A rule: its patterns, then question 9 of their notes.
use Rattle.std.proofs.Common.{sym, ◌∙◌}
use Rattle.sheet.specs.views.NoteArray.{notes_in}
use Rattle.sheet.proofs.NoteArrays.{was_used}
use Rattle.sheet.proofs.RuleReads.{from_none, ranges_yes, ranges_no}
use Rattle.sheet.proofs.rule.read_rule.Goals as goal

pub returns-then-not-common-clause-result_after : goal.returns-then-not-common-clause-result_after
returns-then-not-common-clause-result_after c =
    let a = c.args in
    let read = from_none a.arity a.s.now a.notes.now c.patterns.ensures.result_after in
    ranges_no a.arity a.s.now (was_used (notes_in c.patterns.new.notes) c.in_ok-took.was read)
    (sym c.common.ensures ∙ c.if-not-common.true)

pub returns-clause-result_after : goal.returns-clause-result_after
returns-clause-result_after c =
    let a = c.args in
    let read = from_none a.arity a.s.now a.notes.now c.patterns.ensures.result_after in
    ranges_yes a.arity a.s.now (was_used (notes_in c.patterns.new.notes) c.in_ok-took.was read)
    (sym c.common.ensures ∙ c.if-not-common.false)
