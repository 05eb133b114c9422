-- Patterns and rows of patterns, which call each other.
use Rattle.std.proofs.Common.{◌≡◌, ℕ, ◌-◌, suc, drop, sym, ap, refl, ◌∙◌, arith, inl, inr, ⊎_elim}
use Rattle.std.specs.Prelude.{Ok}
use Rattle.places.specs.Numbering.{stride}
use Rattle.records.proofs.Parts.{rest, rest_length}
use Rattle.records.proofs.RowSoFar.{one_to_come, turn_room, row_ended, row_stops, row_goes_on}
use Rattle.sheet.specs.views.NoteArray.{took_as}
use Rattle.sheet.specs.views.NotesBehind.{pattern_held}
use Rattle.marks.specs.views.Marks.{marked, marks_in}
use Rattle.marks.proofs.Marking.{beside}
use Rattle.patterns.proofs.Heads.{head_whole}
use Rattle.sheet.proofs.NoteArrays.{was_used, was_refused, handed_on}
use Rattle.sheet.proofs.Compounds.{flat_record, head_no, lowest_read, flat_read, arity_no, arguments_yes, arguments_no}
use Rattle.sheet.proofs.Rows.{arguments_room, part_read, row_step, pattern_row}
use Rattle.marks.proofs.rule.+pattern_patterns.Goals as goal
use Rattle.marks.proofs.rule.+pattern_patterns.Goals.{patterns-After-pattern}

-- A pattern: its record, then the arguments of a compound.
pub pattern-returns-in_err-what-clause-result_after : goal.pattern-returns-in_err-what-clause-result_after
pattern-returns-in_err-what-clause-result_after t c =
    let a = c.args in
    handed_on _ _ _ c.from_residual.ensures.1
    (head_no marked a.below a.place (marks_in a.words.now a.notes.now a.n) a.s.now (sym c.pattern_head.ensures ∙ c.in_err-what.was))

pub pattern-returns-in_default : goal.pattern-returns-in_default
pattern-returns-in_default t c =
    let a = c.args in
    let head = sym c.pattern_head.ensures ∙ c.in_ok-what.was in
    let flat = flat_record c.in_ok-what.what c.in_default.not-Compound in record {
      result_after = c.leaf.ensures.result_after
          ∙ flat_read marked a.below a.place (marks_in a.words.now a.notes.now a.n) a.s.now head flat;
      took_within = omega (arith, c.leaf.ensures.took_within, head_whole a.s.now head);
    }

-- Where a compound was found, the input begins with its record.
pub pattern-returns-then-below-eq0-clause-result_after : goal.pattern-returns-then-below-eq0-clause-result_after
pattern-returns-then-below-eq0-clause-result_after t c =
    let a = c.args in
    let head = sym c.pattern_head.ensures ∙ c.in_ok-what.was ∙ ap Ok c.in-Compound.is in
    lowest_read marked a.below a.place (marks_in a.words.now a.notes.now a.n) a.s.now head c.if-below-eq0.true

pub pattern-returns-then-arity-lt1-clause-result_after : goal.pattern-returns-then-arity-lt1-clause-result_after
pattern-returns-then-arity-lt1-clause-result_after t c =
    let a = c.args in
    let head = sym c.pattern_head.ensures ∙ c.in_ok-what.was ∙ ap Ok c.in-Compound.is in
    let wrong = ⊎_elim (λ w. inl w) (λ w. inr w.1) c.then-arity-lt1.either in
    arity_no marked a.below a.place (marks_in a.words.now a.notes.now a.n) a.s.now head c.if-below-eq0.false wrong

pub pattern-patterns-requires : goal.pattern-patterns-requires
pattern-patterns-requires t c =
    omega (arith, arguments_room c.args.below c.in-Compound.arity c.if-below-eq0.false c.if-arity-gt4.false)

pub pattern-returns-in_err-arguments-clause-result_after : goal.pattern-returns-in_err-arguments-clause-result_after
pattern-returns-in_err-arguments-clause-result_after t c =
    let a = c.args in
    let s = a.s.now in
    let before = marks_in a.words.now a.notes.now a.n in
    let head = sym c.pattern_head.ensures ∙ c.in_ok-what.was ∙ ap Ok c.in-Compound.is in
    let held = marks_in c.patterns.new.words c.patterns.new.notes in
    let read = part_read marked (a.below - 1) _ 4 s c.patterns.ensures.result_after
    (λ j. beside (c.mark.ensures.words_after j) before.names) refl in
    handed_on _ _ _ c.from_residual-in_err-arguments.ensures.1
    (arguments_no marked a.below a.place before s head c.if-below-eq0.false c.if-arity-lt1.false c.if-arity-gt4.false
    (was_refused held c.in_err-arguments.was read))

pub pattern-returns-clause-result_after : goal.pattern-returns-clause-result_after
pattern-returns-clause-result_after t c =
    let a = c.args in
    let s = a.s.now in
    let before = marks_in a.words.now a.notes.now a.n in
    let head = sym c.pattern_head.ensures ∙ c.in_ok-what.was ∙ ap Ok c.in-Compound.is in
    let held = marks_in c.patterns.new.words c.patterns.new.notes in
    let read = part_read marked (a.below - 1) _ 4 s c.patterns.ensures.result_after
    (λ j. beside (c.mark.ensures.words_after j) before.names) refl in
    arguments_yes marked a.below a.place before s head c.if-below-eq0.false c.if-arity-lt1.false c.if-arity-gt4.false
    (was_used held c.in_ok-arguments.was read)

pub pattern-returns-clause-took_within : goal.pattern-returns-clause-took_within
pattern-returns-clause-took_within t c =
    let s = c.args.s.now in
    let head = sym c.pattern_head.ensures ∙ c.in_ok-what.was ∙ ap Ok c.in-Compound.is in
    omega (
      arith,
      c.in_ok-arguments.ensures.took_within,
      rest_length s 4,
      head_whole s head,
      arguments_room c.args.below c.in-Compound.arity c.if-below-eq0.false c.if-arity-gt4.false,
    )

-- A row of patterns: one pattern a turn. Read or refused, it is the one that the rest of the bytes begins with.
pattern_tried
    : (t : ℕ) (c : patterns-After-pattern t)
    → took_as (marks_in c.pattern.new.words c.pattern.new.notes) c.pattern.result
    ≡ pattern_held marked c.args.below c.loop.here (marks_in c.loop.words c.loop.notes c.loop.made) (drop c.loop.at c.args.s.now)
pattern_tried t c = c.pattern.ensures.result_after ∙ (rw (rest c.args.s.now c.loop.at))

-- Where it was refused, so is the row;
pub patterns-returns-in_err-read-clause-result_after : goal.patterns-returns-in_err-read-clause-result_after
patterns-returns-in_err-read-clause-result_after t c =
    let a = c.args in
    let own = c.loop in
    let comes = one_to_come a.count own.counter c.loop-test.true in
    let tried = pattern_tried t (goal.at.patterns-returns-in_err-read-clause-result_after t c).After-pattern in
    handed_on _ _ _ c.from_residual.ensures.1
    (row_stops (pattern_row marked a.below) a.s.now own.at _ own.here (marks_in own.words own.notes own.made) _ comes
    (was_refused (marks_in c.pattern.new.words c.pattern.new.notes) c.in_err-read.was tried)
    ∙ own.invariant.5)

-- The row has room for this pattern and for those that come after it.
pub patterns-overflow_add-here : goal.patterns-overflow_add-here
patterns-overflow_add-here t c =
    let a = c.args in
    omega (
      arith,
      turn_room a.count c.loop.counter (stride (suc a.below)) c.loop-test.true,
      c.step-step.ensures ∙ row_step a.below c.requires.0,
    )

-- where it was read, the others are to come after it. Its bytes are there, and its notes are among those that the row has
-- room for so far.
pub patterns-loop-preserved : goal.patterns-loop-preserved
patterns-loop-preserved t c =
    let a = c.args in
    let own = c.loop in
    let step_is = c.step-step.ensures ∙ row_step a.below c.requires.0 in
    let comes = one_to_come a.count own.counter c.loop-test.true in
    let tried = pattern_tried t (goal.at.patterns-loop-preserved t c).After-pattern in (
      omega (arith, c.in_ok-read.ensures.took_within, rest_length a.s.now own.at, own.invariant.0),
      omega (arith, c.in_ok-read.ensures.took_within, step_is),
      omega (arith, turn_room a.count own.counter (stride (suc a.below)) c.loop-test.true, step_is),
      c.in_ok-read.ensures.took_within.0.entries,
      c.in_ok-read.ensures.took_within.1,
      row_goes_on (pattern_row marked a.below) a.s.now own.at _ own.here (marks_in own.words own.notes own.made) _ comes
          (was_used (marks_in c.pattern.new.words c.pattern.new.notes) c.in_ok-read.was tried)
          step_is
          ∙ own.invariant.5,
    )

pub patterns-returns-clause-result_after : goal.patterns-returns-clause-result_after
patterns-returns-clause-result_after t c =
    let a = c.args in
    let own = c.loop in
    row_ended (pattern_row marked a.below) a.s.now own.at (a.count - own.counter) own.here
    (marks_in own.words own.notes own.made) (omega arith)
    ∙ own.invariant.5
