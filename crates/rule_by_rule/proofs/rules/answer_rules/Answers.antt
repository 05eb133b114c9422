-- A loop over the rules: what comes of those left, with what is answered so far, is what comes of all.
use Prim.Native.Nat.{ℕ, ◌+◌}
use mathlib.Core.Path.{◌≡◌, refl, sym, ap, ◌∙◌}
use native.Mathlib.Omega.{arith}
use lib.ListN.{drop}
use Rattle.records.specs.Reading.{map_reading}
use Rattle.records.proofs.Parts.{rest}
use Rattle.terms.specs.Answer.{Answer, fail}
use Rattle.sheet.specs.ReadSheet.{read_rule, read_rules}
use Rattle.sheet_tests.specs.views.Starts.{rule_start}
use Rattle.sheet_tests.proofs.Starting.{start_next}
use Rattle.plain.specs.Plain.{PlainValues, answer_of, answer_values, reading_values}
use Rattle.rule_by_rule.specs.views.RuleByRule.{answer_after, moved_by}
use Rattle.plain.specs.views.NotesOutcome.{cells_outcome}
use Rattle.rule_by_rule.proofs.RuleTurns.{answer_from, turns_start, turns_end, turns_suspend, turn_next, turn_read}
use Rattle.rule_by_rule.proofs.rules.answer_rules.Goals as goal
use Rattle.rule_by_rule.proofs.rules.answer_rules.Goals.{After-moved-answer}

pub loop-i-init : goal.loop-i-init
loop-i-init c =
    let a = c.args in
    (c.requires.1, turns_start (cells_outcome a.cells.now) a.arity a.count a.s.now fail)

pub bounds-starts-i : goal.bounds-starts-i
bounds-starts-i c = omega (arith, c.requires.3)

pub slice_bounds-tried-start : goal.slice_bounds-tried-start
slice_bounds-tried-start c =
    let turn = c.loop-i in
    omega (arith, (c.requires.4 turn.i (omega arith)).1)

pub tried-outcome-requires : goal.tried-outcome-requires
tried-outcome-requires c =
    (c.requires.0.few, c.loop-i.invariant.0, c.requires.2)

-- The answer moved by a rule, and those left.
module _ (c : After-moved-answer) where
  -- What comes of all rules.
  abbrev all : PlainValues
  all =
      let a = c.args in
      reading_values (map_reading (moved_by (cells_outcome a.cells.now) 1 fail) (read_rules a.arity a.count a.s.now))

  abbrev answered : Answer
  answered = moved_by (cells_outcome c.args.cells.now) 1 fail c.requires.0.rules

  all_answered : all ≡ answer_values answered
  all_answered =
      ap (λ x. reading_values (map_reading (moved_by (cells_outcome c.args.cells.now) 1 fail) x)) c.requires.0.read

  abbrev onward : Answer → PlainValues
  onward x =
      let a = c.args in
      let next = c.loop-i.i + 1 in
      answer_from (cells_outcome a.cells.now) a.arity a.count a.s.now next (rule_start a.arity a.s.now next) x

  goes_on : onward (answer_of c.moved-answer.result) ≡ all
  goes_on =
      let a = c.args in
      let s = a.s.now in
      let turn = c.loop-i in
      let outcome = cells_outcome a.cells.now in
      let before = answer_of turn.answer in
      let at = rule_start a.arity s turn.i in
      let (b, rule, read) =
      turn_read outcome a.arity a.count s turn.i at before answered (omega arith) (turn.invariant.1 ∙ all_answered) in
      let begins = (c.requires.4 turn.i (omega arith)).0 in
      let there =
      ap (read_rule a.arity) (rest s _) ∙ ap (λ (k : ℕ). read_rule a.arity (drop k s)) begins ∙ read in
      let answer = c.moved-answer.ensures ∙ ap (answer_after before (turn.i + 1)) (c.tried-outcome.ensures.by_index b rule there) in
      let next = start_next a.arity s turn.i at refl read in
      (λ j. answer_from outcome a.arity a.count s (turn.i + 1) (sym next j) (answer j))
      ∙ turn_next outcome a.arity a.count s turn.i at before (omega arith) rule read
      ∙ turn.invariant.1

-- Two rules are open.
pub returns-in-Suspend : goal.returns-in-Suspend
returns-in-Suspend c =
    let a = c.args in
    let next = c.loop-i.i + 1 in
    let told = ap answer_of c.in-Suspend.is in
    let come = sym (ap (onward (goal.at.returns-in-Suspend c).After-moved-answer) told) ∙ goes_on (goal.at.returns-in-Suspend c).After-moved-answer in
    ap answer_values told
    ∙ turns_suspend (cells_outcome a.cells.now) a.arity a.count a.s.now next (rule_start a.arity a.s.now next)
    (answered (goal.at.returns-in-Suspend c).After-moved-answer) (come ∙ all_answered (goal.at.returns-in-Suspend c).After-moved-answer)
    ∙ come

pub loop-i-preserved : goal.loop-i-preserved
loop-i-preserved c = (c.tried-outcome.ensures.notes_len, goes_on (goal.at.loop-i-preserved c).After-moved-answer)

pub returns : goal.returns
returns c =
    let a = c.args in
    let turn = c.loop-i in
    turns_end (cells_outcome a.cells.now) a.arity a.count a.s.now turn.i
    (rule_start a.arity a.s.now turn.i)
    (answer_of turn.answer) (omega arith)
    ∙ turn.invariant.1
