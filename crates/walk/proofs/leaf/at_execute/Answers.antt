-- `walk::leaf::at_execute` meets its contract: the notes of the rule, and the answer by them.
use Prim.Native.Nat.{ℕ}
use mathlib.Core.List.{List, []}
use mathlib.Core.Path.{◌≡◌, sym, ap, subst, ◌∙◌}
use native.Mathlib.Omega.{arith}
use Rattle.basics.specs.Lists.{All}
use Rattle.records.specs.Reading.{took}
use Rattle.patterns.specs.views.Note.{Note}
use Rattle.sheet.specs.views.NoteArray.{notes_in}
use Rattle.pairs.specs.views.NoteVariables.{Placed}
use Rattle.sheet.specs.views.Noted.{rule_notes}
use Rattle.sheet.specs.ReadSheet.{read_rules}
use Rattle.graph.specs.views.Rewriting.{read_or}
use Rattle.terms.specs.Answer.{rule_at}
use Rattle.rule_masks.specs.views.Kept.{listed_tests}
use Rattle.leaves.specs.views.Seeking.{BeginAt}
use Rattle.leaves.specs.views.TakenNotes.{taken_notes, notes_taken}
use Rattle.rule_masks.specs.views.RuleMasks.{notes_masks}
use Rattle.leaves.specs.views.LeafAnswers.{RuleEnd, executed_by}
use Rattle.walk.specs.views.LeafWalks.{walk_after}
use Rattle.walk.proofs.leaf.at_execute.Goals as goal

pub begin_of-begin-requires : goal.begin_of-begin-requires
begin_of-begin-requires c = c.requires.0.from_one

pub notes_at-requires : goal.notes_at-requires
notes_at-requires c =
    let a = c.args in
    let pre = c.requires in
    let begin =
    subst (BeginAt a.s.now a.sizes.arity a.sizes.rules a.rule) (sym c.begin_of-begin.ensures)
    (pre.3 a.rule pre.0.from_one pre.0.inside) in record {
      rule_read = (pre.0, pre.4);
      begin_at = begin;
    }

pub returns-in_err-taken : goal.returns-in_err-taken
returns-in_err-taken c =
    let call = c.notes_at in record {
      result_value = absurd (cc (sym (ap (taken_notes call.new.notes) c.in_err-taken.was) ∙ call.ensures.result_after));
      notes_len = call.ensures.result_bound.1;
    }

pub at_rule-end-requires : goal.at_rule-end-requires
at_rule-end-requires c =
    let call = c.notes_at in
    let few = c.notes_at.ensures.result_bound in
    let told = ap notes_taken c.in_ok-taken.was in
    let pre = c.requires in (
      omega (arith, few.0, told),
      few.1,
      subst (λ (n : ℕ). All Placed (notes_in call.new.notes n)) told few.2,
      pre.2,
      pre.1,
    )

pub returns : goal.returns
returns c =
    let a = c.args in
    let call = c.notes_at in
    let told = sym (ap (taken_notes call.new.notes) c.in_ok-taken.was) ∙ call.ensures.result_after in
    let rules = read_or [] (read_rules a.sizes.arity a.sizes.rules a.s.now) in
    let noted : notes_in call.new.notes c.in_ok-taken.taken.notes ≡ rule_notes (rule_at rules a.rule) = cc told in record {
      result_value = ap (λ (e : RuleEnd). took 0 (walk_after a.edges e))
          (c.at_rule-end.ensures
          ∙ ap (λ (l : List Note). executed_by a.rule (notes_masks (listed_tests a.kept.now) a.cells.now l)) noted);
      notes_len = call.ensures.result_bound.1;
    }
