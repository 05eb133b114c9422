-- A rule that is contradicted at one of its first arguments, or read whole.
use mathlib.Core.Path.{sym, ap, ◌∙◌}
use native.Mathlib.Omega.{arith}
use Rattle.records.proofs.Parts.{rest}
use Rattle.sheet.specs.ReadSheet.{read_patterns}
use Rattle.sheet.proofs.SheetReads.{rule_is}
use Rattle.sheet_tests.proofs.Scanning.{RuleRead, bytes_known, rule_read_lem, rule_refused}
use Rattle.plain.specs.views.NotesOutcome.{notes_outcome}
use Rattle.rule_by_rule.proofs.RuleTurns.{readings_apart, same_rule}
use Rattle.rule_by_rule.proofs.rules.tried.Goals as goal
use Rattle.rule_by_rule.proofs.rules.tried.Goals.{In-Ok}

pub returns-then-is_out : goal.returns-then-is_out
returns-then-is_out c =
    let a = c.args in
    let s = c.args.s.now in record {
      by_index = λ b rule read.
          sym (c.is_out.ensures c.if-is_out.true b rule
          (ap (read_patterns 3 a.arity) (rest s 0) ∙ (rule_is a.arity s read).0));
      notes_len = c.requires.1;
    }

pub returns-in_default : goal.returns-in_default
returns-in_default c =
    let s = c.args.s.now in
    let none =
    rule_refused c.args.arity 0 s _ c.read_rule.result c.read_rule.ensures.result_after
    c.in_default.is in record {
      by_index = λ b rule read. absurd (readings_apart (sym read ∙ none));
      notes_len = c.read_rule.ensures.took_within.entries;
    }

module _ (c : In-Ok) where
  whole : RuleRead c.args.arity 0 c.args.s.now c.read_rule.new.notes c.in-Ok.rule.bytes c.in-Ok.rule.notes
  whole =
      let s = c.args.s.now in
      let told = c.read_rule.ensures in
      rule_read_lem c.args.arity 0 s _ c.read_rule.result told.result_after c.requires.0
      (bytes_known s (λ i. omega (arith, c.type_inv.s i)))
      c.in-Ok.is told.took_within

pub rule_outcome-requires : goal.rule_outcome-requires
rule_outcome-requires c =
    ((whole (goal.at.rule_outcome-requires c).In-Ok).made, c.read_rule.ensures.took_within.entries, (whole (goal.at.rule_outcome-requires c).In-Ok).placed, c.requires.2)

pub returns : goal.returns
returns c =
    let cells = c.args.cells.now in record {
      by_index = λ b rule e.
          c.rule_outcome.ensures
          ∙ ap (notes_outcome cells) ((whole (goal.at.returns c).In-Ok).noted ∙ same_rule (sym (whole (goal.at.returns c).In-Ok).read ∙ e));
      notes_len = c.read_rule.ensures.took_within.entries;
    }
