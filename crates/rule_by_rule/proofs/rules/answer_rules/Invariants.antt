-- A loop over the rules: what comes of those left, with what is answered so far, is what comes of all.
use mathlib.Core.Path.{◌≡◌}
use lib.ListN.{length}
use Rattle.records.specs.Reading.{map_reading}
use Rattle.terms.specs.Answer.{fail}
use Rattle.sheet.specs.ReadSheet.{read_rules}
use Rattle.sheet_tests.specs.views.Starts.{rule_start}
use Rattle.plain.specs.Plain.{answer_of, reading_values}
use Rattle.rule_by_rule.specs.views.RuleByRule.{moved_by}
use Rattle.plain.specs.views.NotesOutcome.{cells_outcome}
use Rattle.rule_by_rule.proofs.RuleTurns.{answer_from}
use Rattle.rule_by_rule.proofs.rules.answer_rules.Given as goal

abbrev pub invariant-loop-i : goal.invariant-loop-i
invariant-loop-i l =
    (length l.notes ≡ 680)
    × (answer_from (cells_outcome l.cells) l.arity l.count l.s l.i (rule_start l.arity l.s l.i) (answer_of l.answer)
    ≡ reading_values (map_reading (moved_by (cells_outcome l.cells) 1 fail) (read_rules l.arity l.count l.s)))
