-- By the outcome of the rule.
use mathlib.Core.Path.{sym, ap, ◌∙◌}
use Rattle.outcomes.specs.views.CellOutcome.{outcome_of}
use Rattle.plain.specs.Plain.{answer_of}
use Rattle.rule_by_rule.specs.views.RuleByRule.{answer_after}
use Rattle.rule_by_rule.proofs.rules.moved.Goals as goal

pub returns-in-Holds : goal.returns-in-Holds
returns-in-Holds c = c.opened.ensures ∙ ap (λ o. answer_after (answer_of c.args.answer) c.args.rule (outcome_of o)) (sym c.in-Holds.is)

pub returns-in-NotKnown : goal.returns-in-NotKnown
returns-in-NotKnown c = c.opened-in-NotKnown.ensures ∙ ap (λ o. answer_after (answer_of c.args.answer) c.args.rule (outcome_of o)) (sym c.in-NotKnown.is)
