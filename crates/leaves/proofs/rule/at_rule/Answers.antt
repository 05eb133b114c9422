-- `leaves::rule::at_rule` meets its contract: a test is contradicted, all hold, or some are not known.
use mathlib.Core.Path.{ap, ◌∙◌}
use borrow.Author.Tests.{eq-eqb, ne_eqb}
use Rattle.leaves.specs.views.LeafAnswers.{executed_by}
use Rattle.leaves.proofs.rule.at_rule.Goals as goal

pub returns-then-masks-ne0 : goal.returns-then-masks-ne0
returns-then-masks-ne0 c =
    let call = c.rule_masks-masks in
    let rule = c.args.rule in
    (simp (ne_eqb call.result.contradicted 0 c.if-masks-ne0.true)) ∙ ap (executed_by rule) call.ensures

pub returns-then-masks-eq0 : goal.returns-then-masks-eq0
returns-then-masks-eq0 c =
    let call = c.rule_masks-masks in
    let rule = c.args.rule in
    (simp (eq-eqb call.result.contradicted 0 c.if-masks-ne0.false, eq-eqb call.result.unknown 0 c.if-masks-eq0.true))
    ∙ ap (executed_by rule) call.ensures

pub returns : goal.returns
returns c =
    let call = c.rule_masks-masks in
    let rule = c.args.rule in
    (simp (eq-eqb call.result.contradicted 0 c.if-masks-ne0.false, ne_eqb call.result.unknown 0 c.if-masks-eq0.false))
    ∙ ap (executed_by rule) call.ensures
