-- The masks with one test more, for each outcome.
use mathlib.Core.Path.{sym, ap, ◌∙◌}
use mathlib.Core.Bool.{true}
use Rattle.terms.specs.Outcome.{Outcome}
use Rattle.outcomes.specs.views.CellOutcome.{outcome_of}
use Rattle.rule_masks.specs.views.TestNumbers.{with_if}
use Rattle.rule_masks.specs.views.Kept.{listed_tests}
use Rattle.rule_masks.specs.views.RuleMasks.{made, with_made}
use Rattle.rule_masks.proofs.rule.with_outcome.Goals as goal

pub returns-in-Holds : goal.returns-in-Holds
returns-in-Holds c =
    let a = c.args in
    ap (λ (o : Outcome). with_made (listed_tests a.kept.now) a.masks (made a.code o))
    (sym (ap outcome_of c.in-Holds.is))

pub returns-in-NotKnown : goal.returns-in-NotKnown
returns-in-NotKnown c =
    let a = c.args in
    let m = c.args.masks in
    let put = c.with_test.ensures ∙ ap (with_if true m.unknown) c.test_number.ensures in
    (λ i. record { unknown = put i; contradicted = m.contradicted })
    ∙ ap (λ (o : Outcome). with_made (listed_tests a.kept.now) m (made a.code o))
    (sym (ap outcome_of c.in-NotKnown.is))

pub returns-in-Contradicted : goal.returns-in-Contradicted
returns-in-Contradicted c =
    let a = c.args in
    let m = c.args.masks in
    let put = c.with_test-in-Contradicted.ensures ∙ ap (with_if true m.contradicted) c.test_number-in-Contradicted.ensures in
    (λ i. record { unknown = m.unknown; contradicted = put i })
    ∙ ap (λ (o : Outcome). with_made (listed_tests a.kept.now) m (made a.code o))
    (sym (ap outcome_of c.in-Contradicted.is))
