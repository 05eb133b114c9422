-- `steps::node::pair_step` meets its contract: a place that is lacking, and each outcome of the test.
use mathlib.Core.Path.{sym, ap, ◌∙◌}
use mathlib.Core.Logic.{inl, inr}
use borrow.Author.Tests.{eq-eqb, ne_eqb}
use Rattle.pairs.specs.views.KeptPairs.{pair_code}
use Rattle.outcomes.specs.views.Look.{look}
use Rattle.outcomes.specs.views.CellOutcome.{outcome_of, pair_cells}
use Rattle.steps.specs.declared.Step.TheVariants.{GoTo}
use Rattle.steps.proofs.NodeSteps.{pair_lacking, pair_there}
use Rattle.steps.proofs.node.pair_step.Goals as goal

pub returns-then-look-eq0 : goal.returns-then-look-eq0
returns-then-look-eq0 c =
    let a = c.args in
    let cells = c.args.cells.now in
    pair_lacking (look cells a.p) (look cells a.q) a.differ a.other (pair_code a.p a.q)
    (pair_cells cells a.p a.q) (inl (sym c.look.ensures ∙ c.if-look-eq0.true))

pub returns-then-look-eq0-2 : goal.returns-then-look-eq0-2
returns-then-look-eq0-2 c =
    let a = c.args in
    let cells = c.args.cells.now in
    let right = look cells a.q in
    pair_lacking (look cells a.p) right a.differ a.other (pair_code a.p a.q) (pair_cells cells a.p a.q)
    (inr (eq-eqb right 0 (sym c.look-2.ensures ∙ c.if-look-eq0-2.true)))

pub returns-in-Holds : goal.returns-in-Holds
returns-in-Holds c =
    let a = c.args in
    let cells = c.args.cells.now in
    let left = look cells a.p in
    let right = look cells a.q in
    ap (GoTo a.other) c.test_code-test.ensures
    ∙ pair_there left right a.differ a.other (pair_code a.p a.q) (pair_cells cells a.p a.q)
    (λ e. c.if-look-eq0.false (c.look.ensures ∙ e))
    (ne_eqb right 0 (λ e. c.if-look-eq0-2.false (c.look-2.ensures ∙ e)))
    (sym (ap outcome_of c.in-Holds.is) ∙ c.pair_outcome.ensures)

pub returns-in-NotKnown : goal.returns-in-NotKnown
returns-in-NotKnown c =
    let a = c.args in
    let cells = c.args.cells.now in
    let left = look cells a.p in
    let right = look cells a.q in
    ap (GoTo a.other) c.test_code-test.ensures
    ∙ pair_there left right a.differ a.other (pair_code a.p a.q) (pair_cells cells a.p a.q)
    (λ e. c.if-look-eq0.false (c.look.ensures ∙ e))
    (ne_eqb right 0 (λ e. c.if-look-eq0-2.false (c.look-2.ensures ∙ e)))
    (sym (ap outcome_of c.in-NotKnown.is) ∙ c.pair_outcome.ensures)

pub returns-in-Contradicted : goal.returns-in-Contradicted
returns-in-Contradicted c =
    let a = c.args in
    let cells = c.args.cells.now in
    let left = look cells a.p in
    let right = look cells a.q in
    ap (GoTo a.differ) c.test_code-test.ensures
    ∙ pair_there left right a.differ a.other (pair_code a.p a.q) (pair_cells cells a.p a.q)
    (λ e. c.if-look-eq0.false (c.look.ensures ∙ e))
    (ne_eqb right 0 (λ e. c.if-look-eq0-2.false (c.look-2.ensures ∙ e)))
    (sym (ap outcome_of c.in-Contradicted.is) ∙ c.pair_outcome.ensures)
