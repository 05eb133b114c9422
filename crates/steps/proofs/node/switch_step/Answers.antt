-- `steps::node::switch_step` meets its contract: a place that is lacking, unknown or known.
use mathlib.Core.Path.{◌≡◌, sym, ap, ap₂, ◌∙◌}
use mathlib.Core.List.{[]}
use mathlib.Core.Bool.{true, false}
use lib.ListN.{drop}
use borrow.Author.Tests.{eq-eqb, ne_eqb}
use Rattle.codes.specs.views.Codes.{unknown_run}
use Rattle.pairs.specs.views.KeptPairs.{pair_code}
use Rattle.graph.specs.views.Rewriting.{read_or}
use Rattle.graph.specs.ReadGraph.{read_cases}
use Rattle.std.specs.Prelude.{Ok}
use Rattle.steps.specs.declared.Step.TheVariants.{GoTo}
use Rattle.number_search.specs.views.CodeCases.{follow_code}
use Rattle.steps.proofs.NodeSteps.{switch_lacking, switch_on}
use Rattle.steps.proofs.node.switch_step.Goals as goal

pub returns-then-run-eq0 : goal.returns-then-run-eq0
returns-then-run-eq0 c =
    let a = c.args in
    let cs = read_or [] (read_cases a.count (drop a.start a.graph.now)) in
    let run = c.look-run.result in
    rw (sym c.look-run.ensures)
    (ap Ok (switch_lacking cs a.neither a.unknown run (pair_code a.tested a.tested) (eq-eqb run 0 c.if-run-eq0.true)))

pub returns-then-run-eq-UNKNOWN : goal.returns-then-run-eq-UNKNOWN
returns-then-run-eq-UNKNOWN c =
    let a = c.args in
    let cs = read_or [] (read_cases a.count (drop a.start a.graph.now)) in
    let run = c.look-run.result in
    rw (sym c.look-run.ensures)
    (ap Ok
    (ap (GoTo a.unknown) c.test_code-test.ensures
    ∙ switch_on cs a.neither a.unknown run (pair_code a.tested a.tested) true
    (ne_eqb run 0 c.if-run-eq0.false) (eq-eqb run unknown_run c.if-run-eq-UNKNOWN.true)))

pub returns : goal.returns
returns c =
    let a = c.args in
    let cs = read_or [] (read_cases a.count (drop a.start a.graph.now)) in
    let run = c.look-run.result in
    let test = pair_code a.tested a.tested in
    let some = ne_eqb run 0 c.if-run-eq0.false in
    let right = switch_on cs a.neither a.unknown run test false some (ne_eqb run unknown_run c.if-run-eq-UNKNOWN.false) in
    let led : c.in_ok-node.node ≡ follow_code cs a.neither c.low_of.result c.high_of.result = cc c.in_ok-node.ensures in
    rw (sym c.look-run.ensures)
    (ap Ok
    (ap (GoTo c.in_ok-node.node) c.test_code-test.ensures
    ∙ ap (λ n. GoTo n test) led
    ∙ ap₂ (λ low high. GoTo (follow_code cs a.neither low high) test) c.low_of.ensures c.high_of.ensures
    ∙ right))
