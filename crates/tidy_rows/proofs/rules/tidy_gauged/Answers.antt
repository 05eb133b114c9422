-- "Gauge 0 is tidied to 22."
use mathlib.Core.Bool.{Bool, cond}
use mathlib.Core.Path.{sym, ap}
use borrow.Author.Tests.{eq-eqb, ne_eqb}
use Rattle.patterns.specs.declared.PatternRecord.TheVariants.{Range, Gauged}
use Rattle.tidy_rows.proofs.rules.tidy_gauged.Goals as goal

pub returns-then-gauge-eq0 : goal.returns-then-gauge-eq0
returns-then-gauge-eq0 c =
    let a = c.args in
    sym
    (ap (λ (b : Bool). cond b (Range a.low a.high) (Gauged a.gauge a.low a.high))
    (eq-eqb a.gauge 0 c.if-gauge-eq0.true))

pub returns : goal.returns
returns c =
    let a = c.args in
    sym
    (ap (λ (b : Bool). cond b (Range a.low a.high) (Gauged a.gauge a.low a.high))
    (ne_eqb a.gauge 0 c.if-gauge-eq0.false))
