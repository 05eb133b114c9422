-- The two ends are compared.
use mathlib.Core.Path.{sym, ap}
use mathlib.Core.Bool.{Bool, cond}
use borrow.Author.Tests.{eq-eqb, ne_eqb}
use Rattle.patterns.specs.declared.PatternRecord.TheVariants.{Symbol, Series}
use Rattle.tidy_rows.proofs.rules.tidy_series.Goals as goal

pub returns-then-low-high : goal.returns-then-low-high
returns-then-low-high c =
    let low = c.args.low in
    let high = c.args.high in
    sym (ap (λ (b : Bool). cond b (Symbol low) (Series low high)) (eq-eqb low high c.if-low-high.true))

pub returns : goal.returns
returns c =
    let low = c.args.low in
    let high = c.args.high in
    sym (ap (λ (b : Bool). cond b (Symbol low) (Series low high)) (ne_eqb low high c.if-low-high.false))
