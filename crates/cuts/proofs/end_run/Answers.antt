-- `cuts::end_run` meets its contract: the codes that no live rule wants are written gauge by gauge, those that one wants as a run.
use Prim.Native.Nat.{ℕ, min, max, ◌+◌, ◌-◌}
use mathlib.Core.Path.{ap, ◌∙◌}
use native.Mathlib.Omega.{arith}
use Rattle.cuts.specs.views.Runs.{Run}
use Rattle.cuts.specs.views.FramedRuns.{gauge_first}
use Rattle.cuts.proofs.FramedPass.{ended_gaps, ended_wanted, name_one, name_none}
use Rattle.cuts.proofs.end_run.Goals as goal

pub returns-then-set-eq0 : goal.returns-then-set-eq0
returns-then-set-eq0 c =
    let a = c.args in
    let from = c.max-from.ensures in
    let end = c.gauge_first-end.ensures ∙ ap (λ (z : ℕ). gauge_first (z + 0xffff)) from in
    ended_gaps a.base a.start a.next a.set a.runs.now a.done.count a.done.names
    c.max-from.result c.min.result c.max.result c.put_gap-m.new.runs
    c.put_gap.new.runs
    c.put_gap-m.result c.put_gap.result c.if-set-eq0.true from
    (c.min.ensures ∙ ap (min a.next) end)
    (c.max.ensures ∙ (λ i. max (end i) (c.gauge_first.ensures i)))
    c.put_gap-m.ensures.0 c.put_gap-m.ensures.2 c.put_gap.ensures.0 c.put_gap.ensures.2
    c.put_gap.ensures.3

pub returns-then-start-base : goal.returns-then-start-base
returns-then-start-base c =
    let a = c.args in
    let run : Run = record { low = a.start; high = a.next - 1; set = a.set } in
    ended_wanted a.base a.start a.next a.set a.runs.now a.done.count a.done.names
    (a.done.names + 1) _ c.if-set-eq0.false c.requires.0 (omega (arith, c.requires.1))
    c.put_run.ensures (omega (arith, name_one a.base run c.if-start-base.true))

pub returns : goal.returns
returns c =
    let a = c.args in
    let run : Run = record { low = a.start; high = a.next - 1; set = a.set } in
    ended_wanted a.base a.start a.next a.set a.runs.now a.done.count a.done.names
    a.done.names _ c.if-set-eq0.false c.requires.0 (omega (arith, c.requires.1))
    c.put_run.ensures (omega (arith, name_none a.base run c.if-start-base.false))
