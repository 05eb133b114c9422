-- `cuts::gauge_end` meets its contract. The loop's invariant: the runs passed are on the gauge of the first.
use Prim.Native.Nat.{ℕ}
use mathlib.Core.Path.{◌≡◌, ap, ◌∙◌}
use mathlib.Core.Logic.{inl, inr}
use native.Mathlib.Omega.{arith}
use Rattle.basics.proofs.Numbers.{le_or_lt}
use Rattle.cuts.specs.views.Runs.{run_at}
use Rattle.cuts.specs.views.CaseRuns.{gauge_at}
use Rattle.cuts.proofs.gauge_end.Goals as goal

pub loop-end-init : goal.loop-end-init
loop-end-init c =
    let a = c.args in
    λ i h l. let e : i ≡ a.k = omega arith in ap (λ (m : ℕ). gauge_at (run_at a.runs.now m)) e

pub returns-then-runs-end : goal.returns-then-runs-end
returns-then-runs-end c =
    let at = c.loop-end in
    record { some = omega arith; within = omega arith; same = at.invariant; other = λ h e. c.if-runs-end.true e }

pub loop-end-preserved : goal.loop-end-preserved
loop-end-preserved c =
    let at = c.loop-end in
    let runs = c.args.runs.now in
    λ i h l. elim (le_or_lt at.end i) [
      | inr below ↦ at.invariant i h below
      | inl above ↦ (let e : i ≡ at.end = omega arith in ap (λ (m : ℕ). gauge_at (run_at runs m)) e ∙ c.if-runs-end.false)
    ]

pub returns : goal.returns
returns c =
    let at = c.loop-end in
    record { some = omega arith; within = omega arith; same = λ i h l. at.invariant i h (omega arith); other = λ h e. omega arith }
