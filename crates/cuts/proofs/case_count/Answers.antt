-- `cuts::case_count` meets its contract. The loop's invariant: the cases counted and the pairs to come are all cases.
use Prim.Native.Nat.{ℕ, suc, ◌+◌, ◌*◌, ◌-◌, ◌/◌, ◌≤◌}
use mathlib.Core.Path.{◌≡◌, sym, ap, ◌∙◌}
use mathlib.Core.List.{List}
use native.Mathlib.Nat.{mul-le-mul}
use native.Mathlib.Omega.{arith}
use lib.ListN.{length, length-append}
use mir.Val.{Fits}
use mir.Syntax.{w64}
use Rattle.cuts.specs.views.Runs.{Run}
use Rattle.cuts.specs.views.CaseRuns.{union_pairs, gauge_pairs, runs_from, GaugeUpTo}
use Rattle.cuts.proofs.CaseRuns.{cases_counted, cases_most, pairs_counted, gauges_some, gauges_none}
use Rattle.cuts.proofs.case_count.Goals as goal

-- Of at most 193 runs the pairs, counted twice, are a number of 64 bits.
few : (n : ℕ) → n ≤ 193 → Fits w64 (n * (n + 1))
few n h =
    let most : n * (n + 1) ≤ 193 * 194 = mul-le-mul {n₁ = n} {m₁ = n + 1} {n₂ = 193} {m₂ = 194} h (omega arith) in
    omega (arith, most)

-- The pairs of the runs on one gauge, n (n + 1) / 2 of them, and those of the others.
counted : (runs : List ℕ) (count k end : ℕ) → GaugeUpTo runs count k end
    → length (gauge_pairs (runs_from runs count k))
    ≡ (end - k) * (end - k + 1) / 2 + length (gauge_pairs (runs_from runs count end))
counted runs count k end one =
    let n = end - k in
    let own = union_pairs (runs_from runs end k) in
    let next : n * suc n ≡ n * (n + 1) = ap (λ (m : ℕ). n * m) (let e : suc n ≡ n + 1 = omega arith in e) in
    let both = ap (λ (l : List Run). length l) (gauges_some runs count k end one)
    ∙ length-append own (gauge_pairs (runs_from runs count end)) in
    omega (arith, pairs_counted runs end k)

pub loop-first-init : goal.loop-first-init
loop-first-init c =
    let a = c.args in
    (omega arith, c.requires.0, sym (cases_counted a.runs.now a.framed.count a.framed.names c.requires.0))

pub overflow_add-cases : goal.overflow_add-cases
overflow_add-cases c =
    let one = c.gauge_end-end.ensures in
    omega (arith, one.within, c.requires.1)

pub overflow_mul-cases : goal.overflow_mul-cases
overflow_mul-cases c =
    let one = c.gauge_end-end.ensures in
    few _ (omega (arith, one.within, c.requires.1))

pub overflow_add-cases-in-loop-first : goal.overflow_add-cases-in-loop-first
overflow_add-cases-in-loop-first c =
    let a = c.args in
    let at = c.loop-first in
    let most = cases_most a.runs.now a.framed.count a.framed.names c.requires.0
    c.requires.1 in
    omega (arith, at.invariant.2, counted a.runs.now a.framed.count at.first c.gauge_end-end.result c.gauge_end-end.ensures)

pub loop-first-smaller : goal.loop-first-smaller
loop-first-smaller c =
    let one = c.gauge_end-end.ensures in
    omega (arith, one.some, one.within)

pub loop-first-preserved : goal.loop-first-preserved
loop-first-preserved c =
    let a = c.args in
    let at = c.loop-first in
    let one = c.gauge_end-end.ensures in (
      omega (arith, at.invariant.0, one.some),
      one.within,
      omega (arith, at.invariant.2, counted a.runs.now a.framed.count at.first c.gauge_end-end.result one),
    )

pub returns : goal.returns
returns c =
    let a = c.args in
    let at = c.loop-first in
    let none = ap (λ (l : List Run). length l) (gauges_none a.runs.now a.framed.count at.first c.loop-first-test.false) in
    omega (arith, at.invariant.2)
