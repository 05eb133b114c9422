-- `cuts::frame_switch` meets its contract. The loop's invariant: the runs written and those before the cuts to come are the whole,
-- and at most three for two cuts, since codes that no live rule wants are over at every second cut at most.
use Prim.Native.Nat.{ℕ, max, ◌+◌, ◌*◌, ◌-◌, ◌≤◌, ◌<◌}
use mathlib.Core.Path.{◌≡◌, refl, sym, ap, ◌∙◌}
use mathlib.Core.List.{[], ◌++◌, map}
use native.Mathlib.Decide.{ℕ_discrete}
use native.Mathlib.Omega.{arith}
use lib.Bits.{bit_and, bit_xor, xor_zero_l}
use Rattle.basics.specs.Lists.{count_from}
use Rattle.cuts.specs.views.Cuts.{count_at, cut_at}
use Rattle.cuts.specs.views.Runs.{runs_in}
use Rattle.cuts.specs.views.FramedRuns.{gap_run, gauge_first, gauge_end, framed_run, framed_from}
use Rattle.cuts.proofs.FramedPass.{names_few, names_more, cut_passed, cut_ended, cut_last, gap_no_name}
use Rattle.cuts.proofs.frame_switch.Goals as goal
use Rattle.cuts.proofs.frame_switch.Goals.{then-turned-ne0, else-turned-ne0}

-- Twice as many runs as there are stay below three for each cut, and one less where no rule wants what comes next.
twice
    : (n m k set turned : ℕ) → (turned ≡ 0 → ⊥) → n + n ≤ 3 * k + 1 → (set ≡ 0 → n + n ≤ 3 * k) → m ≤ n + 2
    → ((set ≡ 0 → ⊥) → m ≤ n + 1)
    → (m + m ≤ 3 * (k + 1) + 1) × (bit_xor set turned ≡ 0 → m + m ≤ 3 * (k + 1))
twice n m k set turned some most least all one =
    elim (ℕ_discrete set 0) [
      | yes e ↦ (
        omega (arith, least e),
        λ d. absurd (some (sym (xor_zero_l turned) ∙ ap (λ (s : ℕ). bit_xor s turned) (sym e) ∙ d)),
      )
      | no e ↦ (omega (arith, one e), λ d. omega (arith, one e))
    ]

pub loop-k-init : goal.loop-k-init
loop-k-init c =
    let a = c.args in
    let e : count_at a.c.now a.from - 0 ≡ count_at a.c.now a.from = omega arith in (
      omega arith,
      λ d. omega arith,
      omega arith,
      refl,
      c.requires.from_in_bounds.2,
      ap (λ (m : ℕ). framed_from a.base a.live 0 0 (map (cut_at a.c.now a.from) (count_from 0 m))) e,
    )

pub end_run-framed-requires : goal.end_run-framed-requires
end_run-framed-requires c =
    let at = c.loop-k in
    let few = names_few c.args.base at.runs at.framed.count in
    let code = c.requires.by_index at.k (omega arith) in
    (at.invariant.4, omega arith, omega arith, code.0, at.invariant.2, c.requires.from_in_bounds.3)

pub loop-k-preserved : goal.loop-k-preserved
loop-k-preserved c =
    let a = c.args in
    let at = c.loop-k in
    let inv = c.loop-k.invariant in
    let count = count_at c.args.c.now c.args.from in
    let cuts = c.args.c.now in
    let more : at.k < count = omega arith in
    let code = (cut_at cuts a.from at.k).code in
    let n = c.loop-k.framed.count in
    let ended = cut_ended cuts a.from count a.base a.live at.runs n at.start at.set at.k in
    let passed = cut_passed cuts a.from count a.base a.live at.runs n at.start at.set at.k in
    elim c.if-turned-ne0.branch [
      | then-turned-ne0 w ↦
          let end = w.end_run-framed.ensures in
          let after = w.end_run-framed.new.runs in
          let result = w.end_run-framed.result in
          let few = twice n result.count at.k at.set (bit_and (cut_at cuts a.from at.k).turns a.live)
          w.if-turned-ne0.true inv.0 inv.1 end.2 end.3 in
          rw (w.runs-is, w.framed-is, w.start-is, w.set-is) (
            few.0,
            few.1,
            (c.requires.by_index at.k (omega arith)).1,
            names_more a.base at.framed.names result.names (runs_in at.runs at.framed.count)
                (runs_in after result.count) (framed_run a.base at.start code at.set []) inv.3 end.1 end.0,
            end.4,
            sym (ended after result.count more w.if-turned-ne0.true end.0) ∙ inv.5,
          )
      | else-turned-ne0 w ↦
          rw (w.runs-is, w.framed-is, w.start-is, w.set-is) (
            omega (arith, inv.0),
            λ d. omega (arith, inv.1 d),
            inv.2,
            inv.3,
            inv.4,
            sym (passed more w.if-turned-ne0.false) ∙ inv.5,
          )
    ]

pub put_gap-all-requires : goal.put_gap-all-requires
put_gap-all-requires c =
    let inv = c.loop-k.invariant in
    (inv.4, omega (arith, inv.0))

pub returns : goal.returns
returns c =
    let begins = c.max-last.ensures in
    let ends = c.gauge_first-end.ensures ∙ ap (λ (z : ℕ). gauge_first (z + 0xffff)) begins in
    let a = c.args in
    let at = c.loop-k in
    let count = count_at c.args.c.now c.args.from in
    let n = c.loop-k.framed.count in
    let low = max at.start a.base in
    let gap = gap_run low (gauge_end low) [] in
    let after = c.put_gap-all.new.runs in
    let written : runs_in after c.put_gap-all.result ≡ runs_in at.runs n ++ gap =
    c.put_gap-all.ensures.0 ∙ (λ i. runs_in at.runs n ++ gap_run (begins i) (ends i) []) in
    let last =
    cut_last a.c.now a.from count a.base a.live at.runs n at.start at.set at.k after
    c.put_gap-all.result (omega arith) written in
    let none = gap_no_name a.base low (gauge_end low) (omega arith) in (
      sym last ∙ at.invariant.5,
      names_more a.base at.framed.names at.framed.names (runs_in at.runs n) (runs_in after c.put_gap-all.result) gap
          at.invariant.3 (omega arith) written,
      omega (arith, c.put_gap-all.ensures.2, at.invariant.0),
      c.put_gap-all.ensures.3,
    )
