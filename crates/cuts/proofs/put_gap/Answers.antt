-- `cuts::put_gap` meets its contract: a run is written, or there is none.
use Prim.Native.Nat.{◌+◌, ◌-◌}
use mathlib.Core.Path.{sym, ap, ◌∙◌}
use mathlib.Core.List.{List, ◌++◌, append-nil}
use native.Mathlib.Omega.{arith}
use lib.ListN.{length}
use Rattle.cuts.specs.views.Runs.{Run, runs_in}
use Rattle.cuts.proofs.Cutting.{run_more, with_length}
use Rattle.cuts.proofs.FramedPass.{gap_none, gap_some}
use Rattle.cuts.proofs.put_gap.Goals as goal

pub returns-then-next-start : goal.returns-then-next-start
returns-then-next-start c =
    let a = c.args in
    let old = runs_in a.runs.now a.n in (
      sym (append-nil old) ∙ ap (λ (l : List Run). old ++ l) (sym (gap_none a.start a.next c.if-next-start.true)),
      omega arith,
      omega arith,
      c.requires.0,
    )

pub returns : goal.returns
returns c =
    let a = c.args in
    let run : Run = record { low = a.start; high = a.next - 1; set = 0 } in
    let old = runs_in a.runs.now a.n in (
      ap (λ l. runs_in l (a.n + 1)) c.put_run.ensures
          ∙ run_more a.runs.now a.n run (omega (arith, c.requires.0, c.requires.1))
          ∙ ap (λ (l : List Run). old ++ l) (sym (gap_some a.start a.next c.if-next-start.false)),
      omega arith,
      omega arith,
      ap (λ l. length l) c.put_run.ensures ∙ with_length a.runs.now a.n run ∙ c.requires.0,
    )
