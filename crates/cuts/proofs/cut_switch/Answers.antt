-- `cuts::cut_switch` meets its contract: the runs are those of the numbers' base, and make at most 18,721 cases.
use Prim.Native.Nat.{ℕ, ◌≤◌}
use mathlib.Core.Path.{◌≡◌, ap, subst, ◌∙◌}
use mathlib.Core.List.{List}
use native.Mathlib.Omega.{arith}
use lib.ListN.{length}
use Rattle.cuts.specs.views.Cuts.{cuts_in}
use Rattle.cuts.specs.views.Runs.{Run, runs_in}
use Rattle.cuts.specs.views.FramedRuns.{name_runs}
use Rattle.cuts.specs.views.CaseRuns.{case_runs, switch_runs}
use Rattle.cuts.proofs.CaseRuns.{cases_most}
use Rattle.cuts.proofs.FramedPass.{names_few}
use Rattle.cuts.proofs.cut_switch.Goals as goal

pub returns : goal.returns
returns c =
    let a = c.args in
    let end = c.frame_switch.ensures in
    let runs = c.frame_switch.new.runs in
    let r = c.frame_switch.result in
    let few : r.names ≤ r.count = omega (arith, end.1, names_few 0x300_0000 runs r.count) in
    let same : case_runs r.names (runs_in runs r.count) ≡ switch_runs a.live (cuts_in a.c.now a.from) =
    ap (λ (k : ℕ). case_runs k (runs_in runs r.count)) end.1
    ∙ ap (λ (rs : List Run). case_runs (length (name_runs 0x300_0000 rs)) rs) end.0 in
    let most = subst (λ (l : List Run). length l ≤ 18721) same (cases_most runs r.count r.names few end.2) in
    (same, most, few, end.2, end.3)
