-- `cuts::frame_switch` meets its contract. The loop's invariant: the runs written and those before the cuts to come are the whole,
-- and at most three for two cuts, since codes that no live rule wants are over at every second cut at most.
use Prim.Native.Nat.{◌+◌, ◌*◌, ◌≤◌, ◌<◌}
use mathlib.Core.Path.{◌≡◌}
use lib.ListN.{length}
use Rattle.cuts.specs.views.Cuts.{cuts_in}
use Rattle.cuts.specs.views.Runs.{runs_in}
use Rattle.cuts.specs.views.FramedRuns.{framed_from, name_runs}
use Rattle.cuts.proofs.FramedPass.{framed_with}
use Rattle.cuts.proofs.frame_switch.Given as goal

abbrev pub invariant-loop-k : goal.invariant-loop-k
invariant-loop-k l =
    (l.framed.count + l.framed.count ≤ 3 * l.k + 1)
    × (l.set ≡ 0 → l.framed.count + l.framed.count ≤ 3 * l.k)
    × (l.start < 0x1_0000_0000)
    × (l.framed.names ≡ length (name_runs l.base (runs_in l.runs l.framed.count)))
    × (length l.runs ≡ 579)
    × (framed_with l.c l.from l.count l.base l.live l.runs l.framed.count l.start l.set l.k ≡ framed_from l.base l.live 0 0 (cuts_in l.c l.from))
