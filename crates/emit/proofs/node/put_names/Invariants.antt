-- `node::put_names` meets its contract. The loop's invariant: the cases from case k on are left to be written.
use mathlib.Core.Path.{◌≡◌}
use lib.ListN.{length}
use Rattle.cuts.specs.views.Runs.{runs_in}
use Rattle.cuts.specs.views.CaseRuns.{runs_from}
use Rattle.met.specs.views.KeysMet.{keys_in}
use Rattle.emit.specs.views.Laid.{run_bytes}
use Rattle.emit.proofs.WritingOn.{Left}
use Rattle.emit.proofs.node.put_names.Given as goal

abbrev pub invariant-loop-k : goal.invariant-loop-k
invariant-loop-k l =
    (length l.buf ≡ length l.initial.buf)
    × Left l.initial.buf l.start (run_bytes l.s (keys_in l.keys) l.asked (runs_in l.runs l.count)) l.buf l.at
    (run_bytes l.s (keys_in l.keys) l.asked (runs_from l.runs l.count l.k))
