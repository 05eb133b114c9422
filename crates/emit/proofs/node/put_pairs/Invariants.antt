-- `node::put_pairs` meets its contract. The loop's invariant: the pairs of the first runs from `first` on are left to be written.
use mathlib.Core.Path.{◌≡◌}
use lib.ListN.{length}
use Rattle.cuts.specs.views.CaseRuns.{union_pairs, runs_from}
use Rattle.met.specs.views.KeysMet.{keys_in}
use Rattle.emit.specs.views.Laid.{run_bytes}
use Rattle.emit.proofs.WritingOn.{Left}
use Rattle.emit.proofs.node.put_pairs.Given as goal

abbrev pub invariant-loop-first : goal.invariant-loop-first
invariant-loop-first l =
    (length l.buf ≡ length l.initial.buf)
    × Left l.initial.buf l.start (run_bytes l.s (keys_in l.keys) l.asked (union_pairs (runs_from l.runs l.count l.initial.first))) l.buf l.at
    (run_bytes l.s (keys_in l.keys) l.asked (union_pairs (runs_from l.runs l.count l.first)))
