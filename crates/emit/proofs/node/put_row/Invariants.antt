-- `node::put_row` meets its contract. The loop's invariant: the pairs from last run k on are left to be written, and the node is
-- that of the union so far.
use mathlib.Core.Path.{◌≡◌}
use lib.ListN.{length}
use Rattle.cuts.specs.views.Runs.{run_at}
use Rattle.cuts.specs.views.CaseRuns.{union_row, runs_from, pairs_row}
use Rattle.edges.specs.views.KeysBehind.{run_behind}
use Rattle.met.specs.views.KeysMet.{key_number, keys_in}
use Rattle.emit.specs.views.Laid.{run_bytes}
use Rattle.emit.proofs.WritingOn.{Left}
use Rattle.emit.proofs.node.put_row.Given as goal

abbrev pub invariant-loop-k : goal.invariant-loop-k
invariant-loop-k l =
    (length l.buf ≡ length l.initial.buf) × (l.node ≡ key_number (keys_in l.keys) (run_behind l.s l.asked l.set))
    × Left l.initial.buf l.start (run_bytes l.s (keys_in l.keys) l.asked (pairs_row l.runs l.count l.first)) l.buf l.at
    (run_bytes l.s (keys_in l.keys) l.asked (union_row (run_at l.runs l.first).low l.set (runs_from l.runs l.count l.k)))
