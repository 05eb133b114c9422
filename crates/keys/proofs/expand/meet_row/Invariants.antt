-- `expand::meet_row` meets its contract. The loop's invariant: the pairs from last run k on are still to come, and the key behind
-- the union so far is met.
use Prim.Native.Nat.{◌*◌, ◌≤◌}
use mathlib.Core.Path.{◌≡◌}
use Rattle.edges.specs.views.KeysBehind.{run_behind}
use Rattle.met.specs.views.KeysMet.{meet, keys_in, Chained}
use Rattle.keys.proofs.EdgesInTurn.{CasesLeft}
use Rattle.keys.proofs.RowsInTurn.{row_edges, row_left}
use Rattle.keys.proofs.expand.meet_row.Given as goal

abbrev pub invariant-loop-k : goal.invariant-loop-k
invariant-loop-k l =
    (l.bytes ≤ 8 * l.k) × Chained l.keys × (keys_in l.keys ≡ meet (keys_in l.keys) (run_behind l.s l.asked l.set))
    × CasesLeft (row_edges l.s l.asked l.runs l.count l.first) (row_left l.s l.asked l.runs l.count l.first l.set l.k) (keys_in l.initial.keys) l.keys l.bytes
