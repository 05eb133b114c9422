-- `expand::meet_pairs` meets its contract. The loop's invariant: the pairs of the first runs from `first` on are still to come.
use Prim.Native.Nat.{◌+◌, ◌*◌, ◌≤◌}
use Rattle.met.specs.views.KeysMet.{keys_in, Chained}
use Rattle.keys.proofs.EdgesInTurn.{CasesLeft}
use Rattle.keys.proofs.RowsInTurn.{pairs_left}
use Rattle.keys.proofs.expand.meet_pairs.Given as goal

abbrev pub invariant-loop-first : goal.invariant-loop-first
invariant-loop-first l =
    (l.bytes + 1544 * l.initial.first ≤ 1544 * l.first) × Chained l.keys
    × CasesLeft (pairs_left l.s l.asked l.runs l.count l.initial.first) (pairs_left l.s l.asked l.runs l.count l.first) (keys_in l.initial.keys) l.keys l.bytes
