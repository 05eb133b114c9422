-- `track::put_order` meets its contract: each turn puts down the place that comes next, and writes it.
use mathlib.Core.Path.{◌≡◌}
use lib.ListN.{length}
use Rattle.track.proofs.PutInOrder.{PutSo}
use Rattle.track.proofs.put_order.Given as goal

abbrev pub invariant-loop : goal.invariant-loop
invariant-loop l = (length l.positions ≡ 1360) × PutSo l.positions l.initial.buf l.counter l.keys l.buf l.end
