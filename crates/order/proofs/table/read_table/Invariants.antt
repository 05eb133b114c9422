-- `order::table::read_table` meets its contract. What is still to come of the table gets the refusal of the whole table, and the
-- places passed are stored.
use Prim.Native.Nat.{◌-◌}
use mathlib.Core.Path.{◌≡◌}
use lib.ListN.{length}
use Rattle.order.proofs.TableLoop.{ReadTo}
use Rattle.order.proofs.table.read_table.Given as goal

abbrev pub invariant-loop-i : goal.invariant-loop-i
invariant-loop-i l = (length l.table ≡ 1360) × ReadTo l.table l.i l.places l.down l.late

abbrev pub decreases-loop-i : goal.decreases-loop-i
decreases-loop-i l = 680 - l.i
