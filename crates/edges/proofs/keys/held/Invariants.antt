-- `edges::keys::held` meets its contract. The loop's invariant: the tests left of the live rules passed are joined. Where these are
-- all tests left, no live rule to come has another.
use Rattle.masks.proofs.Loops.{Joining}
use Rattle.tables.specs.views.Planes.{row_in}
use Rattle.edges.proofs.Holding.{in_both}
use Rattle.edges.proofs.keys.held.Given as goal

abbrev pub invariant-loop-to_come : goal.invariant-loop-to_come
invariant-loop-to_come l = Joining 64 (in_both (row_in l.s) l.left) l.live l.all l.to_come

abbrev pub decreases-loop-to_come : goal.decreases-loop-to_come
decreases-loop-to_come l = l.to_come
