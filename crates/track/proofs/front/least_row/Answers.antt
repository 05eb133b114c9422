-- `track::front::least_row` meets its contract: the least of the keys passed.
use Rattle.track.proofs.Rows.{least_next}
use Rattle.track.proofs.front.least_row.Goals as goal

pub loop-i-preserved : goal.loop-i-preserved
loop-i-preserved c = least_next _ _ _ c.loop-i.i c.loop-i.best _ c.loop-i.invariant c.min-best.ensures
