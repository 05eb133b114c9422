-- `track::front::least_row` meets its contract: the least of the keys passed.
use Rattle.track.specs.views.Front.{LeastOf}
use Rattle.track.proofs.front.least_row.Given as goal

abbrev pub invariant-loop-i : goal.invariant-loop-i
invariant-loop-i l = LeastOf l.keys l.from l.step l.i l.best
