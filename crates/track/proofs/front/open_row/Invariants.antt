-- `track::front::open_row` meets its contract: the places of the row passed have their keys.
use Rattle.track.specs.views.Front.{Opened}
use Rattle.track.proofs.front.open_row.Given as goal

abbrev pub invariant-loop-i : goal.invariant-loop-i
invariant-loop-i l = Opened l.positions l.from l.step l.i l.initial.keys l.keys
