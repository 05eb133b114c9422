-- `track::front::climb` meets its contract: each turn goes from a place to its parent.
use Rattle.track.proofs.Climb.{Climbing}
use Rattle.track.proofs.front.climb.Given as goal

abbrev pub invariant-loop-q : goal.invariant-loop-q
invariant-loop-q l = Climbing l.p l.initial.keys l.keys l.q l.d

abbrev pub decreases-loop-q : goal.decreases-loop-q
decreases-loop-q l = l.d
