-- A loop over the places: those passed have asked their tests.
use Rattle.turns.proofs.Turning.{Turning}
use Rattle.turns.proofs.by_places.Given as goal

abbrev pub invariant-loop-place : goal.invariant-loop-place
invariant-loop-place l = Turning l.numbers l.places l.initial.s l.s l.asked l.place-index
