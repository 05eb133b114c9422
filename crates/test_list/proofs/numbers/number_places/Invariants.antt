-- A loop over the listed places: those passed have their numbers.
use mathlib.Core.Path.{◌≡◌}
use lib.ListN.{length, take, drop}
use Rattle.test_list.specs.views.Numbers.{number_all}
use Rattle.test_list.proofs.numbers.number_places.Given as goal

abbrev pub invariant-loop-t : goal.invariant-loop-t
invariant-loop-t l =
    (length l.numbers ≡ 680)
    × (number_all (drop l.t (take l.count l.places)) l.t l.numbers ≡ number_all (take l.count l.places) 0 l.initial.numbers)
