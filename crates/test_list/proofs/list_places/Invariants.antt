-- A loop over the words: the places of those passed are listed.
use mathlib.Core.Path.{◌≡◌}
use lib.ListN.{length, take}
use Rattle.sheet_tests.proofs.PlaceSets.{places_below}
use Rattle.test_list.proofs.WordPlaces.{places_to}
use Rattle.test_list.proofs.list_places.Given as goal

abbrev pub invariant-loop-i : goal.invariant-loop-i
invariant-loop-i l =
    (length l.places ≡ 64) × (l.count ≡ places_below l.words l.i) × (take l.count l.places ≡ places_to l.words l.i)
