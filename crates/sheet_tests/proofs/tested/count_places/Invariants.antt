-- A loop over the words that adds up the members of each.
use Rattle.std.proofs.Common.{◌≡◌}
use Rattle.sheet_tests.proofs.PlaceSets.{places_below}
use Rattle.sheet_tests.proofs.tested.count_places.Given as goal

abbrev pub invariant-loop-word : goal.invariant-loop-word
invariant-loop-word l = l.total ≡ places_below l.words l.word-index
