-- A loop over the members of a word, the lowest first.
use Rattle.test_list.proofs.WordPlaces.{Listing}
use Rattle.test_list.proofs.list_word.Given as goal

abbrev pub invariant-loop-left : goal.invariant-loop-left
invariant-loop-left l = Listing l.word l.base l.initial.places l.count l.places l.left l.n

abbrev pub decreases-loop-left : goal.decreases-loop-left
decreases-loop-left l = l.left
