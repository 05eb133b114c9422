-- A loop over the notes: the places of those passed are in the set.
use Rattle.std.proofs.Common.{◌≡◌, length}
use Rattle.sheet_tests.specs.views.TestedPlaces.{places_in}
use Rattle.sheet_tests.specs.views.NoteTests.{has_range}
use Rattle.sheet_tests.proofs.PlaceRows.{places_from}
use Rattle.sheet_tests.proofs.rule.mark_rule.Given as goal

abbrev pub invariant-loop-code : goal.invariant-loop-code
invariant-loop-code l =
    (length l.words ≡ 11)
    × (places_from (has_range l.high) l.notes l.n l.code-index (places_in l.words)
    ≡ places_from (has_range l.high) l.notes l.n 0 (places_in l.initial.words))
