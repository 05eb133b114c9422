-- The set with the place is the list of places with it.
use Rattle.std.proofs.Common.{refl, ap, ◌∙◌, arith}
use Rattle.sheet_tests.specs.views.TestedPlaces.{places_in}
use Rattle.sheet_tests.proofs.PlaceSets.{mark_is}
use Rattle.sheet_tests.proofs.tested.mark.Goals as goal

pub returns-clause-words_after : goal.returns-clause-words_after
returns-clause-words_after c =
    ap places_in c.mark.ensures.words_after ∙ mark_is c.args.words.now c.args.place _ (omega arith) refl
