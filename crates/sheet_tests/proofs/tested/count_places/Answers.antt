-- A loop over the words that adds up the members of each.
use Rattle.std.proofs.Common.{◌+◌, ◌∙◌, arith}
use Rattle.sheet_tests.proofs.PlaceSets.{places_below_few, places_next, places_all}
use Rattle.sheet_tests.proofs.tested.count_places.Goals as goal

pub overflow_add-total : goal.overflow_add-total
overflow_add-total c =
    let words = c.args.words.now in
    let i = c.loop-word.word-index in
    omega (arith, c.size-total.ensures, c.loop-word.invariant, places_next words i, places_below_few words (i + 1))

pub loop-word-preserved : goal.loop-word-preserved
loop-word-preserved c =
    omega (arith, c.size-total.ensures, c.loop-word.invariant, places_next c.args.words.now c.loop-word.word-index)

pub returns : goal.returns
returns c =
    c.loop-word.invariant ∙ places_all c.args.words.now c.loop-word.word-index (omega arith)
