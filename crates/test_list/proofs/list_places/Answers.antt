-- A loop over the words: the places of those passed are listed.
use Prim.Native.Nat.{ℕ, ◌+◌, ◌*◌}
use mathlib.Core.Path.{refl, ap, ◌∙◌}
use mathlib.Core.List.{List, ◌++◌, map}
use native.Mathlib.Omega.{arith}
use lib.ListN.{get_or}
use Rattle.masks.specs.Mask.{members}
use Rattle.sheet_tests.proofs.PlaceSets.{places_next, places_all, places_below_few}
use Rattle.test_list.proofs.WordPlaces.{places_word, places_part, places_whole}
use Rattle.test_list.proofs.list_places.Goals as goal

pub loop-i-init : goal.loop-i-init
loop-i-init c = (c.requires.2, omega (arith, places_below_few c.args.words.now 0), refl)

pub list_word-count-requires : goal.list_word-count-requires
list_word-count-requires c =
    let turn = c.loop-i in
    let words = c.args.words.now in
    let part = places_part words (turn.i + 1) (omega arith) in
    (omega arith, omega (arith, turn.invariant.1, places_next words turn.i, c.requires.1), turn.invariant.0)

pub loop-i-preserved : goal.loop-i-preserved
loop-i-preserved c =
    let turn = c.loop-i in
    let words = c.args.words.now in
    let listed = c.list_word-count.ensures in
    let more = map (λ (j : ℕ). 64 * turn.i + j) (members 64 (get_or words turn.i 0)) in (
      listed.value.1,
      omega (arith, listed.value.0, turn.invariant.1, places_next words turn.i),
      listed.places_after ∙ ap (λ (t : List ℕ). t ++ more) turn.invariant.2 ∙ places_word words turn.i,
    )

pub returns : goal.returns
returns c =
    let turn = c.loop-i in
    let words = c.args.words.now in record {
      places_after = turn.invariant.2 ∙ places_whole words turn.i (omega arith);
      value = (turn.invariant.1 ∙ places_all words turn.i (omega arith), turn.invariant.0);
    }
