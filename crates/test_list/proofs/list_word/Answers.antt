-- A loop over the members of a word, the lowest first.
use native.Mathlib.Omega.{arith}
use lib.Count.{trailing_le}
use borrow.Author.Rules.{rules}
use Rattle.masks.proofs.LowestMember.{rest_lt}
use Rattle.test_list.proofs.WordPlaces.{Listing-start, listing_room, listing_turn, listing_done, listing_number}
use Rattle.test_list.proofs.list_word.Goals as goal

pub loop-left-init : goal.loop-left-init
loop-left-init c = Listing-start c.args.word c.args.base c.args.places.now c.args.count (search rules) c.requires.2

pub overflow_cast-i : goal.overflow_cast-i
overflow_cast-i c = omega (arith, trailing_le 64 c.loop-left.left)

pub overflow_add-places : goal.overflow_add-places
overflow_add-places c = omega (arith, trailing_le 64 c.loop-left.left)

pub overflow_cast-places : goal.overflow_cast-places
overflow_cast-places c = omega (arith, trailing_le 64 c.loop-left.left)

pub offset_bounds-places-n : goal.offset_bounds-places-n
offset_bounds-places-n c = omega (arith, listing_room c.loop-left.invariant (omega arith) c.requires.1)

pub bounds-places-n : goal.bounds-places-n
bounds-places-n c = omega (arith, listing_room c.loop-left.invariant (omega arith) c.requires.1)

pub overflow_add-n : goal.overflow_add-n
overflow_add-n c = omega (arith, listing_room c.loop-left.invariant (omega arith) c.requires.1)

pub loop-left-smaller : goal.loop-left-smaller
loop-left-smaller c = rest_lt c.loop-left.left (omega arith)

pub loop-left-preserved : goal.loop-left-preserved
loop-left-preserved c =
    let turn = c.loop-left in
    listing_turn turn.invariant (omega arith) (listing_room turn.invariant (omega arith) c.requires.1)

pub returns : goal.returns
returns c =
    let turn = c.loop-left in record {
      places_after = listing_done turn.invariant c.loop-left-test.false;
      value = (listing_number turn.invariant c.loop-left-test.false, turn.invariant.entries);
    }
