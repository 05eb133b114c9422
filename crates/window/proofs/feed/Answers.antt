-- The steps of a feed, or none.
use Rattle.std.proofs.Common.{sym, ◌∙◌}
use Rattle.window.specs.LastThousand.{given}
use Rattle.window.proofs.Steps.{taken_fed, refused_fed}
use Rattle.window.proofs.feed.Goals as goal

pub returns-then-not-is_taken : goal.returns-then-not-is_taken
returns-then-not-is_taken c =
    let a = c.args in
    let t = sym c.is_taken.ensures ∙ c.if-not-is_taken.true in record {
      value = sym (rw t);
      window_after = refused_fed (given a.word a.rule) a.window.now t;
    }

pub returns : goal.returns
returns c =
    let a = c.args in
    let t = sym c.is_taken.ensures ∙ c.if-not-is_taken.false in record {
      value = sym (rw t);
      window_after = taken_fed (given a.word a.rule) a.window.now t c.place_of-next.ensures.0
          c.make_room.ensures c.store.ensures c.count.ensures;
    }
