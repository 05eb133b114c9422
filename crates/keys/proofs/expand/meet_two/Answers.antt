-- `expand::meet_two` meets its contract.
use mathlib.Core.Path.{refl}
use mathlib.Core.List.{[], ◌∷◌}
use native.Mathlib.Omega.{arith}
use Rattle.edges.specs.views.VertexKey.{key_in}
use Rattle.met.specs.views.KeysMet.{keys_in}
use Rattle.keys.proofs.EdgesInTurn.{one_many, second_many, second_met}
use Rattle.keys.proofs.expand.meet_two.Goals as goal

pub returns-then-meet-ge1024 : goal.returns-then-meet-ge1024
returns-then-meet-ge1024 c =
    let a = c.args in
    let first = c.meet.ensures in record {
      met = one_many (keys_in a.keys.now) (key_in a.first) (key_in a.second ∷ []) (first.t_after.1 c.if-meet-ge1024.true);
      chained = (first.chained, tt);
    }

pub meet-requires-2 : goal.meet-requires-2
meet-requires-2 c = c.meet.ensures.chained

pub returns-then-meet-ge1024-2 : goal.returns-then-meet-ge1024-2
returns-then-meet-ge1024-2 c =
    let a = c.args in
    let first = c.meet.ensures in
    let second = c.meet-2.ensures in record {
      met = second_many (keys_in a.keys.now) c.meet.new.t (key_in a.first) (key_in a.second)
          (first.t_after.0 c.if-meet-ge1024.false) (second.t_after.1 c.if-meet-ge1024-2.true);
      chained = (second.chained, tt);
    }

pub returns : goal.returns
returns c =
    let a = c.args in
    let first = c.meet.ensures in
    let second = c.meet-2.ensures in record {
      met = (
        second_met (keys_in a.keys.now) c.meet.new.t c.meet-2.new.t
            (key_in a.first) (key_in a.second) (first.t_after.0 c.if-meet-ge1024.false)
            (second.t_after.0 c.if-meet-ge1024-2.false),
        refl,
      );
      chained = (second.chained, omega arith);
    }
