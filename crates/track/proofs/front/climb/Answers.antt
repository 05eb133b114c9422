-- `track::front::climb` meets its contract: each turn goes from a place to its parent.
use Prim.Native.Nat.{ℕ, ◌-◌, ◌≤◌}
use mathlib.Core.Path.{sym, subst}
use native.Mathlib.Omega.{arith}
use lib.ListN.{set}
use Rattle.places.proofs.Levels.{depth_range}
use Rattle.track.proofs.Climb.{Climbing, climb_none, climb_more, climb_all}
use Rattle.track.proofs.front.climb.Goals as goal
use Rattle.track.proofs.front.climb.Goals.{In-loop-q}

pub loop-q-init : goal.loop-q-init
loop-q-init c = climb_none _ _ _ c.requires.1 c.requires.2 c.requires.3

-- A place has a depth.
module _ (c : In-loop-q) where
  some : 1 ≤ c.loop-q.d
  some =
      let turn = c.loop-q in omega (arith, depth_range turn.q, turn.invariant.depth c.loop-q-test.true)

pub least_below-requires : goal.least_below-requires
least_below-requires c =
    let turn = c.loop-q in
    let inside = c.loop-q-test.true in
    (turn.invariant.size, inside, turn.invariant.depth inside)

pub parent_in-q-requires : goal.parent_in-q-requires
parent_in-q-requires c = (c.loop-q-test.true, c.requires.0)

pub overflow_sub-d : goal.overflow_sub-d
overflow_sub-d c = some (goal.at.overflow_sub-d c).In-loop-q

pub loop-q-smaller : goal.loop-q-smaller
loop-q-smaller c = omega (arith, some (goal.at.loop-q-smaller c).In-loop-q)

pub loop-q-preserved : goal.loop-q-preserved
loop-q-preserved c =
    let turn = c.loop-q in
    let a = c.args in
    let m = c.least_below.result in
    subst (λ (q : ℕ). Climbing a.p a.keys.now (set turn.keys turn.q m) q (turn.d - 1)) (sym c.parent_in-q.ensures)
    (climb_more turn.invariant c.loop-q-test.true m c.least_below.ensures)

pub returns : goal.returns
returns c = climb_all c.loop-q.invariant c.loop-q-test.false
