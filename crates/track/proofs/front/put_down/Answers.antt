-- `track::front::put_down` meets its contract: the children of p get their keys, then the places at or above it are climbed.
use mathlib.Core.Path.{sym, subst}
use native.Mathlib.Omega.{arith}
use Rattle.places.proofs.Levels.{depth_range}
use Rattle.places.proofs.Rows.{step_most}
use Rattle.track.proofs.Rows.{children, no_children}
use Rattle.track.proofs.Climb.{Fresh, fresh_row, fresh_none, put_down_is}
use Rattle.track.proofs.front.put_down.Goals as goal
use Rattle.track.proofs.front.put_down.Goals.{Joined-depth-lt4, then-depth-lt4, else-depth-lt4}

pub step-requires : goal.step-requires
step-requires c = omega (arith, c.if-depth-lt4.true)

pub open_row-requires : goal.open_row-requires
open_row-requires c =
    let depth = c.depth-depth in
    let row =
    children c.args.p depth.result c.step.result c.requires.3 depth.ensures
    (omega (arith, c.if-depth-lt4.true)) c.step.ensures in
    (c.requires.0, c.requires.2, omega (arith, c.step.ensures, step_most depth.result), row.inside)

-- The children of p have their keys, if it has any.
module _ (c : Joined-depth-lt4) where
  fresh
      : (let a = c.args in Fresh a.positions.now a.p a.keys.now c.if-depth-lt4.keys)
  fresh =
      let p = c.args.p in
      let depth = c.depth-depth in
      elim c.if-depth-lt4.branch [
        | then-depth-lt4 w ↦
            subst (Fresh c.args.positions.now p c.args.keys.now) (sym w.keys-is)
            (fresh_row
            (children p depth.result w.step.result c.requires.3 depth.ensures (omega (arith, w.if-depth-lt4.true)) w.step.ensures)
            w.open_row.ensures)
        | else-depth-lt4 w ↦
            subst (Fresh c.args.positions.now p c.args.keys.now) (sym w.keys-is)
            (fresh_none _ _ p c.requires.2
            (no_children p c.requires.3 (omega (arith, w.if-depth-lt4.false, depth.ensures, depth_range p))))
      ]

pub climb-requires : goal.climb-requires
climb-requires c =
    (c.requires.1, (fresh (goal.at.climb-requires c).Joined-depth-lt4).size, c.requires.3, c.depth-depth.ensures)

pub returns : goal.returns
returns c = put_down_is c.requires.3 (fresh (goal.at.returns c).Joined-depth-lt4) c.climb.ensures
