-- `cuts::turn` meets its contract: a cut is at the code, or one is put in.
use Prim.Native.Nat.{ℕ, ◌<◌}
use mathlib.Core.Path.{◌≡◌, subst}
use native.Mathlib.Omega.{arith}
use lib.ListN.{length-set}
use Rattle.cuts.specs.views.Cuts.{count_at, cut_at, Spot}
use Rattle.cuts.proofs.Turning.{turn_there, turn_new}
use Rattle.cuts.proofs.turn.Goals as goal
use Rattle.cuts.proofs.turn.Goals.{else-k-count-via-then-k-count+else-c-at, else-k-count-via-else-k-count}

pub returns-then-c-at : goal.returns-then-c-at
returns-then-c-at c =
    let a = c.args in
    let k = c.spot_of-k.result in
    let spot = c.spot_of-k.ensures in
    turn_there a.c.now a.from a.code a.bit k spot c.requires (omega arith) c.if-c-at.true

pub bounds-c-at-3 : goal.bounds-c-at-3
bounds-c-at-3 c = simp length-set (omega arith)

pub bounds-c-from-2 : goal.bounds-c-from-2
bounds-c-from-2 c = simp length-set (omega arith)

pub returns : goal.returns
returns c =
    let a = c.args in
    let k = c.spot_of-k.result in
    let spot = c.spot_of-k.ensures in
    let missing : k < count_at a.c.now a.from → (cut_at a.c.now a.from k).code ≡ a.code → ⊥ =
    elim c.else-k-count.branch [
      | else-k-count-via-then-k-count+else-c-at w ↦ λ l d. w.if-c-at.false d
      | else-k-count-via-else-k-count w ↦ λ l d. absurd (omega arith)
    ] in
    rw c.move_up.ensures
    (turn_new a.c.now a.from a.code a.bit k spot c.requires missing)
