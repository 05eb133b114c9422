-- The wait list of the walk.
use mathlib.Core.Path.{ap, ◌∙◌}
use Rattle.walk.specs.Walking.{WalkValues}
use Rattle.packing.proofs.ByNumber.{walk_numbered}
use Rattle.voltunnis.proofs.vt_wait.Goals as goal

pub returns : goal.returns
returns c =
    c.waits.ensures
    ∙ ap (λ (x : WalkValues). x.waits) (walk_numbered c.walk.result c.numbered.ensures ∙ c.walk.ensures)
