-- The values of the walk, packed.
use mathlib.Core.Path.{subst, ◌∙◌}
use Rattle.walk.specs.Walking.{WalkValues}
use Rattle.packing.specs.Packed.{Packs, walk_fields}
use Rattle.packing.proofs.ByNumber.{walk_numbered}
use Rattle.voltunnis.proofs.vt_walk.Goals as goal

pub returns : goal.returns
returns c =
    subst (λ (x : WalkValues). Packs c.pack_walked.result (walk_fields x))
    (walk_numbered c.walk.result c.numbered.ensures ∙ c.walk.ensures) c.pack_walked.ensures
