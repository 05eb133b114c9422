-- The values of the answer, packed.
use mathlib.Core.Path.{subst, ◌∙◌}
use Rattle.plain.specs.Plain.{PlainValues}
use Rattle.packing.specs.Packed.{Packs, plain_fields}
use Rattle.packing.proofs.ByNumber.{plain_numbered}
use Rattle.voltunnis.proofs.vt_plain.Goals as goal

pub returns : goal.returns
returns c =
    subst (λ (x : PlainValues). Packs c.pack_plain.result (plain_fields x))
    (plain_numbered c.plain.result c.numbered.ensures ∙ c.plain.ensures) c.pack_plain.ensures
