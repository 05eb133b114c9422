-- The values of the call, packed, and the buffer that it leaves.
use mathlib.Core.Path.{ap, subst, ◌∙◌}
use Rattle.build.specs.BuildOutcome.{BuildValues, BuildOutcome}
use Rattle.packing.specs.Packed.{Packs, built_fields}
use Rattle.packing.proofs.ByNumber.{build_numbered}
use Rattle.voltunnis.proofs.vt_build.Goals as goal

pub returns : goal.returns
returns c =
    let e = c.build.ensures in record {
      packs = subst (λ (x : BuildValues). Packs c.pack_built.result (built_fields x))
          (build_numbered c.build.result c.numbered.ensures ∙ ap (λ (x : BuildOutcome). x.values) e) c.pack_built.ensures;
      buffer_after = ap (λ (x : BuildOutcome). x.buffer) e;
    }
