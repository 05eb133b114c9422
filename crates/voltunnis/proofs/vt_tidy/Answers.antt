-- The values of the call, packed, and the buffer that it leaves.
use mathlib.Core.Path.{ap, subst, ◌∙◌}
use Rattle.records.specs.Written.{Result}
use Rattle.packing.specs.Packed.{Packs, written_fields}
use Rattle.packing.proofs.ByNumber.{tidied_numbered}
use Rattle.voltunnis.proofs.LeftBuffers.{tidied_buffer}
use Rattle.voltunnis.proofs.vt_tidy.Goals as goal

pub returns : goal.returns
returns c =
    let r = c.tidy in record {
      packs = subst (λ (x : Result). Packs c.pack_written.result (written_fields x))
          (tidied_numbered _ r.result c.numbered.ensures ∙ r.ensures) (c.pack_written.ensures _);
      buffer_after = tidied_buffer r.result _ ∙ ap (λ (x : Result). x.buffer) r.ensures;
    }
