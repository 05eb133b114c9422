-- The values of the call, packed, and the buffer that it leaves.
use mathlib.Core.Path.{ap, subst, ◌∙◌}
use Rattle.records.specs.Written.{Result}
use Rattle.packing.specs.Packed.{Packs, written_fields}
use Rattle.packing.proofs.ByNumber.{ordered_numbered}
use Rattle.voltunnis.proofs.LeftBuffers.{ordered_buffer}
use Rattle.voltunnis.proofs.order_calls.vt_order.Goals as goal

pub returns : goal.returns
returns c =
    let r = c.order in record {
      packs = subst (λ (x : Result). Packs c.pack_ordered.result (written_fields x))
          (ordered_numbered _ r.result c.numbered.ensures ∙ r.ensures) (c.pack_ordered.ensures _);
      buffer_after = ordered_buffer r.result _ ∙ ap (λ (x : Result). x.buffer) r.ensures;
    }
