-- The values of the call, packed, and the buffer that it leaves.
use mathlib.Core.Path.{sym, ap, subst, ◌∙◌}
use Prim.Native.Nat.{◌≤◌}
use Rattle.walk_all.specs.WalkAll.{WalkAll, most_results}
use Rattle.walk_all.proofs.FewResults.{all_few}
use Rattle.packing.specs.Packed.{Packs}
use Rattle.packing.specs.PackedWalks.{walk_all_fields}
use Rattle.packing.proofs.ByNumber.{walked_all_numbered}
use Rattle.voltunnis.proofs.LeftBuffers.{walked_buffer, walked_results}
use Rattle.voltunnis.proofs.walk_all_calls.vt_walk_all.Goals as goal

pub pack_walked_all-requires : goal.pack_walked_all-requires
pack_walked_all-requires c =
    λ buffer.
    let r = c.walk_all in
    let a = c.args in
    let few = all_few a.sheet.now a.graph.now a.pieces.now a.results.now in
    subst (λ n. n ≤ most_results)
    (sym
    (ap (λ (x : WalkAll). x.results) (walked_all_numbered buffer r.result c.numbered.ensures)
    ∙ walked_results r.result buffer _
    ∙ ap (λ (x : WalkAll). x.results) r.ensures))
    few.0

pub returns : goal.returns
returns c =
    let r = c.walk_all in record {
      packs = subst (λ (x : WalkAll). Packs c.pack_walked_all.result (walk_all_fields x))
          (walked_all_numbered _ r.result c.numbered.ensures ∙ r.ensures) (c.pack_walked_all.ensures _);
      results_after = walked_buffer r.result _ ∙ ap (λ (x : WalkAll). x.buffer) r.ensures;
    }
