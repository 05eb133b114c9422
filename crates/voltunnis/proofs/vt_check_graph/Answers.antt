-- The values of the check, packed.
use mathlib.Core.Path.{subst, ◌∙◌}
use Rattle.graph_check.specs.CheckGraph.{GraphValues}
use Rattle.packing.specs.Packed.{Packs, graph_fields}
use Rattle.packing.proofs.ByNumber.{graph_numbered}
use Rattle.voltunnis.proofs.vt_check_graph.Goals as goal

pub returns : goal.returns
returns c =
    subst (λ (x : GraphValues). Packs c.pack_graph_check.result (graph_fields x))
    (graph_numbered c.check_graph.result c.numbered.ensures ∙ c.check_graph.ensures) c.pack_graph_check.ensures
