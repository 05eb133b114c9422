-- A graph is its header and its nodes, which are as many as its keys.
use Prim.Native.Nat.{ℕ}
use mathlib.Core.Path.{◌≡◌, sym, ◌∙◌}
use mathlib.Core.List.{List, ◌++◌}
use lib.ListN.{length-map}
use Rattle.decision.specs.Key.{Key}
use Rattle.decision.specs.Node.{map_node}
use Rattle.decision.specs.GraphBytes.{graph_bytes}
use Rattle.edges.specs.views.NodeIn.{node_in}
use Rattle.met.specs.views.KeysMet.{key_number, count_in, keys_in}
use Rattle.met.proofs.Meeting.{keys_length}
use Rattle.keys.specs.views.Grown.{nodes_from}
use Rattle.emit.specs.views.Laid.{keys_bytes}
use Rattle.graph.specs.views.WriteNode.{header_bytes}

pub graph_joined
    : (s c t : List ℕ) (arity rules : ℕ) {counted many : ℕ} → counted ≡ rules → many ≡ count_in t
    → graph_bytes arity rules (nodes_from s c (keys_in t)) ≡ header_bytes arity counted many ++ keys_bytes s c (keys_in t)
graph_joined s c t arity rules e d =
    let nodes = length-map (keys_in t) (λ (key : Key). map_node (key_number (keys_in t)) (node_in s c key)) ∙ keys_length t ∙ sym d in
    λ i. header_bytes arity (sym e i) (nodes i) ++ keys_bytes s c (keys_in t)
