-- All keys of a graph (document 01, "Nodes"): "Nodes are numbered breadth first from root 0"
use Rattle.std.specs.Prelude as std
use Rattle.std.specs.Prelude.{Some, None, ℕ, ◌≡◌, List, [], ◌∷◌, map, length}
use Rattle.std.proofs.Math.Option.{Option, some, none}
use Rattle.decision.specs.Key.{Key, same_key}
use Rattle.decision.specs.Node.{Node, edges, map_node}
use Rattle.decision.specs.Graph.{explore, most_nodes}
use Rattle.decision.specs.GraphBytes.{nodes_bytes}
use Rattle.edges.specs.views.KeysBehind.{root_in}
use Rattle.edges.specs.views.NodeIn.{node_in}
use Rattle.met.specs.views.KeysMet.{key_number, keys_in}

module _ (s c : List ℕ) where
  -- All keys that are met breadth first from the root's, each at its number; none if they are more than 1,024.
  abbrev pub keys_from : Option (List Key)
  keys_from = explore same_key (λ (key : Key). edges (node_in s c key)) most_nodes (root_in s ∷ []) (root_in s ∷ [])

  -- The nodes of the keys met, each at its number, with their edges as numbers.
  abbrev pub nodes_from : List Key → List (Node ℕ)
  nodes_from keys = map (λ (key : Key). map_node (key_number keys) (node_in s c key)) keys

  -- All keys stand in the array, and so many bytes are the records of their nodes; or the keys are more than 1,024.
  abbrev pub Grown : std.Option ℕ → List ℕ → Type 0
  Grown (Some n) t = (keys_from ≡ some (keys_in t)) × (n ≡ length (nodes_bytes (nodes_from (keys_in t))))
  Grown None t = keys_from ≡ none
