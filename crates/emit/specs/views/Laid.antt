-- The nodes of keys as bytes (document 01, "Records", "Graph"), each edge with the number of the key that it leads to.
use Rattle.std.specs.Prelude.{ℕ, List, [], ◌∷◌, ◌++◌}
use Rattle.decision.specs.Key.{Key}
use Rattle.decision.specs.Node.{map_node}
use Rattle.decision.specs.GraphBytes.{case_bytes, node_bytes, nodes_bytes}
use Rattle.cuts.specs.views.Runs.{Run, run_case}
use Rattle.edges.specs.declared.Asked.{Asked}
use Rattle.edges.specs.views.KeysBehind.{run_behind}
use Rattle.edges.specs.views.NodeIn.{ask_in, node_in}
use Rattle.met.specs.views.KeysMet.{key_number}
use Rattle.keys.specs.views.Grown.{nodes_from}

-- The cases of a switch.
abbrev pub run_bytes : List ℕ → List Key → Asked → List Run → List ℕ
run_bytes s keys asked [] = []
run_bytes s keys asked (run ∷ runs) =
    case_bytes (run_case run.low run.high) (key_number keys (run_behind s asked run.set)) ++ run_bytes s keys asked runs

module _ (s c : List ℕ) (keys : List Key) where
  -- The node that asks, the node of a key, and all nodes.
  abbrev pub ask_bytes : Asked → List ℕ
  ask_bytes asked = node_bytes (map_node (key_number keys) (ask_in s c asked))

  abbrev pub key_bytes : Key → List ℕ
  key_bytes key = node_bytes (map_node (key_number keys) (node_in s c key))

  abbrev pub keys_bytes : List ℕ
  keys_bytes = nodes_bytes (nodes_from s c keys)
