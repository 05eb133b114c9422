-- The path of a piece over the nodes of a graph, as the piece's cells tell it, and what is handed back of it (document 01, "The
-- walk").
use Rattle.std.specs.Prelude.{ℕ, pred, ◌<◌, ◌≤◌, List, [], ◌∷◌, ◌++◌, Result, Ok, Err, map, length, get_or, take, drop}
use Rattle.basics.specs.Lists.{All, count_from}
use Rattle.pairs.specs.views.KeptPairs.{pair_code}
use Rattle.decision.specs.Key.{Leaf, fail_node}
use Rattle.decision.specs.Node.{Node, end, switch, pair_node, edges}
use Rattle.decision.specs.Path.{Path, node_at, path_by, most_edges}
use Rattle.graph.specs.views.Rewriting.{IsTook, read_or}
use Rattle.graph.specs.views.NodeRecord.{leaf_of}
use Rattle.graph.specs.ReadGraph.{read_record}
use Rattle.records.specs.Reading.{refused, took}
use Rattle.steps.specs.views.CodeSteps.{step_cells, NearNode, OrderedNode}
use Rattle.records.specs.Refusals.{number}
use Rattle.records.specs.declared.refusal.Refusal.{Refusal}
use Rattle.path.specs.declared.Reached.{Reached}

-- A walk that ended at a leaf, with the "edges walked" and the codes of the tests met, in order, or that was refused.
pub data Ended : Type 0 where
  reached : Leaf → ℕ → List ℕ → Ended
  stopped : ℕ → Ended

-- "A walk meets the tests that its nodes ask": the code of the one of a node, none of a leaf.
abbrev pub asked_codes : Node ℕ → List ℕ
asked_codes (end l) = []
asked_codes (switch n cs x y) = pair_code n n ∷ []
asked_codes (pair_node p q x y) = pair_code p q ∷ []

module _ (nodes : List (Node ℕ)) where
  -- Those of the nodes walked.
  abbrev pub met_codes : List ℕ → List ℕ
  met_codes [] = []
  met_codes (n ∷ walked) = asked_codes (node_at nodes n) ++ met_codes walked

  abbrev pub end_of : Path → Ended
  end_of (took a w) = reached w.last (pred (length w.walked)) (met_codes w.walked)
  end_of (refused q) = stopped q

  module _ (cells : List ℕ) where
    -- "The walk follows edges from node 0", 64 at most.
    abbrev pub cells_path : Path
    cells_path = path_by (λ n. step_cells cells (node_at nodes n)) most_edges 0

    abbrev pub cells_end : Ended
    cells_end = end_of cells_path

-- The nodes, so many, whose records begin at the starts.
abbrev pub node_from : List ℕ → List ℕ → ℕ → Node ℕ
node_from graph starts k = read_or (end fail_node) (read_record (drop (get_or starts k 0) graph))

unfoldable pub nodes_at : List ℕ → List ℕ → ℕ → List (Node ℕ)
nodes_at graph starts nodes = map (node_from graph starts) (count_from 0 nodes)

-- A node of a graph of so many, as questions 23 and 24 leave it: its places are among the 680, its cases are in order, and its
-- edges lead to nodes.
pub record GoodNode (nodes : ℕ) (n : Node ℕ) : Type 0 where
  pub near : NearNode n
  pub ordered : OrderedNode n
  pub inside : All (λ (m : ℕ). m < nodes) (edges n)

-- What questions 21 to 25 leave: "1 to 1,024 nodes", and start k is where a whole record of a good node begins.
pub record Index (graph starts : List ℕ) (nodes : ℕ) : Type 0 where
  pub some_node : 1 ≤ nodes
  pub few_nodes : nodes ≤ 1024
  pub begins : (k : ℕ) → k < nodes → get_or starts k 0 ≤ length graph
  pub whole : (k : ℕ) → k < nodes → IsTook (read_record (drop (get_or starts k 0) graph))
  pub good : (k : ℕ) → k < nodes → GoodNode nodes (node_from graph starts k)

-- What is handed back, with the tests met at the front of the list.
abbrev pub ended_of : List ℕ → Result Reached Refusal → Ended
ended_of met (Ok r) = reached (leaf_of r.leaf) r.edges (take r.edges met)
ended_of met (Err r) = stopped (number r)

abbrev pub edges_of : Result Reached Refusal → ℕ
edges_of (Ok r) = r.edges
edges_of (Err r) = 0
