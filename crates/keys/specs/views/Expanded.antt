-- The edges of one node (document 01, "Nodes"): the keys behind them are met, and the node's record is measured.
use Rattle.std.specs.Prelude.{Option, Some, None, ℕ, ◌+◌, ◌*◌, ◌≤◌, ◌<◌, ◌≡◌, List, map, length}
use Rattle.decision.specs.Key.{Key}
use Rattle.decision.specs.Node.{Node, CaseEdge, end, edges, map_case, map_node}
use Rattle.decision.specs.Graph.{most_nodes}
use Rattle.decision.specs.GraphBytes.{cases_bytes, node_bytes}
use Rattle.graph.specs.views.NodeRecord.{leaf_of}
use Rattle.edges.specs.views.KeysBehind.{asked_in}
use Rattle.edges.specs.views.NodeIn.{ask_in}
use Rattle.met.specs.views.KeysMet.{meet_all, keys_in}
use Rattle.keys.specs.declared.Kind.{Kind}
use Rattle.keys.specs.declared.Kind.TheVariants.{End, Ask}

-- The node of a key that is this leaf, or asks this test.
abbrev pub kind_node : List ℕ → List ℕ → Key → Kind → Node Key
kind_node s c key (End l) = end (leaf_of l)
kind_node s c key (Ask t) = ask_in s c (asked_in s key t)

-- The test that is asked is below a number.
abbrev pub Below : ℕ → Kind → Type 0
Below most (End l) = Unit
Below most (Ask t) = t < most

-- How long the records of cases, and the record of a node with its cases, are, wherever edges lead.
abbrev pub cases_length : List (CaseEdge Key) → ℕ
cases_length cs = length (cases_bytes (map (map_case (λ (k : Key). 0)) cs))

abbrev pub node_length : Node Key → ℕ
node_length node = length (node_bytes (map_node (λ (k : Key). 0) node))

-- The bytes measured are at most so many.
abbrev pub AtMost : ℕ → Option ℕ → Type 0
AtMost most (Some n) = n ≤ most
AtMost most None = Unit

-- A node's record with its cases is at most so long: 9 bytes, and 8 for each case. Of at most 193 runs each is the first of at most
-- 193 cases.
abbrev pub most_length : ℕ
most_length = 9 + 8 * 193 * 193

-- Keys are met after some keys, and so many bytes are measured; or the keys are more than 1,024.
abbrev pub Met : List Key → List Key → ℕ → Option ℕ → List ℕ → Type 0
Met keys new bytes (Some n) t = (keys_in t ≡ meet_all keys new) × (n ≡ bytes)
Met keys new bytes None t = most_nodes < length (meet_all keys new)

-- "a switch's edges are taken as cases, neither, unknown, a pair's as no, other": the keys behind cases, and behind the edges of a
-- node, are met.
abbrev pub CasesMet : List (CaseEdge Key) → List Key → Option ℕ → List ℕ → Type 0
CasesMet cs keys r t = Met keys (map (λ (c : CaseEdge Key). c.target) cs) (cases_length cs) r t

abbrev pub EdgesMet : Node Key → List Key → Option ℕ → List ℕ → Type 0
EdgesMet node keys r t = Met keys (edges node) (node_length node) r t
