-- The most bytes that a node and a graph can have (document 01, "Records"; document 02, request 4: "The case count becomes wide").
use Rattle.std.specs.Prelude.{ℕ, ◌+◌, ◌*◌}
use Rattle.records.specs.Kinds.{record_length}
use Rattle.decision.specs.Graph.{most_nodes}
use Rattle.decision.specs.GraphBytes.{most_cases}

-- A switch with as many cases as it may have, each of numbers, whose record is the longest of a case.
abbrev pub most_node_bytes : ℕ
most_node_bytes = record_length 0x43 + record_length 0x46 * most_cases

-- As many such nodes as a graph may have, behind its first record. This fits 32 bits.
abbrev pub most_graph_bytes : ℕ
most_graph_bytes = record_length 0x12 + most_node_bytes * most_nodes
