-- The bytes of a graph that was accepted for a sound sheet: its nodes' bytes behind a header, and every record there to be read.
use Prim.Native.Nat.{ℕ, ◌*◌, ◌≤◌, ◌<◌}
use mathlib.Core.Path.{◌≡◌, refl, sym, ap, ◌∙◌}
use mathlib.Core.List.{List, [], ◌∷◌, append-nil}
use native.Mathlib.Omega.{arith}
use lib.ListN.{length, get_or, drop, length-append}
use lib.Seq.{get_or-take}
use Rattle.records.specs.Fields.{IsByte}
use Rattle.records.specs.Reading.{took}
use Rattle.basics.specs.Lists.{All}
use Rattle.basics.proofs.ListLaws.{all_at, all_map}
use Rattle.sheet.specs.Sheet.{Sheet, SoundSheet}
use Rattle.decision.specs.Node.{Node}
use Rattle.decision.specs.views.GraphSize.{most_node_bytes, most_graph_bytes}
use Rattle.decision.specs.GraphBytes.{node_bytes, nodes_bytes, graph_bytes}
use Rattle.decision.specs.AcceptedGraph.{AcceptedNode}
use Rattle.graph.specs.ReadGraph.{read_graph, read_record}
use Rattle.graph.specs.views.Rewriting.{read_records}
use Rattle.graph.proofs.Spelling.{row_spelled}
use Rattle.graph.proofs.SpelledNodes.{NodeFields, node_spelled}
use Rattle.graph.proofs.TestedPlaces.{tests_near}
use Rattle.graph.proofs.AcceptedNodes.{accepted_asked}
use Rattle.graph.proofs.Spelled.{SpelledGraph, graph_read}
use Rattle.node_check.proofs.NodesPass.{node_size}
use Rattle.node_check.proofs.Starts.{start_reads}
use Rattle.graph_check.specs.views.GraphIndex.{AcceptedGraphAs}
use Rattle.basics.proofs.Positions.{mem_at}

-- Nodes have at most so many bytes each.
pub nodes_size : (ns : List (Node ℕ)) → All NodeFields ns → length (nodes_bytes ns) ≤ most_node_bytes * length ns
nodes_size [] h = omega arith
nodes_size (n ∷ ns) h =
    omega (arith, length-append (node_bytes n) (nodes_bytes ns), node_size n h.0, nodes_size ns h.1)

module _ (sheet : Sheet) (sound : SoundSheet sheet) (g : List ℕ) (g-bytes : All IsByte g) where
  module _ {nodes : List (Node ℕ)} (read : read_graph sheet g ≡ took (length g) nodes) where
    spelled : SpelledGraph sheet g (length g) nodes
    spelled = graph_read sheet sound g g-bytes read

    -- The graph is the bytes of its nodes.
    pub written_same : graph_bytes sheet.arity (length sheet.rules) nodes ≡ g
    written_same = spelled.spelled

    node_fields : All NodeFields nodes
    node_fields =
        all_map (AcceptedNode sheet.rules (length nodes)) NodeFields
        (λ node ok.
        (accepted_asked sheet.rules (length nodes) (tests_near sheet sound) spelled.accepted.few_nodes node ok).fields)
        nodes spelled.accepted.accepted_nodes

    -- Its header is there, and its length fits 32 bits.
    pub graph_whole : 5 ≤ length g
    graph_whole = omega (arith, ap length written_same)

    pub graph_small : length g ≤ most_graph_bytes
    graph_small =
        omega (arith, ap length written_same, nodes_size nodes node_fields, spelled.accepted.few_nodes)

    nodes_behind : drop 5 g ≡ nodes_bytes nodes
    nodes_behind = ap (drop 5) (sym written_same)

    -- Its records are read again.
    pub records_read : read_records (length nodes) (drop 5 g) ≡ took (length (nodes_bytes nodes)) nodes
    records_read =
        ap (read_records (length nodes)) (nodes_behind ∙ sym (append-nil (nodes_bytes nodes)))
        ∙ (row_spelled node_bytes NodeFields read_record node_spelled nodes_bytes refl (λ x xs. refl) (length nodes)).brought nodes []
        (refl, node_fields)

  -- Node k is read at start k.
  pub node_at_start
      : (starts : List ℕ) {count : ℕ} (f : AcceptedGraphAs sheet g starts count) (k : ℕ) (other : Node ℕ) → k < count
      → read_record (drop (get_or starts k 0) g) ≡ took (length (node_bytes (get_or f.nodes k other))) (get_or f.nodes k other)
  node_at_start starts {count} f k other h =
      let inside : k < length f.nodes = omega (arith, f.count_is) in
      let at = sym (get_or-take count starts k 0 h) ∙ ap (λ (l : List ℕ). get_or l k 0) (sym f.begin) in
      ap (λ (n : ℕ). read_record (drop n g)) at
      ∙ start_reads g 5 f.nodes k other inside (nodes_behind f.read)
      (all_at NodeFields (mem_at other f.nodes k inside) (node_fields f.read))
