-- Start k is where node k's record begins.
use Prim.Native.Nat.{ℕ, zero, suc, ◌+◌, ◌<◌}
use mathlib.Core.Path.{◌≡◌, sym, ap, ◌∙◌}
use mathlib.Core.List.{List, [], ◌∷◌}
use native.Mathlib.Omega.{arith}
use lib.ListN.{length, get_or, drop}
use lib.Seq.{drop-append_seam, drop-drop, drop-cons}
use Rattle.records.specs.Reading.{took}
use Rattle.decision.specs.Node.{Node}
use Rattle.decision.specs.GraphBytes.{node_bytes, nodes_bytes}
use Rattle.node_check.specs.views.CheckNode.{starts_from}
use Rattle.graph.proofs.SpelledNodes.{NodeFields, node_spelled}
use Rattle.graph.specs.ReadGraph.{read_record}

module _ (s : List ℕ) where
  -- Where the bytes of the nodes stand at a position, those of node k and the later ones stand at start k.
  pub start_bytes
      : (at : ℕ) (ns : List (Node ℕ)) (k : ℕ) → k < length ns → drop at s ≡ nodes_bytes ns
      → drop (get_or (starts_from at ns) k 0) s ≡ nodes_bytes (drop k ns)
  start_bytes at [] k h e = absurd (omega arith)
  start_bytes at (n ∷ ns) zero h e = e
  start_bytes at (n ∷ ns) (suc k) h e =
      let size = length (node_bytes n) in
      start_bytes (at + size) ns k (omega arith)
      (sym (drop-drop size at s) ∙ ap (drop size) e ∙ drop-append_seam (node_bytes n) (nodes_bytes ns))

  -- So node k is read at start k.
  pub start_reads
      : (at : ℕ) (ns : List (Node ℕ)) (k : ℕ) (other : Node ℕ) → k < length ns → drop at s ≡ nodes_bytes ns
      → NodeFields (get_or ns k other)
      → read_record (drop (get_or (starts_from at ns) k 0) s) ≡ took (length (node_bytes (get_or ns k other))) (get_or ns k other)
  start_reads at ns k other h e fields =
      ap read_record (start_bytes at ns k h e ∙ ap nodes_bytes (drop-cons ns k other h))
      ∙ node_spelled.brought (get_or ns k other) (nodes_bytes (drop (suc k) ns)) fields
