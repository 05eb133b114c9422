-- Sharing: the keys behind the numbers of a graph's nodes (document 01, "Nodes"): "A key met before leads to the node that already
-- has it."
use Rattle.std.specs.Prelude.{ℕ, ◌<◌, ◌≡◌, List, length, get_or}
use Rattle.terms.specs.Pattern.{Patterns}
use Rattle.decision.specs.Key.{Key, Leaf, fail_node, leaf, root_key, vertex_of}
use Rattle.decision.specs.Node.{Node, end, edges}
use Rattle.decision.specs.Graph.{next_vertices}

-- Two keys are the same leaf: "All fail nodes are one, all suspend nodes one, execute nodes one for each rule."
abbrev pub SameLeaf : List Patterns → Key → Key → Type 0
SameLeaf rules k l = (m : Leaf) × (vertex_of rules k ≡ leaf m) × (vertex_of rules l ≡ leaf m)

-- The key behind a number, among the nodes of a graph that asks the tests in this order: behind 0 is the root's, and behind the
-- number that edge i of a node carries is the key that edge i of this node's key leads to.
pub data KeyBehind (rules : List Patterns) (order : List ℕ) (nodes : List (Node ℕ)) : ℕ → Key → Type 0 where
  root : KeyBehind rules order nodes 0 (root_key rules)
  along
      : {n m : ℕ} {key next : Key} → KeyBehind rules order nodes n key
      → (i : ℕ) → i < length (edges (get_or nodes n (end fail_node))) → get_or (edges (get_or nodes n (end fail_node))) i 0 ≡ m
      → get_or (next_vertices rules order (vertex_of rules key)) i (leaf fail_node) ≡ vertex_of rules next
      → KeyBehind rules order nodes m next
