-- Vertices as keys (document 01, "Nodes"): "All fail nodes are one, all suspend nodes one, execute nodes one for each
-- rule", so each of them has one key, which no node that asks has, for that has two live rules or more.
use Rattle.std.specs.Prelude.{ℕ, suc, pred, ◌^◌, ◌<◌, ◌≡◌, cond, List, [], ◌∷◌, eqb, length}
use Rattle.masks.specs.Mask.{members}
use Rattle.terms.specs.Pattern.{Patterns}
use Rattle.sheet_tests.specs.SheetTests.{sheet_tests}
use Rattle.decision.specs.Key.{Key, Vertex, leaf, asking, fail_node, suspend_node, execute_node}
use Rattle.edges.specs.declared.Key as code

abbrev pub key_with : ℕ → ℕ → Key
key_with live pending = record { live = live; pending = pending }

-- The key that the code has.
abbrev pub key_in : code.Key → Key
key_in k = key_with k.live k.pending

-- The key of a vertex: no live rule for fail and suspend, the one rule for execute.
abbrev pub vertex_key : Vertex → Key
vertex_key (leaf fail_node) = key_with 0 0
vertex_key (leaf suspend_node) = key_with 0 1
vertex_key (leaf (execute_node i)) = key_with (2 ^ pred i) 0
vertex_key (asking key) = key

-- The vertex that has a key, by its live rules.
abbrev pub vertex_by : List ℕ → Key → Vertex
vertex_by [] key = leaf (cond (eqb key.pending 0) fail_node suspend_node)
vertex_by (i ∷ []) key = leaf (execute_node (suc i))
vertex_by (i ∷ (j ∷ l)) key = asking key

abbrev pub vertex_in : Key → Vertex
vertex_in key = vertex_by (members 64 key.live) key

-- "A node's key is its live rules and its pending tests": both are of the sheet. The key of suspend, which has no live rule, has
-- a pending test even where the sheet has none.
pub record Fits (rules : List Patterns) (key : Key) : Type 0 where
  pub lives : key.live < 2 ^ length rules
  pub pends : (key.live ≡ 0 → ⊥) → key.pending < 2 ^ length (sheet_tests rules)
