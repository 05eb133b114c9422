-- What a build leaves: a graph that the check accepts for the sheet.
use Rattle.std.specs.Prelude.{ℕ, ◌≡◌, List, length}
use Rattle.records.specs.Reading.{took}
use Rattle.decision.specs.Node.{Node}
use Rattle.graph_check.specs.CheckGraph.{graph_reading}

-- The check accepts the bytes g as a graph for the sheet of bytes s, with so many nodes.
pub record GraphFor (s g : List ℕ) (count : ℕ) : Type 0 where
  pub nodes : List (Node ℕ)
  pub read : graph_reading s g ≡ took (length g) nodes
  pub count_is : length nodes ≡ count
