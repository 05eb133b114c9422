-- A graph's first record and where its nodes begin, where the sheet's arity, its number of rules and its tests are known
-- (document 01, "Questions at the counter", 21 to 25).
use Rattle.std.specs.Prelude.{ℕ, ◌≡◌, Bool, true, false, List, Result, Ok, Err, length, take}
use Rattle.records.specs.Reading.{Reading, took}
use Rattle.records.specs.Refusals.{reading_in}
use Rattle.records.specs.declared.refusal.Refusal.{Refusal}
use Rattle.records.specs.declared.refusal.Refusal.TheVariants.{NotAGraph}
use Rattle.sheet.specs.Sheet.{Sheet}
use Rattle.decision.specs.Node.{Node}
use Rattle.graph.specs.ReadGraph.{read_graph}
use Rattle.node_check.specs.views.CheckNode.{starts_from}

-- "21 Does the graph begin with a whole 12 record with the sheet's arity and rule count, and 1 to 1,024 nodes?": then it has so
-- many nodes.
abbrev pub count_if : Bool → ℕ → Result ℕ Refusal
count_if true nodes = Ok nodes
count_if false nodes = Err NotAGraph

-- "12 (arity, number of rules, wide node count), then nodes 0, 1, ..": how many nodes there are, and where the record of each
-- begins, that of the first behind the header's 5 bytes.
pub record GraphIndex : Type 0 where
  pub nodes : ℕ
  pub starts : List ℕ

abbrev pub graph_index : List (Node ℕ) → GraphIndex
graph_index nodes = record { nodes = length nodes; starts = starts_from 5 nodes }

-- The same of a graph of so many bytes, as it is handed back.
abbrev pub indexed : ℕ → List ℕ → Result ℕ Refusal → Reading GraphIndex
indexed bytes starts r = reading_in (λ (n : ℕ). took bytes (record { nodes = n; starts = take n starts })) r

-- A graph of which 21 to 25 refuse nothing for the sheet: so many nodes, which begin at the starts.
pub record AcceptedGraphAs (sheet : Sheet) (g starts : List ℕ) (count : ℕ) : Type 0 where
  pub nodes : List (Node ℕ)
  pub read : read_graph sheet g ≡ took (length g) nodes
  pub count_is : length nodes ≡ count
  pub begin : starts_from 5 nodes ≡ take count starts
