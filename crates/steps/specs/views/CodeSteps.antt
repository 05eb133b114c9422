-- What happens at a node (document 01, "The walk"), as the cells of a piece tell it: a run of codes for what stands at each place.
use Rattle.std.specs.Prelude.{ℕ, ◌<◌, ◌≤◌, ◌||◌, cond, List, eqb, length, drop}
use Rattle.terms.specs.Outcome.{Outcome}
use Rattle.codes.specs.views.Codes.{low_of, high_of, unknown_run}
use Rattle.pairs.specs.views.KeptPairs.{pair_code}
use Rattle.outcomes.specs.views.Look.{look}
use Rattle.outcomes.specs.views.CellOutcome.{pair_cells}
use Rattle.decision.specs.Key.{Leaf, fail_node, suspend_node, execute_node}
use Rattle.decision.specs.Node.{Node, CaseEdge, end, switch, pair_node}
use Rattle.decision.specs.Path.{Step, stop, go_to, no_way, by_comparison}
use Rattle.graph.specs.declared.Leaf as leaf
use Rattle.graph.specs.ReadGraph.{read_record}
use Rattle.graph.specs.views.Rewriting.{IsTook, read_or}
use Rattle.number_search.specs.views.CodeCases.{follow_code, CasesInOrder}
use Rattle.steps.specs.declared.Step as step

-- The step at a switch where its place has this run, 0 where the piece lacks it: "27 Is each place it tests in the piece, or
-- below an unknown?" An unknown leads by the "node for unknown". A place below record 35 "is treated as it is, by question 27 too";
-- no case takes its code, so it leads by neither (document 02, request 6).
abbrev pub run_step : List (CaseEdge ℕ) → ℕ → ℕ → ℕ → Step ℕ
run_step cs neither unknownEdge run =
    cond (eqb run 0) no_way (go_to (cond (eqb run unknown_run) unknownEdge (follow_code cs neither (low_of run) (high_of run))))

-- The step at a pair where its places have these runs and its test this outcome: by the "node for no" where they differ, else by
-- the "node for other".
abbrev pub runs_step : ℕ → ℕ → ℕ → ℕ → Outcome → Step ℕ
runs_step differ other a b outcome = cond (eqb a 0 || eqb b 0) no_way (by_comparison differ other outcome)

abbrev pub step_cells : List ℕ → Node ℕ → Step ℕ
step_cells cells (end l) = stop l
step_cells cells (switch n cs x y) = run_step cs x y (look cells n)
step_cells cells (pair_node p q x y) = runs_step x y (look cells p) (look cells q) (pair_cells cells p q)

-- "A walk meets the tests that its nodes ask": the test of a node as one number, place p as the pair p, p. A leaf asks none.
abbrev pub node_code : Node ℕ → ℕ
node_code (end l) = 0
node_code (switch n cs x y) = pair_code n n
node_code (pair_node p q x y) = pair_code p q

-- A leaf, and the step at a node that asks the test with this code, as they are handed back.
abbrev pub leaf_made : Leaf → leaf.Leaf
leaf_made fail_node = leaf.TheVariants.Fail
leaf_made suspend_node = leaf.TheVariants.Suspend
leaf_made (execute_node i) = leaf.TheVariants.Execute i

abbrev pub step_made : ℕ → Step ℕ → step.Step
step_made code (stop l) = step.TheVariants.Stop (leaf_made l)
step_made code (go_to n) = step.TheVariants.GoTo n code
step_made code no_way = step.TheVariants.NoWay

abbrev pub node_step : List ℕ → Node ℕ → step.Step
node_step cells n = step_made (node_code n) (step_cells cells n)

-- "Places are numbered 0 to 679": those that a node tests are among them.
abbrev pub NearNode : Node ℕ → Type 0
NearNode (end l) = Unit
NearNode (switch n cs x y) = n < 680
NearNode (pair_node p q x y) = (p < 680) × (q < 680)

-- The cases of a switch are in order.
abbrev pub OrderedNode : Node ℕ → Type 0
OrderedNode (end l) = Unit
OrderedNode (switch n cs x y) = CasesInOrder cs
OrderedNode (pair_node p q x y) = Unit

-- At a position of the graph a whole record of a node begins, whose places are among the 680 and whose cases are in order.
pub record NodeStands (graph : List ℕ) (at : ℕ) : Type 0 where
  pub begins : at ≤ length graph
  pub whole : IsTook (read_record (drop at graph))
  pub near : NearNode (read_or (end fail_node) (read_record (drop at graph)))
  pub ordered : OrderedNode (read_or (end fail_node) (read_record (drop at graph)))
