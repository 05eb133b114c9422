-- A walk under way over an indexed graph: what is known of the node that it is at, and where its step leads.
use Prim.Native.Nat.{ℕ, ◌+◌, ◌<◌, ◌≤◌}
use mathlib.Core.Path.{◌≡◌, refl, sym, ap, subst, ◌∙◌}
use mathlib.Core.List.{List, [], ◌∷◌, ◌++◌}
use native.Mathlib.Numerals.{add-one}
use native.Mathlib.Omega.{arith}
use lib.ListN.{length, get_or, take, set}
use lib.Seq.{take-suc-set}
use Rattle.decision.specs.Node.{Node}
use Rattle.decision.specs.Path.{Step, node_at}
use Rattle.graph.specs.declared.Leaf.{Leaf}
use Rattle.graph.specs.views.NodeRecord.{leaf_of}
use Rattle.steps.specs.declared.Step.TheVariants.{Stop, GoTo, NoWay}
use Rattle.steps.specs.views.CodeSteps.{step_cells, node_code, node_step, NodeStands}
use Rattle.steps.proofs.StepsMade.{made_stop, made_on, made_stuck}
use Rattle.path.specs.views.Following.{Index, node_from, nodes_at, reached, stopped, cells_end}
use Rattle.path.proofs.GoingOn.{Going, going_starts, Going-on, going_ends, going_stuck, going_out}
use Rattle.path.proofs.Indexed.{step_inside, nodes_number, node_at_lem}

module _ {graph starts : List ℕ} {nodes : ℕ} (index : Index graph starts nodes) (cells : List ℕ) where
  abbrev graph_nodes : List (Node ℕ)
  graph_nodes = nodes_at graph starts nodes

  -- So many edges were walked to node k, and the tests with these codes met.
  abbrev pub Standing : ℕ → ℕ → List ℕ → Type 0
  Standing edges k codes = Going graph_nodes cells edges k codes

  pub stands_first : Standing 0 0 []
  stands_first = going_starts graph_nodes cells (omega (arith, nodes_number graph starts nodes, index.some_node))

  module _ {edges k : ℕ} {codes : List ℕ} (g : Standing edges k codes) where
    within : k < nodes
    within = omega (arith, g.inside, nodes_number graph starts nodes)

    -- The node has a start, where its record is whole.
    pub stands_inside : k < 1024
    stands_inside = omega (arith, within, index.few_nodes)

    pub stands_begins : get_or starts k 0 ≤ length graph
    stands_begins = index.begins k within

    pub stands_whole : NodeStands graph (get_or starts k 0)
    stands_whole = record {
      begins = stands_begins;
      whole = index.whole k within;
      near = (index.good k within).near;
      ordered = (index.good k within).ordered;
    }

    this : node_at graph_nodes k ≡ node_from graph starts k
    this = node_at_lem graph starts nodes k within

    abbrev here : Node ℕ
    here = node_from graph starts k

    by_step : {s : Step ℕ} → s ≡ step_cells cells here → s ≡ step_cells cells (node_at graph_nodes k)
    by_step e = e ∙ ap (step_cells cells) (sym this)

    -- The walk goes on, and keeps the test that the node asks,
    pub Stands-on
        : {m code : ℕ} (met : List ℕ) → edges < 64 → length met ≡ 64 → codes ≡ take edges met → GoTo m code ≡ node_step cells here
        → Standing (edges + 1) m (take (edges + 1) (set met edges code))
    Stands-on {m} {code} met more room are e =
        let (leads, coded) = made_on (node_code here) (step_cells cells here) e in
        let next =
        Going-on graph_nodes cells g more (by_step leads)
        (omega (arith, step_inside nodes cells here (index.good k within).inside leads, nodes_number graph starts nodes))
        (coded ∙ ap node_code (sym this)) in
        let stored : take (edges + 1) (set met edges code) ≡ codes ++ code ∷ [] =
        ap (λ (j : ℕ). take j (set met edges code)) (add-one edges)
        ∙ take-suc-set met edges code (omega arith)
        ∙ ap (λ (l : List ℕ). l ++ code ∷ []) (sym are) in
        subst (Standing (edges + 1) m) (sym stored) next

    -- ends,
    pub stands_end : {l : Leaf} → Stop l ≡ node_step cells here → reached (leaf_of l) edges codes ≡ cells_end graph_nodes cells
    stands_end e = going_ends graph_nodes cells g (by_step (made_stop (node_code here) (step_cells cells here) e))

    -- or is refused.
    pub stands_stuck : edges < 64 → NoWay ≡ node_step cells here → stopped 27 ≡ cells_end graph_nodes cells
    stands_stuck more e = going_stuck graph_nodes cells g more (by_step (made_stuck (node_code here) (step_cells cells here) e))

    pub stands_out : {m code : ℕ} → 64 ≤ edges → GoTo m code ≡ node_step cells here → stopped 26 ≡ cells_end graph_nodes cells
    stands_out {m} full e =
        going_out graph_nodes cells g full (by_step (made_on (node_code here) (step_cells cells here) e).0) refl

    pub stands_lost : 64 ≤ edges → NoWay ≡ node_step cells here → stopped 26 ≡ cells_end graph_nodes cells
    stands_lost full e =
        going_out graph_nodes cells g full (by_step (made_stuck (node_code here) (step_cells cells here) e)) refl
