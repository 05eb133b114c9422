-- The nodes of an index: each is read where its start says, and leads to nodes.
use Prim.Native.Nat.{ℕ, zero, suc, ◌+◌, ◌<◌}
use mathlib.Core.Path.{◌≡◌, sym, ap, subst, ◌∙◌}
use mathlib.Core.Bool.{◌||◌}
use mathlib.Core.List.{List, [], ◌∷◌, map}
use native.Mathlib.Omega.{arith}
use lib.Dec.{eqb}
use lib.ListN.{length, get_or, length-map}
use Rattle.basics.specs.Lists.{All, count_from}
use Rattle.terms.specs.Outcome.{Outcome, holds, not_known, contradicted}
use Rattle.basics.proofs.Booleans.{cond_holds}
use Rattle.basics.proofs.ListLaws.{all_split, all_from, all_at}
use Rattle.basics.proofs.Filters.{mem_map}
use Rattle.outcomes.specs.views.Look.{look}
use Rattle.outcomes.specs.views.CellOutcome.{pair_cells}
use Rattle.decision.specs.Key.{fail_node}
use Rattle.decision.specs.Node.{Node, CaseEdge, end, switch, pair_node, edges}
use Rattle.decision.specs.Path.{Step, stop, go_to, no_way, by_comparison}
use Rattle.decision.proofs.cases.Narrowest.{leads_holds}
use Rattle.codes.specs.views.Codes.{low_of, high_of, unknown_run}
use Rattle.number_search.specs.views.CodeCases.{takes_codes, narrower_codes}
use Rattle.steps.specs.views.CodeSteps.{step_cells}
use Rattle.path.specs.views.Following.{node_from, nodes_at}
use Rattle.basics.proofs.Counting.{count_length}

module _ (nodes : ℕ) where
  abbrev Leads : Step ℕ → Type 0
  Leads (stop l) = Unit
  Leads (go_to m) = m < nodes
  Leads no_way = Unit

  compared : (x y : ℕ) (o : Outcome) → x < nodes → y < nodes → Leads (by_comparison x y o)
  compared x y holds h k = k
  compared x y not_known h k = k
  compared x y contradicted h k = h

  -- A step leads to a node that an edge leads to.
  step_leads : (cells : List ℕ) (n : Node ℕ) → All (λ (m : ℕ). m < nodes) (edges n) → Leads (step_cells cells n)
  step_leads cells (end l) h = tt
  step_leads cells (switch p cs x y) h =
      let run = look cells p in
      let (cases, others) = all_split (λ (m : ℕ). m < nodes) (map (λ (c : CaseEdge ℕ). c.target) cs) (x ∷ y ∷ []) h in
      cond_holds Leads (eqb run 0) _ _ tt
      (cond_holds (λ (m : ℕ). m < nodes) (eqb run unknown_run) _ _ others.1.0
      (leads_holds (λ (m : ℕ). m < nodes) (λ (c : CaseEdge ℕ). takes_codes c.case (low_of run) (high_of run))
      (λ (c d : CaseEdge ℕ). narrower_codes c.case d.case) cs x
      (all_from (λ (c : CaseEdge ℕ). c.target < nodes) cs
      (λ c m. all_at (λ (k : ℕ). k < nodes) (mem_map (λ (d : CaseEdge ℕ). d.target) m) cases)) others.0))
  step_leads cells (pair_node p q x y) h =
      cond_holds Leads (eqb (look cells p) 0 || eqb (look cells q) 0) _ _ tt (compared x y (pair_cells cells p q) h.0 h.1.0)

  pub step_inside
      : (cells : List ℕ) (n : Node ℕ) → All (λ (m : ℕ). m < nodes) (edges n) → {m : ℕ} → go_to m ≡ step_cells cells n → m < nodes
  step_inside cells n h e = subst Leads (sym e) (step_leads cells n h)

mapped_at : (f : ℕ → Node ℕ) (a k n : ℕ) → n < k → get_or (map f (count_from a k)) n (end fail_node) ≡ f (a + n)
mapped_at f a zero n h = absurd (omega arith)
mapped_at f a (suc k) zero h = let here : a ≡ a + 0 = omega arith in ap f here
mapped_at f a (suc k) (suc n) h =
    let next : suc a + n ≡ a + suc n = omega arith in mapped_at f (suc a) k n (omega arith) ∙ ap f next

module _ (graph starts : List ℕ) (nodes : ℕ) where
  pub nodes_number : length (nodes_at graph starts nodes) ≡ nodes
  unfolding nodes_at
  nodes_number = length-map (count_from 0 nodes) (node_from graph starts) ∙ count_length 0 nodes

  pub node_at_lem : (k : ℕ) → k < nodes → get_or (nodes_at graph starts nodes) k (end fail_node) ≡ node_from graph starts k
  unfolding nodes_at
  node_at_lem k h =
      let here : 0 + k ≡ k = omega arith in
      mapped_at (node_from graph starts) 0 nodes k h ∙ ap (node_from graph starts) here
