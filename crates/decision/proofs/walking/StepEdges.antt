-- A step from a node follows one of its edges, and goes the same way where the edges lead to other things.
use mathlib.Core.Path.{◌≡◌, refl, ap, subst, ◌∙◌}
use mathlib.Core.List.{List, [], ◌∷◌, ◌++◌, map}
use mathlib.Core.Option.{Option, some, none}
use Rattle.basics.specs.Lists.{Mem, here, there}
use Rattle.terms.specs.Term.{Term, Terms, unknown, never, symbol, numbers, compound}
use Rattle.terms.specs.Lookup.{Found, lacking, found, term_at}
use Rattle.terms.specs.Outcome.{Outcome, holds, not_known, contradicted, compare}
use Rattle.decision.specs.Narrowest.{best}
use Rattle.decision.specs.Node.{Node, CaseEdge, end, switch, pair_node, edges, map_case, map_node, leads_or, follow}
use Rattle.decision.specs.Path.{Step, stop, go_to, no_way, switch_step, by_comparison, pair_step, step_at}
use Rattle.basics.proofs.ListLaws.{all_from}
use Rattle.basics.proofs.Filters.{mem_left, mem_right, mem_map}
use Rattle.decision.proofs.cases.Best.{map_some, best_map}
use Rattle.decision.proofs.cases.Narrowest.{takes_edge, narrower_edge, leads_holds}

-- The same step to another thing.
abbrev pub map_step : {A B : Type 0} → (A → B) → Step A → Step B
map_step f (stop l) = stop l
map_step f (go_to x) = go_to (f x)
map_step f no_way = no_way

module _ {A B : Type 0} (f : A → B) where
  -- A known term leads to the other thing of where it leads.
  follow_map : (cs : List (CaseEdge A)) (x : A) (u : Term) → follow (map (map_case f) cs) (f x) u ≡ f (follow cs x u)
  follow_map cs x u =
      ap (leads_or (f x)) (best_map (map_case f) (takes_edge u) narrower_edge cs)
      ∙ go (best (takes_edge u) narrower_edge cs)
    where
      go : (o : Option (CaseEdge A)) → leads_or (f x) (map_some (map_case f) o) ≡ f (leads_or x o)
      go none = refl
      go (some c) = refl

  -- So does the step at a switch,
  switch_map
      : (cs : List (CaseEdge A)) (x y : A) (z : Found)
      → switch_step (map (map_case f) cs) (f x) (f y) z ≡ map_step f (switch_step cs x y z)
  switch_map cs x y lacking = refl
  switch_map cs x y (found unknown) = refl
  switch_map cs x y (found never) = ap go_to (follow_map cs x never)
  switch_map cs x y (found (symbol a)) = ap go_to (follow_map cs x (symbol a))
  switch_map cs x y (found (numbers a b)) = ap go_to (follow_map cs x (numbers a b))
  switch_map cs x y (found (compound a ts)) = ap go_to (follow_map cs x (compound a ts))

  -- by a comparison,
  comparison_map : (x y : A) (o : Outcome) → by_comparison (f x) (f y) o ≡ map_step f (by_comparison x y o)
  comparison_map x y holds = refl
  comparison_map x y not_known = refl
  comparison_map x y contradicted = refl

  -- and at a pair.
  pair_map : (x y : A) (s t : Found) → pair_step (f x) (f y) s t ≡ map_step f (pair_step x y s t)
  pair_map x y lacking t = refl
  pair_map x y (found s) lacking = refl
  pair_map x y (found s) (found t) = comparison_map x y (compare s t)

  -- So each step goes the same way.
  pub step_map : (piece : Terms) (node : Node A) → step_at piece (map_node f node) ≡ map_step f (step_at piece node)
  step_map piece (end l) = refl
  step_map piece (switch n cs x y) = switch_map cs x y (term_at piece n)
  step_map piece (pair_node p q x y) = pair_map x y (term_at piece p) (term_at piece q)

module _ {A : Type 0} where
  -- Where the step goes, if it goes on, is in the list.
  abbrev GoesIn : List A → Step A → Type 0
  GoesIn xs (stop l) = Unit
  GoesIn xs (go_to x) = Mem x xs
  GoesIn xs no_way = Unit

  -- What a switch leads to.
  abbrev targets : List (CaseEdge A) → A → A → List A
  targets cs x y = map (λ (c : CaseEdge A). c.target) cs ++ x ∷ y ∷ []

  -- A known term is led to one of them.
  follow_edge : (cs : List (CaseEdge A)) (x y : A) (u : Term) → Mem (follow cs x u) (targets cs x y)
  follow_edge cs x y u =
      let here-are = map (λ (c : CaseEdge A). c.target) cs in
      leads_holds (λ (z : A). Mem z (targets cs x y)) (takes_edge u) narrower_edge cs x
      (all_from (λ (c : CaseEdge A). Mem c.target (targets cs x y)) cs
      (λ c m. mem_left (x ∷ y ∷ []) (mem_map (λ (d : CaseEdge A). d.target) m)))
      (mem_right here-are here)

  -- So goes the step at a switch,
  switch_edge : (cs : List (CaseEdge A)) (x y : A) (z : Found) → GoesIn (targets cs x y) (switch_step cs x y z)
  switch_edge cs x y lacking = tt
  switch_edge cs x y (found unknown) = mem_right (map (λ (c : CaseEdge A). c.target) cs) (there here)
  switch_edge cs x y (found never) = follow_edge cs x y never
  switch_edge cs x y (found (symbol a)) = follow_edge cs x y (symbol a)
  switch_edge cs x y (found (numbers a b)) = follow_edge cs x y (numbers a b)
  switch_edge cs x y (found (compound a ts)) = follow_edge cs x y (compound a ts)

  -- by a comparison,
  comparison_edge : (x y : A) (o : Outcome) → GoesIn (x ∷ y ∷ []) (by_comparison x y o)
  comparison_edge x y holds = there here
  comparison_edge x y not_known = there here
  comparison_edge x y contradicted = here

  -- and at a pair.
  pair_edge : (x y : A) (s t : Found) → GoesIn (x ∷ y ∷ []) (pair_step x y s t)
  pair_edge x y lacking t = tt
  pair_edge x y (found s) lacking = tt
  pair_edge x y (found s) (found t) = comparison_edge x y (compare s t)

  -- So each step goes along an edge of the node.
  edge_taken : (piece : Terms) (node : Node A) → GoesIn (edges node) (step_at piece node)
  edge_taken piece (end l) = tt
  edge_taken piece (switch n cs x y) = switch_edge cs x y (term_at piece n)
  edge_taken piece (pair_node p q x y) = pair_edge x y (term_at piece p) (term_at piece q)

  -- Where a step goes on to is what an edge of the node leads to.
  pub step_edge : (piece : Terms) (node : Node A) {x : A} → step_at piece node ≡ go_to x → Mem x (edges node)
  step_edge piece node e = subst (GoesIn (edges node)) e (edge_taken piece node)
