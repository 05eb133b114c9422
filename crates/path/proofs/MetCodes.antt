-- The codes of the tests that the nodes of a walk ask.
use Prim.Native.Nat.{ℕ}
use mathlib.Core.Path.{◌≡◌, refl, sym, ap, ◌∙◌}
use mathlib.Core.Bool.{Bool, true, false, ◌||◌, cond}
use mathlib.Core.List.{List, [], ◌∷◌, ◌++◌, append-nil, append_assoc}
use native.Mathlib.Omega.{arith}
use lib.Dec.{eqb}
use Rattle.terms.specs.Outcome.{Outcome, holds, not_known, contradicted}
use Rattle.outcomes.specs.views.Look.{look}
use Rattle.outcomes.specs.views.CellOutcome.{pair_cells}
use Rattle.decision.specs.Key.{Leaf}
use Rattle.decision.specs.Node.{Node, end, switch, pair_node}
use Rattle.decision.specs.Path.{stop, go_to, no_way, by_comparison, node_at}
use Rattle.steps.specs.views.CodeSteps.{step_cells, node_code}
use Rattle.path.specs.views.Following.{asked_codes, met_codes}

-- A node more.
pub met_more
    : (nodes : List (Node ℕ)) (walked : List ℕ) (n : ℕ)
    → met_codes nodes (walked ++ n ∷ []) ≡ met_codes nodes walked ++ asked_codes (node_at nodes n)
met_more nodes [] n = append-nil (asked_codes (node_at nodes n))
met_more nodes (m ∷ walked) n =
    ap (λ (l : List ℕ). asked_codes (node_at nodes m) ++ l) (met_more nodes walked n)
    ∙ sym (append_assoc (asked_codes (node_at nodes m)) (met_codes nodes walked) (asked_codes (node_at nodes n)))

-- No walk ends where a place is lacking or an edge leads on.
on_or_stuck : {l : Leaf} (b : Bool) (n : ℕ) → stop l ≡ cond b no_way (go_to n) → ⊥
on_or_stuck true n e = let z : ◌≡◌ {A = ℕ} 0 1 = cc in omega arith
on_or_stuck false n e = let z : ◌≡◌ {A = ℕ} 0 1 = cc in omega arith

compared : {l : Leaf} (b : Bool) (x y : ℕ) (o : Outcome) → stop l ≡ cond b no_way (by_comparison x y o) → ⊥
compared b x y holds e = on_or_stuck b y e
compared b x y not_known e = on_or_stuck b y e
compared b x y contradicted e = on_or_stuck b x e

module _ (cells : List ℕ) where
  -- A node where a walk goes on asks one test, and one where it ends asks none.
  pub asks_one : {m : ℕ} (n : Node ℕ) → go_to m ≡ step_cells cells n → asked_codes n ≡ node_code n ∷ []
  asks_one (end l) e = let z : ◌≡◌ {A = ℕ} 0 1 = cc in absurd (omega arith)
  asks_one (switch n cs x y) e = refl
  asks_one (pair_node p q x y) e = refl

  pub asks_none : {l : Leaf} (n : Node ℕ) → stop l ≡ step_cells cells n → asked_codes n ≡ []
  asks_none (end l) e = refl
  asks_none (switch n cs x y) e = absurd (on_or_stuck (eqb (look cells n) 0) _ e)
  asks_none (pair_node p q x y) e = absurd (compared (eqb (look cells p) 0 || eqb (look cells q) 0) x y (pair_cells cells p q) e)
