-- The rule of the leaf at which a walk ends is one of the sheet's, and so are the tests that it met.
use Prim.Native.Nat.{ℕ, zero, suc}
use mathlib.Core.Path.{◌≡◌, sym, subst}
use mathlib.Core.Bool.{Bool, true, false, ◌||◌, cond}
use mathlib.Core.List.{List, [], ◌∷◌}
use lib.Dec.{eqb}
use lib.ListN.{get_or}
use Rattle.basics.specs.Lists.{All}
use Rattle.terms.specs.Outcome.{Outcome, holds, not_known, contradicted}
use Rattle.sheet_tests.specs.SheetTests.{Test}
use Rattle.outcomes.specs.views.Look.{look}
use Rattle.outcomes.specs.views.CellOutcome.{pair_cells}
use Rattle.decision.specs.Key.{Leaf, fail_node}
use Rattle.decision.specs.Node.{Node, end, switch, pair_node}
use Rattle.decision.specs.Path.{Step, stop, go_to, no_way, Path, through, by_comparison, last_step, next_step, path_by, node_at}
use Rattle.steps.specs.views.CodeSteps.{step_cells}
use Rattle.path.specs.views.Following.{Ended, reached, stopped, asked_codes, met_codes, end_of, cells_path, cells_end}
use Rattle.walk.specs.views.LeafWalks.{LeafIn}
use Rattle.walk.specs.views.Ready.{LeafNode, AsksKept}
use Rattle.rule_masks.specs.views.TestNumbers.{KeptCode}
use Rattle.path.proofs.PathsAgree.{nodes_each}
use Rattle.basics.proofs.ListLaws.{all_join}
use Rattle.records.specs.Reading.{refused, took}

module _ (count : ℕ) where
  -- So of a step, of a path and of a walk's end.
  abbrev LeafStep : Step ℕ → Type 0
  LeafStep (stop l) = LeafIn count l
  LeafStep (go_to m) = Unit
  LeafStep no_way = Unit

  abbrev pub LeafPath : Path → Type 0
  LeafPath (took a w) = LeafIn count w.last
  LeafPath (refused q) = Unit

  abbrev LeafEnd : Ended → Type 0
  LeafEnd (reached l edges met) = LeafIn count l
  LeafEnd (stopped q) = Unit

  goes_on : (b : Bool) (s : Step ℕ) → LeafStep s → LeafStep (cond b no_way s)
  goes_on true s h = tt
  goes_on false s h = h

  compared : (x y : ℕ) (o : Outcome) → LeafStep (by_comparison x y o)
  compared x y holds = tt
  compared x y not_known = tt
  compared x y contradicted = tt

  step_leaf : (cells : List ℕ) (n : Node ℕ) → LeafNode count n → LeafStep (step_cells cells n)
  step_leaf cells (end l) h = h
  step_leaf cells (switch n cs x y) h = goes_on (eqb (look cells n) 0) (go_to _) tt
  step_leaf cells (pair_node p q x y) h =
      goes_on (eqb (look cells p) 0 || eqb (look cells q) 0) (by_comparison x y (pair_cells cells p q)) (compared x y (pair_cells cells p q))

  through_leaf : (n : ℕ) (p : Path) → LeafPath p → LeafPath (through n p)
  through_leaf n (took a w) h = h
  through_leaf n (refused q) h = tt

  last_leaf : (n : ℕ) (s : Step ℕ) → LeafStep s → LeafPath (last_step n s)
  last_leaf n (stop l) h = h
  last_leaf n (go_to m) h = tt
  last_leaf n no_way h = tt

  next_leaf : (f : ℕ → Path) → ((m : ℕ) → LeafPath (f m)) → (n : ℕ) (s : Step ℕ) → LeafStep s → LeafPath (next_step f n s)
  next_leaf f g n (stop l) h = h
  next_leaf f g n (go_to m) h = through_leaf n (f m) (g m)
  next_leaf f g n no_way h = tt

  path_leaf : (step : ℕ → Step ℕ) → ((n : ℕ) → LeafStep (step n)) → (more n : ℕ) → LeafPath (path_by step more n)
  path_leaf step h zero n = last_leaf n (step n) (h n)
  path_leaf step h (suc more) n = next_leaf (path_by step more) (path_leaf step h more) n (step n) (h n)

  module _ (nodes : List (Node ℕ)) (cells : List ℕ) (leaves : All (LeafNode count) nodes) where
    pub cells_leaf : LeafPath (cells_path nodes cells)
    cells_leaf =
        path_leaf (λ n. step_cells cells (get_or nodes n (end fail_node)))
        (λ n. step_leaf cells (get_or nodes n (end fail_node)) (nodes_each (LeafNode count) nodes tt leaves n)) 64 0

    end_leaf : (p : Path) → LeafPath p → LeafEnd (end_of nodes p)
    end_leaf (took a w) h = h
    end_leaf (refused q) h = tt

    pub reached_leaf : {l : Leaf} {edges : ℕ} {met : List ℕ} → reached l edges met ≡ cells_end nodes cells → LeafIn count l
    reached_leaf e = subst LeafEnd (sym e) (end_leaf (cells_path nodes cells) cells_leaf)

-- The tests that nodes ask are among these, so those met are.
module _ (tests : List Test) (nodes : List (Node ℕ)) (asked : All (AsksKept tests) nodes) where
  abbrev KeptEnd : Ended → Type 0
  KeptEnd (reached l edges met) = All (KeptCode tests) met
  KeptEnd (stopped q) = Unit

  met_kept : (walked : List ℕ) → All (KeptCode tests) (met_codes nodes walked)
  met_kept [] = tt
  met_kept (n ∷ walked) =
      all_join (KeptCode tests) (asked_codes (node_at nodes n)) (met_codes nodes walked)
      (nodes_each (AsksKept tests) nodes tt asked n) (met_kept walked)

  end_kept : (p : Path) → KeptEnd (end_of nodes p)
  end_kept (took a w) = met_kept w.walked
  end_kept (refused q) = tt

  pub reached_kept
      : (cells : List ℕ) {l : Leaf} {edges : ℕ} {met : List ℕ} → reached l edges met ≡ cells_end nodes cells
      → All (KeptCode tests) met
  reached_kept cells e = subst KeptEnd (sym e) (end_kept (cells_path nodes cells))
