-- A step that is handed back says which step it is, and which test its node asks.
use Prim.Native.Nat.{ℕ}
use mathlib.Core.Path.{◌≡◌, refl, ap, ◌∙◌}
use native.Mathlib.Omega.{arith}
use Rattle.decision.specs.Key as key
use Rattle.decision.specs.Path.{Step, stop, go_to, no_way}
use Rattle.graph.specs.declared.Leaf.{Leaf}
use Rattle.graph.specs.declared.Leaf.TheVariants.{Fail, Suspend, Execute}
use Rattle.graph.specs.views.NodeRecord.{leaf_of}
use Rattle.steps.specs.declared.Step.TheVariants.{Stop, GoTo, NoWay}
use Rattle.steps.specs.views.CodeSteps.{leaf_made, step_made}

-- A leaf that is handed back is the leaf.
pub leaf_back : (l : Leaf) → l ≡ leaf_made (leaf_of l)
leaf_back Fail = refl
leaf_back Suspend = refl
leaf_back (Execute i) = refl

leaf_there : (l : key.Leaf) → leaf_of (leaf_made l) ≡ l
leaf_there key.fail_node = refl
leaf_there key.suspend_node = refl
leaf_there (key.execute_node i) = refl

module _ (code : ℕ) where
  pub made_stop : {l : Leaf} (s : Step ℕ) → Stop l ≡ step_made code s → stop (leaf_of l) ≡ s
  made_stop {l} (stop m) e = let same : l ≡ leaf_made m = cc in ap stop (ap leaf_of same ∙ leaf_there m)
  made_stop (go_to n) e = let z : ◌≡◌ {A = ℕ} 0 1 = cc in absurd (omega arith)
  made_stop no_way e = let z : ◌≡◌ {A = ℕ} 0 1 = cc in absurd (omega arith)

  pub made_on : {n test : ℕ} (s : Step ℕ) → GoTo n test ≡ step_made code s → (go_to n ≡ s) × (test ≡ code)
  made_on (stop m) e = let z : ◌≡◌ {A = ℕ} 0 1 = cc in absurd (omega arith)
  made_on {n} {test} (go_to m) e = let same : n ≡ m = cc in let coded : test ≡ code = cc in (ap go_to same, coded)
  made_on no_way e = let z : ◌≡◌ {A = ℕ} 0 1 = cc in absurd (omega arith)

  pub made_stuck : (s : Step ℕ) → NoWay ≡ step_made code s → no_way ≡ s
  made_stuck (stop m) e = let z : ◌≡◌ {A = ℕ} 0 1 = cc in absurd (omega arith)
  made_stuck (go_to n) e = let z : ◌≡◌ {A = ℕ} 0 1 = cc in absurd (omega arith)
  made_stuck no_way e = refl
