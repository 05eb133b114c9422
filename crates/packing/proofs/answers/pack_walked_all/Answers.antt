-- The results of the walks of many pieces have room in their field.
use Prim.Native.Nat.{ℕ, ◌≤◌}
use mathlib.Core.Path.{subst}
use mathlib.Core.List.{[]}
use native.Mathlib.Omega.{arith}
use Rattle.std.specs.Prelude.{Result}
use Rattle.walk_all.specs.declared.WalkedAll.{WalkedAll}
use Rattle.walk_all.specs.WalkAll.{most_results}
use Rattle.packing.specs.views.Numbered.{walked_all_left}
use Rattle.packing.proofs.answers.pack_walked_all.Goals as goal

pub overflow_add-result : goal.overflow_add-result
overflow_add-result c =
    let few = subst (λ (x : Result WalkedAll ℕ). (walked_all_left x []).results ≤ most_results) c.in-Ok.is (c.requires []) in
    omega (arith, few)
