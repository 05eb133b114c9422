-- A list has two things or more where it is longer than 1. Assumes nothing.
use Prim.Native.Nat.{ℕ, ◌≤◌, ◌<◌}
use mathlib.Core.Path.{◌≡◌, refl}
use mathlib.Core.Bool.{true, false}
use mathlib.Core.List.{List, [], ◌∷◌}
use native.Mathlib.Omega.{arith}
use lib.ListN.{length}
use Rattle.decision.specs.Key.{two_or_more}

pub two_or_more_lem : (l : List ℕ) → 1 < length l → two_or_more l ≡ true
two_or_more_lem [] h = absurd (omega arith)
two_or_more_lem (i ∷ []) h = absurd (omega arith)
two_or_more_lem (i ∷ (j ∷ l)) h = refl

pub one_at_most : (l : List ℕ) → length l ≤ 1 → two_or_more l ≡ false
one_at_most [] h = refl
one_at_most (i ∷ []) h = refl
one_at_most (i ∷ (j ∷ l)) h = absurd (omega arith)
