-- The sheet's tests as they are kept: no place stands past the last word.
use Prim.Native.Nat.{ℕ, ◌/◌, ◌%◌, ◌≤◌}
use mathlib.Core.Path.{◌≡◌, sym, ap, ◌∙◌}
use mathlib.Core.Bool.{false}
use mathlib.Core.List.{List}
use lib.ListN.{length, get_or-eq_default}
use Rattle.masks.specs.Mask.{has}
use Rattle.masks.proofs.Membership.{has_empty}
use Rattle.sheet_tests.specs.views.TestedPlaces.{has_place}

-- A place whose word is lacking is not in the set.
pub place_lacking : (words : List ℕ) (n : ℕ) → length words ≤ n / 64 → false ≡ has_place words n
place_lacking words n h =
    sym (ap (λ (x : ℕ). has x (n % 64)) (get_or-eq_default words 0 h) ∙ has_empty (n % 64))
