-- The part of a slice that begins at a: as a list, and its length.
use Prim.Native.Nat.{ℕ, ◌-◌, ◌≤◌}
use mathlib.Core.Path.{◌≡◌, ap, sym, subst, ◌∙◌}
use mathlib.Core.List.{List}
use native.Mathlib.Nat.{le_refl}
use lib.ListN.{length, take, drop, length-drop}
use lib.Seq.{take_all}

-- The part is what is left of the list after its first a elements.
pub rest : (s : List ℕ) (a : ℕ) → take (length s - a) (drop a s) ≡ drop a s
rest s a = take_all (length s - a) (drop a s) (subst (λ (k : ℕ). k ≤ length s - a) (sym (length-drop a s)) (le_refl _))

-- It is a elements shorter.
pub rest_length : (s : List ℕ) (a : ℕ) → length (take (length s - a) (drop a s)) ≡ length s - a
rest_length s a = ap length (rest s a) ∙ length-drop a s
