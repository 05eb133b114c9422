-- The members of a set, one number after another.
use Prim.Native.Nat.{ℕ}
use mathlib.Core.Bool.{Bool, cond}
use mathlib.Core.List.{List, ◌∷◌}
use Rattle.basics.specs.Lists.{filter, count_from}

-- x before the list, where the test holds.
abbrev pub cons_if : Bool → ℕ → List ℕ → List ℕ
cons_if b x l = cond b (x ∷ l) l

-- Of the n numbers from i on, those at which p holds.
abbrev pub list_from : ℕ → ℕ → (ℕ → Bool) → List ℕ
list_from n i p = filter p (count_from i n)
