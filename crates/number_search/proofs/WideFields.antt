-- A wide field behind a position, by the positions of its two bytes.
use Prim.Native.Nat.{ℕ, ◌+◌}
use mathlib.Core.Path.{◌≡◌, ap, ◌∙◌}
use mathlib.Core.List.{List}
use native.Mathlib.Omega.{arith}
use lib.ListN.{get_or, drop}
use lib.Seq.{get_or-drop}
use Rattle.records.specs.Fields.{wide_of, wide_at}

module _ (s : List ℕ) (at n : ℕ) where
  next : at + (n + 1) ≡ at + n + 1
  next = omega arith

  pub wide_there : wide_of (get_or s (at + n) 0) (get_or s (at + (n + 1)) 0) ≡ wide_at s (at + n)
  wide_there = ap (λ (k : ℕ). wide_of (get_or s (at + n) 0) (get_or s k 0)) next

  pub wide_behind : wide_at (drop at s) n ≡ wide_at s (at + n)
  wide_behind = (λ i. wide_of (get_or-drop at s n 0 i) (get_or-drop at s (n + 1) 0 i)) ∙ wide_there
