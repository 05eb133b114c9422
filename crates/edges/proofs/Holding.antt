-- A loop over the members of a set that joins, for each of them, what is in its row and in another set: each turn, after the last
-- one, and where all of the other set is joined already. Assumes nothing.
use Prim.Native.Nat.{ℕ, ◌-◌, ◌^◌, ◌<◌}
use mathlib.Core.Path.{◌≡◌, sym, ap, ◌∙◌}
use mathlib.Core.Bool.{Bool, ◌&&◌, ◌||◌, and-true, and-false}
use native.Mathlib.Nat.{lt_of_le_of_lt}
use lib.Bits.{bit_and, bit_or, and_le_r}
use lib.Count.{count_trailing_zeros}
use Rattle.basics.specs.Lists.{any_below}
use Rattle.basics.proofs.AnyBelow.{any_none, any_same}
use Rattle.basics.proofs.Booleans.{by_test}
use Rattle.masks.specs.Mask.{has, mask_of}
use Rattle.masks.proofs.Membership.{has_and}
use Rattle.masks.proofs.Extensionality.{mask_of_same, mask_of_unique}
use Rattle.masks.proofs.Loops.{Joining, joining_turn, joining_done}

-- t is in row i and in the set
abbrev pub in_both : (ℕ → ℕ) → ℕ → ℕ → ℕ → Bool
in_both row set i t = has (row i) t && has set t

module _ (w : ℕ) (row : ℕ → ℕ) (set m all left : ℕ) (s : Joining w (in_both row set) m all left) where
  -- a turn joins what is in the row of the lowest member to come and in the set
  pub holding_turn
      : {x : ℕ} → x ≡ row (count_trailing_zeros w left) → set < 2 ^ w → 0 < left
      → Joining w (in_both row set) m (bit_or all (bit_and x set)) (bit_and left (left - 1))
  holding_turn {x} e h l =
      joining_turn w (in_both row set) m all left s (bit_and x set) l (lt_of_le_of_lt (and_le_r x set) h)
      (λ t. has_and x set t ∙ ap (λ (y : ℕ). has y t && has set t) e)

  -- what is in the set and in a row of some member
  found
      : (t : ℕ)
      → any_below w (λ i. has m i && (has (row i) t && has set t)) ≡ has set t && any_below w (λ i. has m i && has (row i) t)
  found t =
      by_test (has set t)
      (λ y.
      any_same w _ _
      (λ i l.
      ap (λ (b : Bool). has m i && (has (row i) t && b)) y ∙ ap (λ (b : Bool). has m i && b) (and-true (has (row i) t)))
      ∙ sym (ap (λ (b : Bool). b && any_below w (λ i. has m i && has (row i) t)) y))
      (λ n.
      any_none w _ (λ i l.
      ap (λ (b : Bool). has m i && (has (row i) t && b)) n
      ∙ ap (λ (b : Bool). has m i && b) (and-false (has (row i) t))
      ∙ and-false (has m i))
      ∙ sym (ap (λ (b : Bool). b && any_below w (λ i. has m i && has (row i) t)) n))

  -- after the last turn
  pub holding_done : left ≡ 0 → all ≡ mask_of w (λ t. has set t && any_below w (λ i. has m i && has (row i) t))
  holding_done e = joining_done w (in_both row set) m all left s e ∙ mask_of_same w _ _ (λ t l. found t)

  -- where all of the set is joined
  pub holding_all : set < 2 ^ w → all ≡ set → set ≡ mask_of w (λ t. has set t && any_below w (λ i. has m i && has (row i) t))
  holding_all h e =
      mask_of_unique w set (λ t. has set t && any_below w (λ i. has m i && has (row i) t)) h
      (λ t l.
      by_test (has set t)
      (λ y.
      y
      ∙ sym (ap (λ (b : Bool). b || any_below w (λ i. has left i && (has (row i) t && has set t))) (ap (λ (x : ℕ). has x t) e ∙ y))
      ∙ s.whole t
      ∙ found t)
      (λ n. n ∙ sym (ap (λ (b : Bool). b && any_below w (λ i. has m i && has (row i) t)) n)))
