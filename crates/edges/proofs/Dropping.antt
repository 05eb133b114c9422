-- A loop over the members of a set that takes away a set for each of them, one law a turn. Assumes nothing.
use Prim.Native.Nat.{ℕ, ◌-◌, ◌^◌, ◌<◌}
use mathlib.Core.Path.{◌≡◌, refl, sym, ap, ◌∙◌}
use mathlib.Core.Bool.{Bool, true, false, not, ◌&&◌, ◌||◌, and-true}
use lib.Bits.{bit_and}
use lib.Count.{count_trailing_zeros}
use Rattle.basics.specs.Lists.{any_below}
use Rattle.masks.specs.Mask.{has, mask_of}
use Rattle.masks.proofs.Extensionality.{has_mask_of, mask_of_lt, mask_of_unique}
use Rattle.masks.proofs.Operations.{and_fits}
use Rattle.masks.proofs.LowestMember.{any_lowest, none_left}

-- Where a loop over the members of m stands that takes a set from `from` for each member t, with i in that set where q t i holds:
-- what is left of `from` after the members passed is in `all`, the members to come are in `left`.
pub record Dropping (w : ℕ) (q : ℕ → ℕ → Bool) (from m all left : ℕ) : Type 0 where
  pub all_fits : all < 2 ^ w
  pub left_fits : left < 2 ^ w
  pub whole
      : (i : ℕ) → i < w
      → has all i && not (any_below w (λ t. has left t && q t i)) ≡ has from i && not (any_below w (λ t. has m t && q t i))

-- before the first turn nothing is taken and all members are to come
pub dropping_start
    : (w : ℕ) (q : ℕ → ℕ → Bool) (from m : ℕ) → from < 2 ^ w → m < 2 ^ w → Dropping w q from m from m
dropping_start w q from m h k = record { all_fits = h; left_fits = k; whole = λ i l. refl }

-- what is taken at once is taken one after the other
not_either : (a b c : Bool) → (a && not b) && not c ≡ a && not (b || c)
not_either true true c = refl
not_either true false c = refl
not_either false b c = refl

module _ (w : ℕ) (q : ℕ → ℕ → Bool) (from m all left : ℕ) (s : Dropping w q from m all left) where
  -- a turn takes the set of the lowest member to come
  pub dropping_turn
      : {taken : ℕ} (row : ℕ) → taken ≡ mask_of w (λ j. has all j && not (has row j)) → 0 < left
      → ((i : ℕ) → has row i ≡ q (count_trailing_zeros w left) i) → Dropping w q from m taken (bit_and left (left - 1))
  dropping_turn row e l f = record {
    all_fits = rw e (mask_of_lt w (λ j. has all j && not (has row j)));
    left_fits = and_fits w left (left - 1) s.left_fits;
    whole = λ i k.
        let others = any_below w (λ t. has (bit_and left (left - 1)) t && q t i) in
        ap (λ (x : ℕ). has x i && not others) e
        ∙ ap (λ (b : Bool). b && not others) (has_mask_of w (λ j. has all j && not (has row j)) i k)
        ∙ ap (λ (b : Bool). (has all i && not b) && not others) (f i)
        ∙ not_either (has all i) (q (count_trailing_zeros w left) i) others
        ∙ ap (λ (b : Bool). has all i && not b) (sym (any_lowest w left (λ t. q t i) s.left_fits l))
        ∙ s.whole i k;
  }

  -- after the last turn the sets of all members are taken
  pub dropping_done : left ≡ 0 → all ≡ mask_of w (λ i. has from i && not (any_below w (λ t. has m t && q t i)))
  dropping_done e =
      mask_of_unique w all (λ i. has from i && not (any_below w (λ t. has m t && q t i))) s.all_fits
      (λ i l.
      sym (and-true (has all i)) ∙ ap (λ (b : Bool). has all i && not b) (sym (none_left w left (λ t. q t i) e)) ∙ s.whole i l)
