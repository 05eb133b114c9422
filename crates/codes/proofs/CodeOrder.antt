-- The order of codes: those of one sort are in the order of what they stand for, and different things have different codes.
use Prim.Native.Nat.{ℕ, ◌+◌, ◌<◌}
use mathlib.Core.Path.{◌≡◌, refl}
use mathlib.Core.Bool.{Bool, true, false, ◌&&◌}
use mathlib.Core.Logic.{◌⊎◌, inl, inr}
use native.Mathlib.Omega.{arith}
use lib.Dec.{leb, ltb, eqb, leb→le, le→leb, ltb→lt, lt→ltb, eqb→eq}
use borrow.Author.Tests.{ltb-true, ltb-false}
use Rattle.basics.specs.Order.{pair_before}
use Rattle.basics.proofs.Booleans.{both_true, true_both, same_truth}
use Rattle.basics.proofs.Numbers.{eq_true}
use Rattle.basics.proofs.Sorted.{pair_before_lem, before_pair}
use Rattle.codes.specs.views.Codes.{compound_code}

-- Codes of symbols or of numbers, which begin at k, are in the order of their ids or numbers,
pub in_order_lem : (k a b : ℕ) → leb (k + a) (k + b) ≡ leb a b
in_order_lem k a b =
    same_truth (leb (k + a) (k + b)) (leb a b) (λ t. le→leb a b (omega (arith, leb→le (k + a) (k + b) t)))
    (λ t. le→leb (k + a) (k + b) (omega (arith, leb→le a b t)))

-- one before another,
pub before : (k a b : ℕ) → ltb (k + a) (k + b) ≡ ltb a b
before k a b =
    same_truth (ltb (k + a) (k + b)) (ltb a b) (λ t. lt→ltb a b (omega (arith, ltb→lt (k + a) (k + b) t)))
    (λ t. lt→ltb (k + a) (k + b) (omega (arith, ltb→lt a b t)))

-- and the same where these are.
pub same_of_sort : (k a b : ℕ) → eqb (k + a) (k + b) ≡ eqb a b
same_of_sort k a b =
    same_truth (eqb (k + a) (k + b)) (eqb a b) (λ t. eq_true a b (omega (arith, eqb→eq (k + a) (k + b) t)))
    (λ t. eq_true (k + a) (k + b) (omega (arith, eqb→eq a b t)))

module _ (a n b m : ℕ) (few : n < 256) (few-other : m < 256) where
  -- Codes of compounds are the same where ids and arities are,
  pub same_compound : eqb (compound_code a n) (compound_code b m) ≡ eqb a b && eqb n m
  same_compound =
      same_truth (eqb (compound_code a n) (compound_code b m)) (eqb a b && eqb n m)
      (λ t.
      let same = eqb→eq (compound_code a n) (compound_code b m) t in
      true_both (eqb a b) (eqb n m) (eq_true a b (omega arith)) (eq_true n m (omega arith)))
      (λ t.
      let both = both_true (eqb a b) (eqb n m) t in
      eq_true (compound_code a n) (compound_code b m) (omega (arith, eqb→eq a b both.0, eqb→eq n m both.1)))

  -- and ascend by id, then by arity.
  pub compound_before : ltb (compound_code a n) (compound_code b m) ≡ pair_before a n b m
  compound_before =
      same_truth (ltb (compound_code a n) (compound_code b m)) (pair_before a n b m)
      (λ t. before_pair a n b m (apart (ltb→lt (compound_code a n) (compound_code b m) t)))
      (λ t. lt→ltb (compound_code a n) (compound_code b m) (together (pair_before_lem a n b m t)))
    where
      apart : compound_code a n < compound_code b m → (a < b) ⊎ ((a ≡ b) × (n < m))
      apart lt = go (ltb a b) refl
        where
          go : (t : Bool) → ltb a b ≡ t → (a < b) ⊎ ((a ≡ b) × (n < m))
          go true e = inl (omega (arith, ltb-true a b e))
          go false e = inr (omega (arith, ltb-false a b e), omega (arith, ltb-false a b e))

      together : (a < b) ⊎ ((a ≡ b) × (n < m)) → compound_code a n < compound_code b m
      together (inl lt) = omega arith
      together (inr e) = omega (arith, e.0, e.1)
