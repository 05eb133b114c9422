-- The number of a key among keys that are counted.
use Rattle.std.proofs.Common.{◌≡◌, ℕ, zero, suc, ◌+◌, ◌<◌, ◌≤◌, Bool, true, false, cond, map, sym, refl, ap, ◌∙◌, arith}
use native.Mathlib.Decide.{ℕ_discrete}
use mathlib.Core.Logic.{by_cases}
use Rattle.basics.proofs.Booleans.{is_true}
use Rattle.basics.specs.Lists.{count_from}
use Rattle.decision.specs.Key.{Key, same_key}
use Rattle.decision.proofs.keys.SameVertex.{same_key_lem}
use Rattle.met.specs.views.KeysMet.{key_number}

-- The same key is an equal one.
pub same_equal : (k l : Key) → same_key k l ≡ true → k ≡ l
same_equal k l e = same_key_lem k l (is_true e)

module _ (at : ℕ → Key) (key : Key) where
  -- The number of the key among the n from i on.
  abbrev pub number_from : ℕ → ℕ → ℕ
  number_from i n = key_number (map at (count_from i n)) key

  -- It is n where none of them is the key,
  pub number_none
      : (i n : ℕ) → ((j : ℕ) → i ≤ j → j < i + n → same_key key (at j) ≡ false) → number_from i n ≡ n
  number_none i zero f = refl
  number_none i (suc n) f =
      ap (λ (b : Bool). cond b 0 (suc (number_from (suc i) n))) (f i (omega arith) (omega arith))
      ∙ ap suc (number_none (suc i) n (λ j h l. f j (omega arith) (omega arith)))

  -- and only there;
  pub number_all_lem
      : (i n : ℕ) → number_from i n ≡ n → (j : ℕ) → i ≤ j → j < i + n → same_key key (at j) ≡ false
  number_all_lem i zero e j h l = absurd (let z : ⊥ = omega arith in z)
  number_all_lem i (suc n) e j h l = go (same_key key (at i)) refl (number_all_lem (suc i) n)
    where
      go : (b : Bool) → same_key key (at i) ≡ b
          → (number_from (suc i) n ≡ n → (k : ℕ) → suc i ≤ k → k < suc i + n → same_key key (at k) ≡ false)
          → same_key key (at j) ≡ false
      go true d rest =
          let z : 0 ≡ suc n = sym (ap (λ (b : Bool). cond b 0 (suc (number_from (suc i) n))) d) ∙ e in
          absurd (let y : ⊥ = omega arith in y)
      go false d rest =
          let z : suc (number_from (suc i) n) ≡ suc n =
          sym (ap (λ (b : Bool). cond b 0 (suc (number_from (suc i) n))) d) ∙ e in
          by_cases (ℕ_discrete i j) (λ (s : i ≡ j). ap (λ (x : ℕ). same_key key (at x)) (sym s) ∙ d)
          (λ (s : ¬ (i ≡ j)). rest (omega arith) j (omega arith) (omega arith))

  -- else that of the first that is.
  pub number_here
      : (i n k : ℕ) → k < n → same_key key (at (i + k)) ≡ true
      → ((j : ℕ) → i ≤ j → j < i + k → same_key key (at j) ≡ false) → number_from i n ≡ k
  number_here i zero k h e f = absurd (let z : ⊥ = omega arith in z)
  number_here i (suc n) zero h e f =
      let d : i + 0 ≡ i = omega arith in
      ap (λ (b : Bool). cond b 0 (suc (number_from (suc i) n))) (ap (λ (x : ℕ). same_key key (at x)) (sym d) ∙ e)
  number_here i (suc n) (suc k) h e f =
      let d : suc i + k ≡ i + suc k = omega arith in
      ap (λ (b : Bool). cond b 0 (suc (number_from (suc i) n))) (f i (omega arith) (omega arith))
      ∙ ap suc
      (number_here (suc i) n k (omega arith) (ap (λ (x : ℕ). same_key key (at x)) d ∙ e)
      (λ j g l. f j (omega arith) (omega arith)))
