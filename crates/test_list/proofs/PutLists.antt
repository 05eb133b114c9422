-- Numbers put into tables one after another.
use Prim.Native.Nat.{ℕ, zero, suc, ◌+◌, ◌≤◌, ◌<◌}
use mathlib.Core.Path.{◌≡◌, refl, sym, ap, ◌∙◌}
use mathlib.Core.List.{List, [], ◌∷◌, map}
use mathlib.Core.Logic.{◌⊎◌, inl, inr, ⊎_elim}
use native.Mathlib.Numerals.{add-one}
use native.Mathlib.Omega.{arith}
use lib.ListN.{length, get_or, drop, set, length-set, drop_of_length-le}
use lib.Seq.{drop-cons, get_or-set_same, get_or-set_other}
use Rattle.basics.specs.Lists.{count_from}
use Rattle.test_list.specs.views.Tests.{put_all}

-- The tables keep their length,
pub put_length : (xs : List ℕ) (at : ℕ) (s : List ℕ) → length (put_all at xs s) ≡ length s
put_length [] at s = refl
put_length (x ∷ xs) at s = put_length xs (suc at) (set s at x) ∙ length-set s at x

-- and every other entry,
pub put_other
    : (xs : List ℕ) (at : ℕ) (s : List ℕ) (k : ℕ) → (k < at) ⊎ (at + length xs ≤ k) → get_or (put_all at xs s) k 0 ≡ get_or s k 0
put_other [] at s k apart = refl
put_other (x ∷ xs) at s k apart =
    put_other xs (suc at) (set s at x) k
    (⊎_elim (λ (h : k < at). inl (omega arith)) (λ (h : at + suc (length xs) ≤ k). inr (omega arith)) apart)
    ∙ get_or-set_other s at k x 0
    (⊎_elim (λ (h : k < at) e. omega arith) (λ (h : at + suc (length xs) ≤ k) e. omega arith) apart)

-- and number k stands k entries on.
pub put_at
    : (xs : List ℕ) (at : ℕ) (s : List ℕ) (k j : ℕ) → k < length xs → at + length xs ≤ length s → j ≡ at + k
    → get_or (put_all at xs s) j 0 ≡ get_or xs k 0
put_at [] at s k j h fits e = absurd (let z : ⊥ = omega arith in z)
put_at (x ∷ xs) at s zero j h fits e =
    let here : j ≡ at = omega arith in
    put_other xs (suc at) (set s at x) j (inl (omega arith))
    ∙ ap (λ (i : ℕ). get_or (set s at x) i 0) here
    ∙ get_or-set_same s at x 0 (omega arith)
put_at (x ∷ xs) at s (suc k) j h fits e =
    put_at xs (suc at) (set s at x) k j (omega arith) (omega (arith, length-set s at x)) (omega arith)

-- Where a loop stands that has put i of the numbers.
pub record Putting (at : ℕ) (xs s₀ : List ℕ) (s : List ℕ) (i : ℕ) : Type 0 where
  pub within : i ≤ length xs
  pub entries : length s ≡ length s₀
  pub below : (k : ℕ) → k < at → get_or s k 0 ≡ get_or s₀ k 0
  pub whole : put_all (at + i) (drop i xs) s ≡ put_all at xs s₀

module _ (at : ℕ) (xs s₀ : List ℕ) where
  pub putting_start : Putting at xs s₀ s₀ 0
  putting_start =
      let here : at + 0 ≡ at = omega arith in
      record { within = omega arith; entries = refl; below = λ k h. refl; whole = ap (λ (j : ℕ). put_all j xs s₀) here }

  module _ (s : List ℕ) (i : ℕ) (p : Putting at xs s₀ s i) where
    -- A turn puts the next,
    pub putting_turn : {u : List ℕ} (v : ℕ) → u ≡ set s (at + i) v → i < length xs → v ≡ get_or xs i 0 → Putting at xs s₀ u (i + 1)
    putting_turn {u} v e h is =
        let next : at + (i + 1) ≡ suc (at + i) = omega arith in
        record {
          within = omega arith;
          entries = ap length e ∙ length-set s (at + i) v ∙ p.entries;
          below = λ k l.
              ap (λ (l : List ℕ). get_or l k 0) e
              ∙ get_or-set_other s (at + i) k v 0 (λ d. let z : ⊥ = omega arith in z)
              ∙ p.below k l;
          whole = (λ j. put_all (next j) (drop (add-one i j) xs) (e j))
              ∙ ap (λ (x : ℕ). put_all (suc (at + i)) (drop (suc i) xs) (set s (at + i) x)) is
              ∙ ap (λ (ys : List ℕ). put_all (at + i) ys s) (sym (drop-cons xs i 0 h))
              ∙ p.whole;
        }

    -- and at the end all are put.
    pub putting_done : length xs ≤ i → s ≡ put_all at xs s₀
    putting_done h =
        sym (ap (λ (ys : List ℕ). put_all (at + i) ys s) (drop_of_length-le xs {i = i} h)) ∙ p.whole

-- Values of numbers in a row.
pub row_at : {B : Type 0} (f : ℕ → B) (d : B) (a n k : ℕ) → k < n → get_or (map f (count_from a n)) k d ≡ f (a + k)
row_at f d a zero k h = absurd (let z : ⊥ = omega arith in z)
row_at f d a (suc n) zero h = let here : a ≡ a + 0 = omega arith in ap f here
row_at f d a (suc n) (suc k) h =
    let next : suc a + k ≡ a + suc k = omega arith in
    row_at f d (suc a) n k (omega arith) ∙ ap f next
