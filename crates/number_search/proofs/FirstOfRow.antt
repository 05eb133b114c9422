-- Things told by their numbers: what holds of all holds of each, and the best of them.
use Prim.Native.Nat.{ℕ, zero, suc, ◌<◌}
use mathlib.Core.Path.{◌≡◌, refl, ap, ◌∙◌}
use mathlib.Core.Bool.{Bool, true, false, cond}
use mathlib.Core.List.{List, [], ◌∷◌}
use mathlib.Core.Option.{Option, some, none}
use native.Mathlib.Omega.{arith}
use lib.Dec.{T}
use Rattle.basics.specs.Lists.{Mem, here, there, All}
use Rattle.basics.proofs.Booleans.{not_so, true_is}
use Rattle.decision.specs.Narrowest.{better, best}
use Rattle.decision.proofs.cases.Best.{IfSome, best_holds}
use Rattle.number_search.specs.views.NumberRows.{firsts}

module _ {A : Type 0} where
  pub firsts_all : (Q : A → Type 0) (f : ℕ → A) (n : ℕ) → ((i : ℕ) → i < n → Q (f i)) → All Q (firsts f n)
  firsts_all Q f zero h = tt
  firsts_all Q f (suc n) h = (h 0 (omega arith), firsts_all Q (λ (i : ℕ). f (suc i)) n (λ i l. h (suc i) (omega (arith, l))))

  pub firsts_at : (Q : A → Type 0) (f : ℕ → A) (n i : ℕ) → i < n → All Q (firsts f n) → Q (f i)
  firsts_at Q f zero i l h = absurd (omega (arith, l))
  firsts_at Q f (suc n) zero l h = h.0
  firsts_at Q f (suc n) (suc i) l h = firsts_at Q (λ (j : ℕ). f (suc j)) n i (omega (arith, l)) h.1

  pub firsts_mem : (f : ℕ → A) (n i : ℕ) → i < n → Mem (f i) (firsts f n)
  firsts_mem f zero i l = absurd (omega (arith, l))
  firsts_mem f (suc n) zero l = here
  firsts_mem f (suc n) (suc i) l = there (firsts_mem (λ (j : ℕ). f (suc j)) n i (omega (arith, l)))

  module _ (taken : A → Bool) (before : A → A → Bool) where
    -- Where none is taken there is no best.
    pub best_of_none : (xs : List A) → All (λ (x : A). T (taken x) → ⊥) xs → best taken before xs ≡ none
    best_of_none [] h = refl
    best_of_none (x ∷ xs) h =
        ap (λ (b : Bool). better before b x (best taken before xs)) (not_so (taken x) h.0) ∙ best_of_none xs h.1

    -- One is the best that is taken, comes before those in front of it that are, and is preceded by none behind it that is.
    pub best_at
        : (f : ℕ → A) (n j : ℕ) → j < n → T (taken (f j))
        → ((i : ℕ) → i < j → T (taken (f i)) → T (before (f j) (f i)))
        → ((i : ℕ) → j < i → i < n → T (taken (f i)) → T (before (f i) (f j)) → ⊥)
        → best taken before (firsts f n) ≡ some (f j)
    best_at f zero j l t front behind = absurd (omega (arith, l))
    best_at f (suc n) zero l t front behind =
        let others = firsts (λ (i : ℕ). f (suc i)) n in
        ap (λ (b : Bool). better before b (f 0) (best taken before others)) (true_is (taken (f 0)) t)
        ∙ go (best taken before others)
        (best_holds taken before (λ (y : A). T (before y (f 0)) → ⊥) others
        (firsts_all (λ (y : A). T (taken y) → T (before y (f 0)) → ⊥) (λ (i : ℕ). f (suc i)) n
        (λ i k. behind (suc i) (omega arith) (omega (arith, k)))))
      where
        go : (o : Option A) → IfSome (λ (y : A). T (before y (f 0)) → ⊥) o → better before true (f 0) o ≡ some (f 0)
        go none h = refl
        go (some y) h = ap (λ (b : Bool). some (cond b y (f 0))) (not_so (before y (f 0)) h)
    best_at f (suc n) (suc j) l t front behind =
        ap (better before (taken (f 0)) (f 0))
        (best_at (λ (i : ℕ). f (suc i)) n j (omega (arith, l)) t (λ i k. front (suc i) (omega (arith, k)))
        (λ i k m. behind (suc i) (omega (arith, k)) (omega (arith, m))))
        ∙ go (taken (f 0)) (front 0 (omega arith))
      where
        go : (b : Bool) → (T b → T (before (f (suc j)) (f 0))) → better before b (f 0) (some (f (suc j))) ≡ some (f (suc j))
        go false h = refl
        go true h = ap (λ (b : Bool). some (cond b (f (suc j)) (f 0))) (true_is (before (f (suc j)) (f 0)) (h tt))
