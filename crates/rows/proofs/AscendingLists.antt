-- Ascending lists: what stands at which number.
use Prim.Native.Nat.{ℕ, zero, suc, ◌<◌}
use mathlib.Core.Path.{◌≡◌, sym, ap, ◌∙◌, subst}
use mathlib.Core.Bool.{Bool, cond}
use mathlib.Core.List.{List, [], ◌∷◌, ◌++◌, map}
use mathlib.Core.Logic.{by_cases}
use native.Mathlib.Decide.{dec_lt}
use native.Mathlib.Omega.{arith}
use lib.Dec.{T, ltb, ltb→lt}
use lib.ListN.{length, get_or}
use borrow.Author.Tests.{lt-ltb, le-ltb}
use Rattle.basics.specs.Lists.{All}
use Rattle.basics.proofs.ListLaws.{all_split, all_at}
use Rattle.basics.proofs.Sorted.{StrictOrder, AscendingBy, Ascending}
use Rattle.pairs.specs.views.Slot.{slot}
use Rattle.basics.proofs.Positions.{mem_at}

-- Both parts of an ascending list ascend.
pub ascends_first
    : {A : Type 0} (Before : A → A → Type 0) (xs ys : List A) → AscendingBy Before (xs ++ ys) → AscendingBy Before xs
ascends_first Before [] ys up = tt
ascends_first Before (x ∷ xs) ys up = ((all_split (Before x) xs ys up.0).0, ascends_first Before xs ys up.1)

pub ascends_second
    : {A : Type 0} (Before : A → A → Type 0) (xs ys : List A) → AscendingBy Before (xs ++ ys) → AscendingBy Before ys
ascends_second Before [] ys up = up
ascends_second Before (x ∷ xs) ys up = ascends_second Before xs ys up.1

module _ {A B : Type 0} (f : A → B) where
  all_back : (Q : B → Type 0) (R : A → Type 0) → ((x : A) → Q (f x) → R x) → (xs : List A) → All Q (map f xs) → All R xs
  all_back Q R h [] a = tt
  all_back Q R h (x ∷ xs) a = (h x a.0, all_back Q R h xs a.1)

  -- A list ascends where its images do.
  pub ascends_back
      : (later : B → B → Bool) (before : A → A → Bool) → ((x y : A) → T (later (f x) (f y)) → T (before x y))
      → (xs : List A) → Ascending later (map f xs) → Ascending before xs
  ascends_back later before h [] up = tt
  ascends_back later before h (x ∷ xs) up = (
    all_back (λ (y : B). T (later (f x) y)) (λ (y : A). T (before x y)) (h x) xs up.0,
    ascends_back later before h xs up.1,
  )

module _ {A : Type 0} {before : A → A → Bool} (order : StrictOrder before) (d : A) where
  pub ascends_at
      : (xs : List A) → Ascending before xs → (m n : ℕ) → m < n → n < length xs → T (before (get_or xs m d) (get_or xs n d))
  ascends_at [] up m n h k = absurd (let z : ⊥ = omega arith in z)
  ascends_at (x ∷ xs) up zero zero h k = absurd (let z : ⊥ = omega arith in z)
  ascends_at (x ∷ xs) up zero (suc n) h k = all_at (λ (y : A). T (before x y)) (mem_at d xs n (omega arith)) up.0
  ascends_at (x ∷ xs) up (suc m) zero h k = absurd (let z : ⊥ = omega arith in z)
  ascends_at (x ∷ xs) up (suc m) (suc n) h k = ascends_at xs up.1 m n (omega arith) (omega arith)

  -- In an ascending list a thing has one number.
  pub one_number
      : (xs : List A) → Ascending before xs → (m n : ℕ) → m < length xs → n < length xs → get_or xs m d ≡ get_or xs n d → m ≡ n
  one_number xs up m n h k e =
      let x = get_or xs m d in
      let y = get_or xs n d in
      by_cases (dec_lt m n)
      (λ (l : m < n). absurd (order.irreflexive y (subst (λ (z : A). T (before z y)) e (ascends_at xs up m n l k))))
      (λ (a : m < n → ⊥).
      by_cases (dec_lt n m)
      (λ (l : n < m). absurd (order.irreflexive x (subst (λ (z : A). T (before z x)) (sym e) (ascends_at xs up n m l h))))
      (λ (b : n < m → ⊥). omega arith))

-- In an ascending list of numbers each stands where it belongs.
pub slot_at : (xs : List ℕ) → Ascending ltb xs → (k : ℕ) → k < length xs → slot (get_or xs k 0) xs ≡ k
slot_at [] up k h = absurd (let z : ⊥ = omega arith in z)
slot_at (x ∷ xs) up zero h =
    ap (λ (b : Bool). cond b (suc (slot x xs)) 0) (le-ltb x x (omega arith))
slot_at (x ∷ xs) up (suc k) h =
    let c = get_or xs k 0 in
    let l = ltb→lt x c (all_at (λ (y : ℕ). T (ltb x y)) (mem_at 0 xs k (omega arith)) up.0) in
    ap (λ (b : Bool). cond b (suc (slot c xs)) 0) (lt-ltb x c l)
    ∙ ap suc (slot_at xs up.1 k (omega arith))
