-- Breadth first, each thing is met once, at most as many as allowed, and each but the first is an edge of one with a smaller
-- number.
use Prim.Native.Nat.{ℕ, zero, suc, ◌+◌, ◌≤◌, ◌<◌}
use mathlib.Core.Path.{◌≡◌, refl, sym, ap, subst, ◌∙◌}
use mathlib.Core.Bool.{Bool, true, false, cond}
use mathlib.Core.Logic.{◌⊎◌, inl, inr}
use mathlib.Core.List.{List, [], ◌∷◌, ◌++◌, append_assoc}
use mathlib.Core.Option.{Option, some}
use native.Mathlib.Omega.{arith}
use lib.Dec.{T}
use lib.ListN.{length, get_or, length-append}
use Rattle.basics.specs.Lists.{Mem, here, there, any_of}
use Rattle.basics.proofs.ListLaws.{mem_cases, mem_none, mem_join}
use Rattle.decision.specs.Graph as graph
use Rattle.basics.proofs.Filters.{mem_left, mem_right, mem_any}
use Rattle.decision.proofs.exploring.BreadthFirst.{some_none, new_from}

-- No thing stands twice in the list.
abbrev pub Distinct : {A : Type 0} → List A → Type 0
Distinct [] = Unit
Distinct (x ∷ xs) = (Mem x xs → ⊥) × Distinct xs

distinct_last : {A : Type 0} (xs : List A) (y : A) → Distinct xs → (Mem y xs → ⊥) → Distinct (xs ++ y ∷ [])
distinct_last [] y d n = (λ m. mem_none m, tt)
distinct_last {A} (x ∷ xs) y d n = (
  λ m. elim (mem_join xs (y ∷ []) m) [
    | inl k ↦ d.0 k
    | inr k ↦ elim (mem_cases k) [ inl e ↦ n (subst (λ (z : A). Mem z (x ∷ xs)) e here) | inr q ↦ mem_none q ]
  ],
  distinct_last xs y d.1 (λ m. n (there m)),
)

module _ {A : Type 0} (same : A → A → Bool) (next : A → List A)
    (sound : (x y : A) → T (same x y) → x ≡ y) (reflexive : (x : A) → T (same x x)) where
  abbrev new_ones : List A → List A → List A
  new_ones met xs = graph.new_ones same met xs

  abbrev explore : ℕ → List A → List A → Option (List A)
  explore more met queue = graph.explore same next more met queue

  abbrev number_in : List A → A → ℕ
  number_in xs x = graph.number_in same xs x

  pub new_distinct : (met xs : List A) → Distinct met → Distinct (met ++ new_ones met xs)
  new_distinct met [] d = subst Distinct (sym (append_none met)) d
    where
      append_none : (ys : List A) → ys ++ [] ≡ ys
      append_none [] = refl
      append_none (y ∷ ys) = ap (λ (zs : List A). y ∷ zs) (append_none ys)
  new_distinct met (y ∷ xs) d =
      go (any_of (same y) met) refl (new_distinct met xs d) (λ k. new_distinct (met ++ y ∷ []) xs k)
    where
      go : (b : Bool) → any_of (same y) met ≡ b → Distinct (met ++ new_ones met xs)
          → (Distinct (met ++ y ∷ []) → Distinct ((met ++ y ∷ []) ++ new_ones (met ++ y ∷ []) xs))
          → Distinct (met ++ (cond b (new_ones met xs) (y ∷ new_ones (met ++ y ∷ []) xs)))
      go true e f g = f
      go false e f g =
          subst Distinct (append_assoc met (y ∷ []) (new_ones (met ++ y ∷ []) xs))
          (g (distinct_last met y d (λ m. subst T e (mem_any (same y) m (reflexive y)))))

  -- Each thing is met once.
  pub explore_distinct : (more : ℕ) (met queue all : List A) → Distinct met → explore more met queue ≡ some all → Distinct all
  explore_distinct zero met [] all d e = let k : met ≡ all = cc in subst Distinct k d
  explore_distinct zero met (q ∷ queue) all d e = some_none e
  explore_distinct (suc more) met [] all d e = let k : met ≡ all = cc in subst Distinct k d
  explore_distinct (suc more) met (q ∷ queue) all d e =
      explore_distinct more (met ++ new_ones met (next q)) (queue ++ new_ones met (next q)) all (new_distinct met (next q) d) e

  -- At most as many are met as may be looked at.
  pub explore_few : (more : ℕ) (met queue all : List A) → explore more met queue ≡ some all → length all + length queue ≤ more + length met
  explore_few zero met [] all e = let k : met ≡ all = cc in omega (arith, ap length k)
  explore_few zero met (q ∷ queue) all e = some_none e
  explore_few (suc more) met [] all e = let k : met ≡ all = cc in omega (arith, ap length k)
  explore_few (suc more) met (q ∷ queue) all e =
      omega (
        arith,
        explore_few more (met ++ new_ones met (next q)) (queue ++ new_ones met (next q)) all e,
        length-append met (new_ones met (next q)),
        length-append queue (new_ones met (next q)),
      )

  -- The first thing stays the first.
  pub explore_first : (more : ℕ) (x : A) (met queue all : List A) → explore more (x ∷ met) queue ≡ some all
      → (rest : List A) × (all ≡ x ∷ rest)
  explore_first zero x met [] all e = (met, cc)
  explore_first zero x met (q ∷ queue) all e = some_none e
  explore_first (suc more) x met [] all e = (met, cc)
  explore_first (suc more) x met (q ∷ queue) all e =
      explore_first more x (met ++ new_ones (x ∷ met) (next q)) (queue ++ new_ones (x ∷ met) (next q)) all e

  -- A member's number is below the length, and leads back to it.
  pub number_right : (d x : A) (xs : List A) → Mem x xs → (number_in xs x < length xs) × (get_or xs (number_in xs x) d ≡ x)
  number_right d x [] m = elim m [ ]
  number_right d x (y ∷ xs) m = go (same x y) refl (mem_cases m) (λ k. number_right d x xs k)
    where
      go : (b : Bool) → same x y ≡ b → (x ≡ y) ⊎ Mem x xs
          → (Mem x xs → (number_in xs x < length xs) × (get_or xs (number_in xs x) d ≡ x))
          → ((cond b 0 (suc (number_in xs x))) < suc (length xs))
          × (get_or (y ∷ xs) (cond b 0 (suc (number_in xs x))) d ≡ x)
      go true e c f = (omega arith, sym (sound x y (subst T (sym e) tt)))
      go false e (inl c) f = absurd (subst T (ap (same x) c ∙ e) (reflexive x))
      go false e (inr k) f = let q = f k in (omega (arith, q.0), q.1)

  -- Members with the same number are the same.
  pub number_one : (x y : A) (xs : List A) → Mem x xs → Mem y xs → number_in xs x ≡ number_in xs y → x ≡ y
  number_one x y xs m k e =
      let first : get_or xs (number_in xs x) x ≡ x = (number_right x x xs m).1 in
      let second : get_or xs (number_in xs y) x ≡ y = (number_right x y xs k).1 in
      sym first ∙ ap (λ (n : ℕ). get_or xs n x) e ∙ second

  -- A member keeps its number when more are met, and what is met later has a larger one.
  number_kept : (x : A) (xs ys : List A) → Mem x xs → number_in (xs ++ ys) x ≡ number_in xs x
  number_kept x [] ys m = elim m [ ]
  number_kept x (y ∷ xs) ys m = go (same x y) refl (mem_cases m) (λ k. number_kept x xs ys k)
    where
      go : (b : Bool) → same x y ≡ b → (x ≡ y) ⊎ Mem x xs → (Mem x xs → number_in (xs ++ ys) x ≡ number_in xs x)
          → ◌≡◌ {A = ℕ} (cond b 0 (suc (number_in (xs ++ ys) x)))
          (cond b 0 (suc (number_in xs x)))
      go true e c f = refl
      go false e (inl c) f = absurd (subst T (ap (same x) c ∙ e) (reflexive x))
      go false e (inr k) f = ap suc (f k)

  number_late : (x : A) (xs ys : List A) → (Mem x xs → ⊥) → length xs ≤ number_in (xs ++ ys) x
  number_late x [] ys n = omega arith
  number_late x (y ∷ xs) ys n = go (same x y) (sound x y) (number_late x xs ys (λ m. n (there m)))
    where
      go : (b : Bool) → (T b → x ≡ y) → length xs ≤ number_in (xs ++ ys) x
          → suc (length xs) ≤ (cond b 0 (suc (number_in (xs ++ ys) x)))
      go true f h = absurd (n (subst (λ (z : A). Mem z (y ∷ xs)) (sym (f tt)) here))
      go false f h = omega arith

  -- x is the first thing, or an edge of one with a smaller number.
  abbrev pub Reached : A → List A → A → Type 0
  Reached root xs x = (x ≡ root) ⊎ ((y : A) × Mem y xs × Mem x (next y) × (number_in xs y < number_in xs x))

  reached_more : (root x : A) (xs ys : List A) → Mem x xs → Reached root xs x → Reached root (xs ++ ys) x
  reached_more root x xs ys m (inl e) = inl e
  reached_more root x xs ys m (inr r) =
      inr (r.0, mem_left ys r.1, r.2, omega (arith, r.3, number_kept r.0 xs ys r.1, number_kept x xs ys m))

  not_met : (met xs : List A) (x : A) → Mem x (new_ones met xs) → Mem x met → ⊥
  not_met met [] x m k = mem_none m
  not_met met (y ∷ xs) x m k = go (any_of (same y) met) refl (not_met met xs x) (λ q. not_met (met ++ y ∷ []) xs x q (mem_left (y ∷ []) k)) m
    where
      go : (b : Bool) → any_of (same y) met ≡ b → (Mem x (new_ones met xs) → Mem x met → ⊥) → (Mem x (new_ones (met ++ y ∷ []) xs) → ⊥)
          → Mem x (cond b (new_ones met xs) (y ∷ new_ones (met ++ y ∷ []) xs)) → ⊥
      go true e f g q = f q k
      go false e f g q =
          elim (mem_cases q) [
            | inl c ↦ subst T e (mem_any (same y) (subst (λ (z : A). Mem z met) c k) (reflexive y))
            | inr p ↦ g p
          ]

  -- Each thing met but the first is reached from one with a smaller number.
  pub explore_reached : (more : ℕ) (root : A) (met queue all : List A) → ((x : A) → Mem x queue → Mem x met)
      → ((x : A) → Mem x met → Reached root met x) → explore more met queue ≡ some all → (x : A) → Mem x all → Reached root all x
  explore_reached zero root met [] all i r e = let k : met ≡ all = cc in subst (λ (ys : List A). (x : A) → Mem x ys → Reached root ys x) k r
  explore_reached zero root met (q ∷ queue) all i r e = some_none e
  explore_reached (suc more) root met [] all i r e = let k : met ≡ all = cc in subst (λ (ys : List A). (x : A) → Mem x ys → Reached root ys x) k r
  explore_reached (suc more) root met (q ∷ queue) all i r e =
      explore_reached more root (met ++ new) (queue ++ new) all
      (λ x m. elim (mem_join queue new m) [ inl k ↦ mem_left new (i x (there k)) | inr k ↦ mem_right met k ])
      (λ x m. elim (mem_join met new m) [
        | inl k ↦ reached_more root x met new k (r x k)
        | inr k ↦ inr (
          q,
          mem_left new (i q here),
          new_from same next sound reflexive met (next q) x k,
          omega (
            arith,
            number_kept q met new (i q here),
            (number_right q q met (i q here)).0,
            number_late x met new (not_met met (next q) x k),
          ),
        )
      ])
      e
    where
      new : List A
      new = new_ones met (next q)
