-- Names that differ and are all below a bound are no more than the bound.
use Prim.Native.Nat.{ℕ, zero, suc, ◌≤◌, ◌<◌}
use mathlib.Core.Path.{◌≡◌, subst}
use mathlib.Core.Bool.{Bool, true, false, cond}
use mathlib.Core.List.{List, [], ◌∷◌}
use native.Mathlib.Omega.{arith}
use lib.Dec.{T, ltb, lt→ltb, ltb→lt}
use lib.ListN.{length}
use Rattle.basics.specs.Lists.{All}
use Rattle.basics.proofs.Booleans.{cond_by}
use Rattle.terms.specs.RuleTests.{Occurrence}

-- No two of the list have one name.
abbrev pub NamesDiffer : List Occurrence → Type 0
NamesDiffer [] = Unit
NamesDiffer (x ∷ xs) = All (λ (y : Occurrence). x.name ≡ y.name → ⊥) xs × NamesDiffer xs

-- How many names of the list are below n.
abbrev below : ℕ → List Occurrence → ℕ
below n [] = 0
below n (x ∷ xs) = cond (ltb x.name n) (suc (below n xs)) (below n xs)

-- None is below 0, and all are below a bound of them all.
below_none : (xs : List Occurrence) → below 0 xs ≤ 0
below_none [] = omega arith
below_none (x ∷ xs) =
    cond_by (λ (k : ℕ). k ≤ 0) (ltb x.name 0) {x = suc (below 0 xs)} {y = below 0 xs}
    (λ h. absurd (omega (arith, ltb→lt x.name 0 h))) (λ h. below_none xs)

below_all : (n : ℕ) (xs : List Occurrence) → All (λ (x : Occurrence). x.name < n) xs → length xs ≤ below n xs
below_all n [] h = omega arith
below_all n (x ∷ xs) h =
    cond_by (λ (k : ℕ). suc (length xs) ≤ k) (ltb x.name n) {x = suc (below n xs)} {y = below n xs}
    (λ t. omega (arith, below_all n xs h.1)) (λ t. absurd (t (lt→ltb x.name n h.0)))

module _ (n : ℕ) where
  -- A name more is at most one of the list more, and none more where it is not in the list.
  below_same : (xs : List Occurrence) → All (λ (y : Occurrence). n ≡ y.name → ⊥) xs → below (suc n) xs ≤ below n xs
  below_same [] h = omega arith
  below_same (x ∷ xs) h =
      go (ltb x.name (suc n)) (ltb→lt x.name (suc n)) (ltb x.name n) (lt→ltb x.name n) h.0 (below_same xs h.1)
    where
      go
          : (a : Bool) → (T a → x.name < suc n) → (c : Bool) → (x.name < n → T c) → (n ≡ x.name → ⊥)
          → below (suc n) xs ≤ below n xs
          → cond a (suc (below (suc n) xs)) (below (suc n) xs) ≤ cond c (suc (below n xs)) (below n xs)
      go true d true c ne rest = omega arith
      go true d false c ne rest =
          let l = d tt in
          let is : (x.name < n → ⊥) → n ≡ x.name = λ h. omega arith in
          absurd (ne (is c))
      go false d true c ne rest = omega arith
      go false d false c ne rest = rest

  below_more : (xs : List Occurrence) → NamesDiffer xs → below (suc n) xs ≤ suc (below n xs)
  below_more [] a = omega arith
  below_more (x ∷ xs) a =
      go (ltb x.name (suc n)) (ltb→lt x.name (suc n)) (ltb x.name n) (lt→ltb x.name n) (below_more xs a.1)
    where
      go
          : (a : Bool) → (T a → x.name < suc n) → (c : Bool) → (x.name < n → T c)
          → below (suc n) xs ≤ suc (below n xs)
          → cond a (suc (below (suc n) xs)) (below (suc n) xs) ≤ suc (cond c (suc (below n xs)) (below n xs))
      go true d true c rest = omega arith
      go true d false c rest =
          let l = d tt in
          let is : (x.name < n → ⊥) → x.name ≡ n = λ h. omega arith in
          let others = subst (λ (k : ℕ). All (λ (y : Occurrence). k ≡ y.name → ⊥) xs) (is c) a.0 in
          omega (arith, below_same xs others)
      go false d true c rest = omega arith
      go false d false c rest = rest

below_most : (n : ℕ) (xs : List Occurrence) → NamesDiffer xs → below n xs ≤ n
below_most zero xs a = below_none xs
below_most (suc n) xs a = omega (arith, below_more n xs a, below_most n xs a)

-- At most n of a list have names apart below n.
pub few_names : (n : ℕ) (xs : List Occurrence) → NamesDiffer xs → All (λ (x : Occurrence). x.name < n) xs → length xs ≤ n
few_names n xs a h = omega (arith, below_all n xs h, below_most n xs a)
