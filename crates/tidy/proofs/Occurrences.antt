-- Variables at their places: which stands later or earlier than another, and that one place has one variable.
use Prim.Native.Nat.{ℕ, suc, ◌≤◌, ◌<◌}
use mathlib.Core.Path.{◌≡◌, sym, ap, ◌∙◌}
use mathlib.Core.Bool.{Bool}
use mathlib.Core.Logic.{inl, inr}
use mathlib.Core.List.{List, [], ◌∷◌}
use native.Mathlib.Omega.{arith}
use lib.Dec.{T, eqb, ltb, eqb→eq, lt→ltb, ltb→lt}
use Rattle.basics.specs.Lists.{Mem, filter}
use Rattle.basics.proofs.Booleans.{both_true, true_both, cond_by}
use Rattle.basics.proofs.Numbers.{eq_true}
use Rattle.basics.proofs.ListLaws.{all_at, mem_cases, mem_none}
use Rattle.terms.specs.RuleTests.{Occurrence}
use Rattle.terms.proofs.Ascending.{Ascends, ascends_wider, ascends_from}
use Rattle.terms.proofs.PairTests.{variable_place}
use Rattle.tidy.specs.TidyRule.{is_later, is_earlier}

-- What stands in a list whose places ascend from b on stands at b or later.
pub stands_from : {A : Type 0} (place : A → ℕ) (b e : ℕ) (xs : List A) → Ascends place b e xs → {x : A} → Mem x xs → b ≤ place x
stands_from {A} place b e xs up m = all_at (λ (z : A). b ≤ place z) m (ascends_from place b e xs up)

-- A filtered list ascends where the list does.
pub ascends_filter
    : {A : Type 0} (place : A → ℕ) (f : A → Bool) (b e : ℕ) (xs : List A) → Ascends place b e xs
    → Ascends place b e (filter f xs)
ascends_filter place f b e [] up = up
ascends_filter {A} place f b e (x ∷ xs) up =
    let rest = ascends_filter place f (suc (place x)) e xs up.1 in
    cond_by (Ascends place b e) (f x) {x = x ∷ filter f xs} {y = filter f xs} (λ h. (up.0, rest))
    (λ h. ascends_wider place (suc (place x)) e b e (omega (arith, up.0)) (omega arith) (filter f xs) rest)

-- The variable of o stands at x, which is later,
pub later : (o x : Occurrence) → x.name ≡ o.name → o.place < x.place → T (is_later o x)
later o x s l =
    true_both (eqb x.name o.name) (ltb o.place x.place) (eq_true x.name o.name s) (lt→ltb o.place x.place l)

pub is_later_lem : (o x : Occurrence) → T (is_later o x) → (x.name ≡ o.name) × (o.place < x.place)
is_later_lem o x t =
    let (s, l) = both_true (eqb x.name o.name) (ltb o.place x.place) t in
    (eqb→eq x.name o.name s, ltb→lt o.place x.place l)

-- or earlier.
pub earlier : (o x : Occurrence) → x.name ≡ o.name → x.place < o.place → T (is_earlier o x)
earlier o x s l =
    true_both (eqb x.name o.name) (ltb x.place o.place) (eq_true x.name o.name s) (lt→ltb x.place o.place l)

pub is_earlier_lem : (o x : Occurrence) → T (is_earlier o x) → (x.name ≡ o.name) × (x.place < o.place)
is_earlier_lem o x t =
    let (s, l) = both_true (eqb x.name o.name) (ltb x.place o.place) t in
    (eqb→eq x.name o.name s, ltb→lt x.place o.place l)

-- One place has one variable.
pub one_occurrence
    : (b e : ℕ) (os : List Occurrence) → Ascends variable_place b e os → {o x : Occurrence} → Mem o os → Mem x os
    → o.place ≡ x.place → o ≡ x
one_occurrence b e [] up m k s = absurd (mem_none m)
one_occurrence b e (y ∷ ys) up {o} {x} m k s =
    elim (mem_cases m) [
      | inl d ↦ elim (mem_cases k) [
        | inl c ↦ d ∙ sym c
        | inr n ↦ absurd (omega (arith, after x n, ap (λ (z : Occurrence). z.place) d))
      ]
      | inr j ↦ elim (mem_cases k) [
        | inl c ↦ absurd (omega (arith, after o j, ap (λ (z : Occurrence). z.place) c))
        | inr n ↦ one_occurrence (suc y.place) e ys up.1 j n s
      ]
    ]
  where
    after : (z : Occurrence) → Mem z ys → suc y.place ≤ z.place
    after z h = stands_from variable_place (suc y.place) e ys up.1 h
