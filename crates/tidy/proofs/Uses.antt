-- A variable is repeated exactly when it stands at two places or more, counted in one pass over a rule's variables.
use Prim.Native.Nat.{ℕ, suc, ◌≤◌, ◌<◌}
use mathlib.Core.Path.{◌≡◌, sym, ap, subst, ◌∙◌}
use mathlib.Core.Bool.{Bool, true, false, cond}
use mathlib.Core.Logic.{inl, inr}
use mathlib.Core.List.{List, [], ◌∷◌}
use native.Mathlib.Omega.{arith}
use lib.Dec.{T, leb, eqb→eq, le→leb, leb→le}
use Rattle.basics.specs.Lists.{Mem, here, there}
use Rattle.basics.proofs.Booleans.{both_true, same_truth, cond_by}
use Rattle.basics.proofs.Numbers.{eq_true}
use Rattle.basics.proofs.ListLaws.{mem_cases, mem_none}
use Rattle.basics.proofs.Filters.{any_mem}
use Rattle.terms.specs.RuleTests.{Occurrence}
use Rattle.terms.proofs.Ascending.{Ascends}
use Rattle.terms.proofs.PairTests.{variable_place}
use Rattle.tidy.specs.TidyRule.{is_named, is_later, stands_again, is_again, is_repeated}
use Rattle.tidy.proofs.Occurrences.{stands_from, is_later_lem}
use Rattle.tidy.proofs.Pairs.{repeats}

-- How often a name stands in the list.
abbrev pub uses : ℕ → List Occurrence → ℕ
uses v [] = 0
uses v (o ∷ os) = cond (is_named v o) (suc (uses v os)) (uses v os)

-- A name that stands somewhere is used,
uses_one : (v : ℕ) (o : Occurrence) (os : List Occurrence) → Mem o os → o.name ≡ v → 1 ≤ uses v os
uses_one v o [] m s = absurd (mem_none m)
uses_one v o (y ∷ ys) m s =
    cond_by (λ (n : ℕ). 1 ≤ n) (is_named v y) {x = suc (uses v ys)} {y = uses v ys} (λ t. omega arith)
    (λ f. elim (mem_cases m) [
      | inl d ↦ absurd (f (eq_true y.name v (sym (ap (λ (z : Occurrence). z.name) d) ∙ s)))
      | inr k ↦ uses_one v o ys k s
    ])

-- and one that stands at two places is used twice.
uses_two
    : (v : ℕ) (o x : Occurrence) (os : List Occurrence) → Mem o os → Mem x os → o.place < x.place → o.name ≡ v → x.name ≡ v
    → 2 ≤ uses v os
uses_two v o x [] m k l s r = absurd (mem_none m)
uses_two v o x (y ∷ ys) m k l s r =
    cond_by (λ (n : ℕ). 2 ≤ n) (is_named v y) {x = suc (uses v ys)} {y = uses v ys}
    (λ t. elim (mem_cases m) [
      | inl d ↦ elim (mem_cases k) [
        | inl c ↦ absurd (omega (arith, ap variable_place d, ap variable_place c))
        | inr j ↦ omega (arith, uses_one v x ys j r)
      ]
      | inr i ↦ omega (arith, uses_one v o ys i s)
    ])
    (λ f. elim (mem_cases m) [
      | inl d ↦ absurd (f (eq_true y.name v (sym (ap (λ (z : Occurrence). z.name) d) ∙ s)))
      | inr i ↦ elim (mem_cases k) [
        | inl c ↦ absurd (f (eq_true y.name v (sym (ap (λ (z : Occurrence). z.name) c) ∙ r)))
        | inr j ↦ uses_two v o x ys i j l s r
      ]
    ])

-- One that is used stands somewhere, and one that is used twice stands at two places.
one_used : (v : ℕ) (os : List Occurrence) → 1 ≤ uses v os → (o : Occurrence) × Mem o os × (o.name ≡ v)
one_used v [] h = absurd (omega arith)
one_used v (y ∷ ys) h = go (is_named v y) (eqb→eq y.name v) (λ k. one_used v ys k) h
  where
    Used : List Occurrence → Type 0
    Used l = (o : Occurrence) × Mem o l × (o.name ≡ v)

    go : (c : Bool) → (T c → y.name ≡ v) → (1 ≤ uses v ys → Used ys) → 1 ≤ cond c (suc (uses v ys)) (uses v ys) → Used (y ∷ ys)
    go true same rest k = (y, here, same tt)
    go false same rest k = let (o, m, s) = rest k in (o, there m, s)

two_used
    : (b e v : ℕ) (os : List Occurrence) → Ascends variable_place b e os → 2 ≤ uses v os
    → (o : Occurrence) × (x : Occurrence) × Mem o os × Mem x os × (o.place < x.place) × (o.name ≡ v) × (x.name ≡ v)
two_used b e v [] up h = absurd (omega arith)
two_used b e v (y ∷ ys) up h =
    go (is_named v y) (eqb→eq y.name v) (λ k. one_used v ys k) (λ k. two_used (suc y.place) e v ys up.1 k) h
  where
    Used : List Occurrence → Type 0
    Used l = (o : Occurrence) × (x : Occurrence) × Mem o l × Mem x l × (o.place < x.place) × (o.name ≡ v) × (x.name ≡ v)

    go
        : (c : Bool) → (T c → y.name ≡ v) → (1 ≤ uses v ys → (o : Occurrence) × Mem o ys × (o.name ≡ v))
        → (2 ≤ uses v ys → Used ys)
        → 2 ≤ cond c (suc (uses v ys)) (uses v ys) → Used (y ∷ ys)
    go true same one two k =
        let (x, m, s) = one (omega arith) in
        let after = stands_from variable_place (suc y.place) e ys up.1 m in
        (y, x, here, there m, after, same tt, s)
    go false same one two k = let (o, x, m, j, l, s, r) = two k in (o, x, there m, there j, l, s, r)

-- A variable is repeated exactly when it is used twice or more.
pub repeated_uses : (b e : ℕ) (os : List Occurrence) → Ascends variable_place b e os → (v : ℕ) → is_repeated os v ≡ leb 2 (uses v os)
repeated_uses b e os up v = same_truth (is_repeated os v) (leb 2 (uses v os)) forth back
  where
    forth : T (is_repeated os v) → T (leb 2 (uses v os))
    forth h =
        let (o, m, t) = any_mem (is_again os v) os h in
        let (s, again) = both_true (is_named v o) (stands_again os o) t in
        let (x, k, u) = any_mem (is_later o) os again in
        let (r, l) = is_later_lem o x u in
        let is : o.name ≡ v = eqb→eq o.name v s in
        le→leb 2 (uses v os) (uses_two v o x os m k l is (r ∙ is))

    back : T (leb 2 (uses v os)) → T (is_repeated os v)
    back h =
        let (o, x, m, k, l, s, r) = two_used b e v os up (leb→le 2 (uses v os) h) in
        subst (λ (w : ℕ). T (is_repeated os w)) s (repeats b e os up o x m k l (s ∙ sym r))
