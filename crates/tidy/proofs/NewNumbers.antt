-- The new numbers: each repeated variable has one first appearance, so two of them have two numbers, and there are no more
-- numbers than variables.
use Prim.Native.Nat.{ℕ, suc, ◌≤◌, ◌<◌}
use mathlib.Core.Path.{◌≡◌, sym, ap, subst, ◌∙◌}
use mathlib.Core.Bool.{Bool, true, false, not, cond}
use mathlib.Core.Logic.{inl, inr}
use mathlib.Core.List.{List, [], ◌∷◌}
use native.Mathlib.Omega.{arith}
use lib.Dec.{T, eqb, eqb→eq, T_not, not_T}
use lib.ListN.{length}
use Rattle.basics.specs.Lists.{Mem, here, there, All}
use Rattle.basics.proofs.Booleans.{both_true, true_both, cond_by}
use Rattle.basics.proofs.Numbers.{eq_true}
use Rattle.basics.proofs.ListLaws.{all_at, all_from, mem_cases, mem_none}
use Rattle.basics.proofs.Filters.{mem_filter, filter_mem, mem_any, any_mem}
use Rattle.terms.specs.RuleTests.{Occurrence}
use Rattle.terms.proofs.Ascending.{Ascends}
use Rattle.terms.proofs.PairTests.{variable_place}
use Rattle.tidy.specs.TidyRule.{is_named, is_later, is_earlier, position_of, stands_again, stood_before, is_again, is_repeated}
use Rattle.tidy.specs.TidyRule.{appears_first, first_appearances, new_number}
use Rattle.tidy.proofs.Occurrences.{stands_from, ascends_filter, later, is_later_lem, earlier, is_earlier_lem}
use Rattle.tidy.proofs.FewNames.{NamesDiffer, few_names}

-- Each variable that stands somewhere has a lowest place.
lowest
    : (b e : ℕ) (os : List Occurrence) → Ascends variable_place b e os → (v : ℕ) (o : Occurrence) → Mem o os → o.name ≡ v
    → (f : Occurrence) × Mem f os × (f.name ≡ v) × ((x : Occurrence) → Mem x os → x.name ≡ v → f.place ≤ x.place)
lowest b e [] up v o m s = absurd (mem_none m)
lowest b e (y ∷ ys) up v o m s =
    go (eqb y.name v) (eqb→eq y.name v) (eq_true y.name v) (λ k. lowest (suc y.place) e ys up.1 v o k s)
  where
    Lowest : List Occurrence → Type 0
    Lowest xs =
        (f : Occurrence) × Mem f xs × (f.name ≡ v) × ((x : Occurrence) → Mem x xs → x.name ≡ v → f.place ≤ x.place)

    after : (z : Occurrence) → Mem z ys → suc y.place ≤ z.place
    after z h = stands_from variable_place (suc y.place) e ys up.1 h

    least : (x : Occurrence) → Mem x (y ∷ ys) → y.place ≤ x.place
    least x k =
        elim (mem_cases k) [
          | inl d ↦ omega (arith, ap (λ (z : Occurrence). z.place) d)
          | inr j ↦ omega (arith, after x j)
        ]

    go : (c : Bool) → (T c → y.name ≡ v) → (y.name ≡ v → T c) → (Mem o ys → Lowest ys) → Lowest (y ∷ ys)
    go true same test rest = (y, here, same tt, λ x k r. least x k)
    go false same test rest =
        elim (mem_cases m) [
          | inl d ↦ absurd (test (sym (ap (λ (z : Occurrence). z.name) d) ∙ s))
          | inr k ↦
              let (f, j, r, low) = rest k in (
                f,
                there j,
                r,
                λ x h q. elim (mem_cases h) [
                  | inl d ↦ absurd (test (sym (ap (λ (z : Occurrence). z.name) d) ∙ q))
                  | inr i ↦ low x i q
                ],
              )
        ]

-- What is found has a position below the length,
position_lt : {A : Type 0} (f : A → Bool) (x : A) (xs : List A) → Mem x xs → T (f x) → position_of f xs < length xs
position_lt f x [] m t = absurd (mem_none m)
position_lt f x (y ∷ ys) m t =
    cond_by (λ (n : ℕ). n < suc (length ys)) (f y) {x = 0} {y = suc (position_of f ys)} (λ h. omega arith)
    (λ h. elim (mem_cases m) [
      | inl e ↦ absurd (h (subst (λ z. T (f z)) e t))
      | inr k ↦ omega (arith, position_lt f x ys k t)
    ])

-- and two names that are found at one position are the same.
same_position
    : (v w : ℕ) (f g : Occurrence) (xs : List Occurrence) → Mem f xs → f.name ≡ v → Mem g xs → g.name ≡ w
    → position_of (is_named v) xs ≡ position_of (is_named w) xs → v ≡ w
same_position v w f g [] m s k r e = absurd (mem_none m)
same_position v w f g (x ∷ xs) m s k r e =
    go (eqb x.name v) (eqb→eq x.name v) (eq_true x.name v) (eqb x.name w) (eqb→eq x.name w) (eq_true x.name w)
    (λ i j. same_position v w f g xs i s j r) e
  where
    in_rest : (u : ℕ) (o : Occurrence) → Mem o (x ∷ xs) → o.name ≡ u → (x.name ≡ u → ⊥) → Mem o xs
    in_rest u o h q not-x =
        elim (mem_cases h) [ inl d ↦ absurd (not-x (sym (ap (λ (z : Occurrence). z.name) d) ∙ q)) | inr j ↦ j ]

    go
        : (a : Bool) → (T a → x.name ≡ v) → (x.name ≡ v → T a) → (c : Bool) → (T c → x.name ≡ w) → (x.name ≡ w → T c)
        → (Mem f xs → Mem g xs → position_of (is_named v) xs ≡ position_of (is_named w) xs → v ≡ w)
        → cond a 0 (suc (position_of (is_named v) xs)) ≡ cond c 0 (suc (position_of (is_named w) xs)) → v ≡ w
    go true d d' true c c' rest h = sym (d tt) ∙ c tt
    go true d d' false c c' rest h = absurd (omega arith)
    go false d d' true c c' rest h = absurd (omega arith)
    go false d d' false c c' rest h = rest (in_rest v f m s d') (in_rest w g k r c') (omega arith)

-- A list that ascends, and in which one name stands at one place, has names apart.
names_differ
    : (b e : ℕ) (xs : List Occurrence) → Ascends variable_place b e xs
    → ((x y : Occurrence) → Mem x xs → Mem y xs → x.name ≡ y.name → x.place ≡ y.place) → NamesDiffer xs
names_differ b e [] up h = tt
names_differ b e (x ∷ xs) up h =
    let rest = names_differ (suc x.place) e xs up.1 (λ y z m k. h y z (there m) (there k)) in
    (all_from (λ (y : Occurrence). x.name ≡ y.name → ⊥) xs differ, rest)
  where
    differ : (y : Occurrence) → Mem y xs → x.name ≡ y.name → ⊥
    differ y m s =
        let after = stands_from variable_place (suc x.place) e xs up.1 m in
        omega (arith, after, h x y here (there m) s)

module _ (b e : ℕ) (os : List Occurrence) (up : Ascends variable_place b e os) where
  -- A repeated variable has a first appearance.
  pub appears : (v : ℕ) → T (is_repeated os v) → (f : Occurrence) × Mem f (first_appearances os) × (f.name ≡ v)
  appears v h =
      let (o, m, t) = any_mem (is_again os v) os h in
      let (named, again) = both_true (is_named v o) (stands_again os o) t in
      let is : o.name ≡ v = eqb→eq o.name v named in
      let (f, k, s, low) = lowest b e os up v o m is in
      let (x, j, u) = any_mem (is_later o) os again in
      let (r, l) = is_later_lem o x u in
      let stands = mem_any (is_later f) j (later f x (r ∙ is ∙ sym s) (omega (arith, low o m is))) in
      let first = true_both (stands_again os f) (not (stood_before os f)) stands (not_T (stood_before os f) (none f s low)) in
      (f, mem_filter (appears_first os) k first, s)
    where
      none
          : (f : Occurrence) → f.name ≡ v → ((x : Occurrence) → Mem x os → x.name ≡ v → f.place ≤ x.place)
          → T (stood_before os f) → ⊥
      none f s low h =
          let (x, j, u) = any_mem (is_earlier f) os h in
          let (r, l) = is_earlier_lem f x u in
          omega (arith, l, low x j (r ∙ s))

  -- Two repeated variables have two numbers.
  pub numbers_differ : (v w : ℕ) → T (is_repeated os v) → T (is_repeated os w) → new_number os v ≡ new_number os w → v ≡ w
  numbers_differ v w h k same =
      let (f, m, s) = appears v h in
      let (g, j, r) = appears w k in
      same_position v w f g (first_appearances os) m s j r same

  -- A variable appears first at one place.
  appears_once
      : (x y : Occurrence) → Mem x (first_appearances os) → Mem y (first_appearances os) → x.name ≡ y.name → x.place ≡ y.place
  appears_once x y m k s =
      let (i, g) = filter_mem (appears_first os) os m in
      let (j, h) = filter_mem (appears_first os) os k in
      let less = not_before x y i s (both_true (stands_again os y) (not (stood_before os y)) h).1 in
      let more = not_before y x j (sym s) (both_true (stands_again os x) (not (stood_before os x)) g).1 in
      omega arith
    where
      not_before : (o z : Occurrence) → Mem o os → o.name ≡ z.name → T (not (stood_before os z)) → o.place < z.place → ⊥
      not_before o z i r none l = T_not (stood_before os z) none (mem_any (is_earlier z) i (earlier z o r l))

  -- Where all names are below n, so are the new numbers.
  pub number_lt
      : (n : ℕ) → All (λ (o : Occurrence). o.name < n) os → (v : ℕ) → T (is_repeated os v) → new_number os v < n
  number_lt n small v h =
      let (f, m, s) = appears v h in
      let firsts = first_appearances os in
      let apart = names_differ b e firsts (ascends_filter variable_place (appears_first os) b e os up) appears_once in
      let each = all_from (λ (o : Occurrence). o.name < n) firsts
      (λ o k. all_at (λ (x : Occurrence). x.name < n) (filter_mem (appears_first os) os k).0 small) in
      omega (arith, position_lt (is_named v) f firsts m (eq_true f.name v s), few_names n firsts apart each)
