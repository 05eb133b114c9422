-- The new numbers as they are given in one pass over a rule's variables in order: a repeated variable appears first where none
-- of its name came before, and its number is how many appeared first before it.
use Prim.Native.Nat.{ℕ, suc, ◌<◌}
use mathlib.Core.Path.{◌≡◌, sym, ap, subst, ◌∙◌}
use mathlib.Core.Bool.{Bool, ◌&&◌, not}
use mathlib.Core.Logic.{inl, inr}
use mathlib.Core.List.{List, [], ◌∷◌, ◌++◌}
use native.Mathlib.Omega.{arith}
use lib.Dec.{T, eqb→eq, eqb_refl, T_not}
use lib.ListN.{length}
use Rattle.basics.specs.Lists.{Mem, here, there, filter, any_of}
use Rattle.basics.proofs.Booleans.{both_true, true_both, cond_true, cond_false, same_truth}
use Rattle.basics.proofs.Numbers.{eq_true}
use Rattle.basics.proofs.ListLaws.{mem_cases, mem_join, mem_none}
use Rattle.basics.proofs.Filters.{mem_left, mem_right, filter_mem, mem_any, any_mem, filter_join}
use Rattle.terms.specs.RuleTests.{Occurrence}
use Rattle.terms.proofs.Ascending.{Ascends}
use Rattle.terms.proofs.PairTests.{variable_place}
use Rattle.tidy.specs.TidyRule.{is_named, is_later, is_earlier, position_of, stands_again, stood_before, is_again, is_repeated}
use Rattle.tidy.specs.TidyRule.{appears_first, new_number, repeated}
use Rattle.tidy.proofs.Occurrences.{stands_from, later, is_later_lem, earlier, is_earlier_lem}

-- In a list that ascends, what comes before o stands at a lower place than o, and what comes after it at a higher one.
ascends_split
    : (b e : ℕ) (xs : List Occurrence) (o : Occurrence) (ys : List Occurrence) → Ascends variable_place b e (xs ++ o ∷ ys)
    → ((x : Occurrence) → Mem x xs → x.place < o.place) × ((y : Occurrence) → Mem y ys → o.place < y.place)
ascends_split b e [] o ys up = (λ x m. absurd (mem_none m), λ y m. stands_from variable_place (suc o.place) e ys up.1 m)
ascends_split b e (x ∷ xs) o ys up =
    let (before, after) = ascends_split (suc x.place) e xs o ys up.1 in
    let after_x = stands_from variable_place (suc x.place) e (xs ++ o ∷ ys) up.1 (mem_right xs here) in
    (λ z m. elim (mem_cases m) [ inl s ↦ omega (arith, after_x, ap variable_place s) | inr k ↦ before z k ], after)

module _ (b e : ℕ) (xs : List Occurrence) (o : Occurrence) (ys : List Occurrence)
    (up : Ascends variable_place b e (xs ++ o ∷ ys)) where
  abbrev os : List Occurrence
  os = xs ++ o ∷ ys

  split : ((x : Occurrence) → Mem x xs → x.place < o.place) × ((y : Occurrence) → Mem y ys → o.place < y.place)
  split = ascends_split b e xs o ys up

  -- The variable of o stood before where its name is among the earlier ones,
  before_in_lem : stood_before os o ≡ any_of (is_named o.name) xs
  before_in_lem = same_truth (stood_before os o) (any_of (is_named o.name) xs) forth back
    where
      forth : T (stood_before os o) → T (any_of (is_named o.name) xs)
      forth h =
          let (x, m, t) = any_mem (is_earlier o) os h in
          let (s, less) = is_earlier_lem o x t in
          elim (mem_join xs (o ∷ ys) m) [
            | inl k ↦ mem_any (is_named o.name) k (eq_true x.name o.name s)
            | inr k ↦ elim (mem_cases k) [
              | inl d ↦ absurd (omega (arith, ap variable_place d))
              | inr j ↦ absurd (omega (arith, split.1 x j))
            ]
          ]

      back : T (any_of (is_named o.name) xs) → T (stood_before os o)
      back h =
          let (x, k, s) = any_mem (is_named o.name) xs h in
          mem_any (is_earlier o) (mem_left (o ∷ ys) k) (earlier o x (eqb→eq x.name o.name s) (split.0 x k))

  -- and stands again where it is among the later ones.
  again_in : stands_again os o ≡ any_of (is_named o.name) ys
  again_in = same_truth (stands_again os o) (any_of (is_named o.name) ys) forth back
    where
      forth : T (stands_again os o) → T (any_of (is_named o.name) ys)
      forth h =
          let (x, m, t) = any_mem (is_later o) os h in
          let (s, more) = is_later_lem o x t in
          elim (mem_join xs (o ∷ ys) m) [
            | inl k ↦ absurd (omega (arith, split.0 x k))
            | inr k ↦ elim (mem_cases k) [
              | inl d ↦ absurd (omega (arith, ap variable_place d))
              | inr j ↦ mem_any (is_named o.name) j (eq_true x.name o.name s)
            ]
          ]

      back : T (any_of (is_named o.name) ys) → T (stands_again os o)
      back h =
          let (x, k, s) = any_mem (is_named o.name) ys h in
          mem_any (is_later o) (mem_right xs (there k)) (later o x (eqb→eq x.name o.name s) (split.1 x k))

  -- So one that is named for the first time is a first appearance exactly if its variable is repeated.
  pub appears_next : appears_first os o ≡ (is_repeated os o.name && not (any_of (is_named o.name) xs))
  appears_next = same_truth (appears_first os o) (is_repeated os o.name && not (any_of (is_named o.name) xs)) forth back
    where
      inside : Mem o os
      inside = mem_right xs here

      forth : T (appears_first os o) → T (is_repeated os o.name && not (any_of (is_named o.name) xs))
      forth h =
          let (again, none) = both_true (stands_again os o) (not (stood_before os o)) h in
          true_both (is_repeated os o.name) (not (any_of (is_named o.name) xs))
          (mem_any (is_again os o.name) inside (true_both (is_named o.name o) (stands_again os o) (eqb_refl o.name) again))
          (subst (λ (c : Bool). T (not c)) before_in_lem none)

      back : T (is_repeated os o.name && not (any_of (is_named o.name) xs)) → T (appears_first os o)
      back h =
          let (repeated, none) = both_true (is_repeated os o.name) (not (any_of (is_named o.name) xs)) h in
          let not_before = subst (λ (c : Bool). T (not c)) (sym before_in_lem) none in
          true_both (stands_again os o) (not (stood_before os o)) (again repeated (T_not (any_of (is_named o.name) xs) none))
          not_before
        where
          again : T (is_repeated os o.name) → (T (any_of (is_named o.name) xs) → ⊥) → T (stands_again os o)
          again h none =
              let (x, m, t) = any_mem (is_again os o.name) os h in
              let (s, stands) = both_true (is_named o.name x) (stands_again os x) t in
              elim (mem_join xs (o ∷ ys) m) [
                | inl k ↦ absurd (none (mem_any (is_named o.name) k s))
                | inr k ↦ elim (mem_cases k) [
                  | inl d ↦ subst (λ (z : Occurrence). T (stands_again os z)) d stands
                  | inr j ↦ subst T (sym again_in) (mem_any (is_named o.name) j s)
                ]
              ]

-- What passes a test for the first time after some things has their number as its position.
position_after
    : {A : Type 0} (f : A → Bool) (xs : List A) (x : A) (ys : List A) → ((y : A) → Mem y xs → T (f y) → ⊥) → T (f x)
    → position_of f (xs ++ x ∷ ys) ≡ length xs
position_after f [] x ys none t = cond_true (f x) 0 (suc (position_of f ys)) t
position_after f (y ∷ xs) x ys none t =
    cond_false (f y) 0 (suc (position_of f (xs ++ x ∷ ys))) (none y here)
    ∙ ap suc (position_after f xs x ys (λ z m. none z (there m)) t)

-- The number of a variable that appears first at o is how many appeared first before.
pub number_next
    : (b e : ℕ) (xs : List Occurrence) (o : Occurrence) (ys : List Occurrence) → Ascends variable_place b e (xs ++ o ∷ ys)
    → T (appears_first (xs ++ o ∷ ys) o)
    → new_number (xs ++ o ∷ ys) o.name ≡ length (filter (appears_first (xs ++ o ∷ ys)) xs)
number_next b e xs o ys up first =
    ap (position_of (is_named o.name))
    (filter_join f xs (o ∷ ys) ∙ ap (filter f xs ++◌) (cond_true (f o) (o ∷ filter f ys) (filter f ys) first))
    ∙ position_after (is_named o.name) (filter f xs) o (filter f ys) none (eqb_refl o.name)
  where
    f : Occurrence → Bool
    f = appears_first (xs ++ o ∷ ys)

    none : (y : Occurrence) → Mem y (filter f xs) → T (is_named o.name y) → ⊥
    none y m t =
        let os = xs ++ o ∷ ys in
        let not_before = (both_true (stands_again os o) (not (stood_before os o)) first).1 in
        T_not (any_of (is_named o.name) xs) (subst (λ (c : Bool). T (not c)) (before_in_lem b e xs o ys up) not_before)
        (mem_any (is_named o.name) (filter_mem f xs m).0 t)
