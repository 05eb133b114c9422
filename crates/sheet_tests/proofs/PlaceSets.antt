-- The set of tested places: a place put in, and how many there are.
use Prim.Native.Nat.{ℕ, ◌+◌, ◌*◌, ◌/◌, ◌%◌, ◌≤◌, ◌<◌}
use mathlib.Core.Path.{◌≡◌, refl, sym, ap, ◌∙◌, subst}
use mathlib.Core.Bool.{Bool, true, ◌||◌, or-false, or-true}
use mathlib.Core.Logic.{inl, inr, by_cases}
use mathlib.Core.List.{List, []}
use native.Mathlib.Decide.{ℕ_discrete}
use native.Mathlib.Omega.{arith}
use lib.Dec.{T, ltb, eqb}
use lib.ListN.{length, get_or, set, length-set, length-append, replicate}
use lib.Seq.{get_or-set_same, get_or-set_other}
use borrow.Author.Tests.{eq-eqb, ne_eqb}
use Rattle.masks.specs.Mask.{has, mask_of, members}
use Rattle.masks.proofs.Extensionality.{has_is}
use Rattle.basics.specs.Lists.{Mem, filter, count_from}
use Rattle.basics.specs.Order.{insert_by}
use Rattle.basics.proofs.Sorted.{Ascending, insert_has, insert_keeps, insert_mem, insert_ascends, same_members, number_order}
use Rattle.sheet_tests.specs.views.TestedPlaces.{has_place, places_in}
use Rattle.sheet_tests.proofs.NumberLists.{filter_listed}
use Rattle.basics.proofs.Booleans.{true_is, is_true}
use Rattle.basics.proofs.Filters.{mem_filter, filter_mem, filter_join}
use Rattle.basics.proofs.Ascent.{ascending_filter}
use Rattle.basics.proofs.Counting.{count_mem, mem_count, count_ascends, count_append, filter_count}

module _ (words : List ℕ) where
  -- The places of a set ascend.
  pub places_ascend_lem : Ascending ltb (places_in words)
  unfolding places_in
  places_ascend_lem =
      ascending_filter (λ (x y : ℕ). T (ltb x y)) (has_place words) (count_from 0 (64 * length words))
      (count_ascends 0 (64 * length words))

  -- What stands in the list of places is in the set.
  places_mem : {n : ℕ} → Mem n (places_in words) → (n < 64 * length words) × (has_place words n ≡ true)
  unfolding places_in
  places_mem {n} m =
      let h = filter_mem (has_place words) (count_from 0 (64 * length words)) m in
      let k = count_mem 0 (64 * length words) n h.0 in
      (omega arith, true_is (has_place words n) h.1)

  -- What is in the set stands in the list.
  mem_places : {n : ℕ} → n < 64 * length words → has_place words n ≡ true → Mem n (places_in words)
  unfolding places_in
  mem_places {n} h e =
      mem_filter (has_place words) (mem_count 0 (64 * length words) n (omega arith) (omega arith)) (is_true e)

-- A word with a bit more: the set with a place more.
module _ (words : List ℕ) (place word : ℕ) (within : place < 64 * length words)
    (put : word ≡ mask_of 64 (λ j. has (get_or words (place / 64) 0) j || eqb (place % 64) j)) where
  has_put : (n : ℕ) → has_place (set words (place / 64) word) n ≡ has_place words n || eqb place n
  has_put n =
      by_cases (ℕ_discrete (n / 64) (place / 64))
      (λ (e : n / 64 ≡ place / 64).
      ap (λ (i : ℕ). has (get_or (set words (place / 64) word) i 0) (n % 64)) e
      ∙ ap (λ (w : ℕ). has w (n % 64)) (get_or-set_same words (place / 64) word 0 (omega arith))
      ∙ has_is 64 (λ j. has (get_or words (place / 64) 0) j || eqb (place % 64) j) put (n % 64) (omega arith)
      ∙ ap (λ (i : ℕ). has (get_or words i 0) (n % 64) || eqb (place % 64) (n % 64)) (sym e)
      ∙ ap (λ (b : Bool). has_place words n || b) (same_bit n e))
      (λ (d : n / 64 ≡ place / 64 → ⊥).
      ap (λ (w : ℕ). has w (n % 64)) (get_or-set_other words (place / 64) (n / 64) word 0 d)
      ∙ sym (ap (λ (b : Bool). has_place words n || b) (ne_eqb place n (λ (e : place ≡ n). d (ap (λ (m : ℕ). m / 64) (sym e)))) ∙ or-false (has_place words n)))
    where
      same_bit : (n : ℕ) → n / 64 ≡ place / 64 → eqb (place % 64) (n % 64) ≡ eqb place n
      same_bit n e =
          by_cases (ℕ_discrete place n)
          (λ (p : place ≡ n). ap (λ (m : ℕ). eqb (place % 64) (m % 64)) (sym p) ∙ eq-eqb (place % 64) (place % 64) refl ∙ sym (eq-eqb place n p))
          (λ (d : place ≡ n → ⊥).
          ne_eqb (place % 64) (n % 64) (λ (q : place % 64 ≡ n % 64). d (omega arith)) ∙ sym (ne_eqb place n d))

  -- The places of the set with a place put in.
  pub mark_is : places_in (set words (place / 64) word) ≡ insert_by ltb place (places_in words)
  mark_is =
      same_members number_order (places_in marked) (insert_by ltb place (places_in words)) (places_ascend_lem marked)
      (insert_ascends number_order place (places_in words) (places_ascend_lem words)) forth back
    where
      marked : List ℕ
      marked = set words (place / 64) word

      size : length marked ≡ length words
      size = length-set words (place / 64) word

      forth : (n : ℕ) → Mem n (places_in marked) → Mem n (insert_by ltb place (places_in words))
      forth n m =
          let h = places_mem marked m in
          by_cases (ℕ_discrete place n)
          (λ (e : place ≡ n). subst (λ (x : ℕ). Mem x (insert_by ltb place (places_in words))) e (insert_has number_order place (places_in words)))
          (λ (d : place ≡ n → ⊥).
          insert_keeps number_order place (places_in words)
          (mem_places words (omega (arith, size))
          (sym (ap (λ (b : Bool). has_place words n || b) (ne_eqb place n d) ∙ or-false (has_place words n)) ∙ sym (has_put n) ∙ h.1)))

      back : (n : ℕ) → Mem n (insert_by ltb place (places_in words)) → Mem n (places_in marked)
      back n m =
          elim (insert_mem number_order place (places_in words) m) [
            | inl e ↦ mem_places marked (omega (arith, size))
                (has_put n ∙ ap (λ (b : Bool). has_place words n || b) (eq-eqb place n (sym e)) ∙ or-true (has_place words n))
            | inr k ↦ let h = places_mem words k in
                mem_places marked (omega (arith, size)) (has_put n ∙ ap (λ (b : Bool). b || eqb place n) h.1)
          ]

-- How many places the first i words have.
abbrev pub places_below : List ℕ → ℕ → ℕ
places_below words i = length (filter (has_place words) (count_from 0 (64 * i)))

pub places_below_few : (words : List ℕ) (i : ℕ) → places_below words i ≤ 64 * i
places_below_few words i = filter_count (has_place words) 0 (64 * i)

-- A word more has its members more.
pub places_next : (words : List ℕ) (i : ℕ) → places_below words i + length (members 64 (get_or words i 0)) ≡ places_below words (i + 1)
unfolding members
places_next words i =
    let p = has_place words in
    let n = 64 * i in
    let e : 64 * (i + 1) ≡ n + 64 = omega arith in
    let quotient : (j : ℕ) → j < 64 → (0 + n + j) / 64 ≡ i = λ j l. omega arith in
    let remainder : (j : ℕ) → j < 64 → (0 + n + j) % 64 ≡ 0 + j = λ j l. omega arith in
    sym
    (ap (λ (m : ℕ). length (filter p (count_from 0 m))) e
    ∙ ap (λ (l : List ℕ). length (filter p l)) (count_append 0 n 64)
    ∙ ap length (filter_join p (count_from 0 n) (count_from (0 + n) 64))
    ∙ length-append (filter p (count_from 0 n)) (filter p (count_from (0 + n) 64))
    ∙ ap (λ (m : ℕ). places_below words i + m)
    (filter_listed p (has (get_or words i 0)) (0 + n) 0 64
    (λ j l. λ k. has (get_or words (quotient j l k) 0) (remainder j l k))))

-- All words have the places of the set.
pub places_all : (words : List ℕ) (i : ℕ) → i ≡ length words → places_below words i ≡ length (places_in words)
unfolding places_in
places_all words i e = ap (places_below words) e

-- Empty words have no place.
pub places_none : places_in (replicate 11 0) ≡ []
unfolding places_in has
places_none = refl
