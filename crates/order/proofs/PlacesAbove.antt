-- A table in which no place stands before its parent has none before a place above it.
use Prim.Native.Nat.{ℕ, ◌<◌}
use mathlib.Core.Path.{◌≡◌, refl, sym, subst}
use mathlib.Core.Bool.{true, not}
use mathlib.Core.Logic.{◌⊎◌, inl, inr, by_cases}
use mathlib.Core.List.{List, [], ◌∷◌}
use native.Mathlib.Decide.{ℕ_discrete}
use native.Mathlib.Omega.{arith}
use lib.Dec.{T, T_not, eqb}
use lib.ListN.{length}
use Rattle.basics.specs.Lists.{Mem, here, there, All, any_of}
use Rattle.basics.proofs.Booleans.{and_both, is_true, true_is}
use Rattle.basics.proofs.ListLaws.{mem_cases, mem_none, all_from, all_at}
use Rattle.places.specs.Numbering.{parent_at, at_or_below}
use Rattle.places.proofs.Parents.{parent_before}
use Rattle.places.proofs.Below.{at_or_below_range, below_parent, not_above_end}
use Rattle.decision.proofs.keys.OrderByPlaces.{Apart, Above, AboveFirst}
use Rattle.order.specs.Table.{each_once, parents_first}
use Rattle.order.proofs.EveryPlace.{mem_found, once_below, once_apart, every_place}

-- A table that is read up to some place: those seen and those still to come are all places, each once.
pub record Midway (seen places : List ℕ) : Type 0 where
  pub whole : (p : ℕ) → p < 680 → Mem p seen ⊎ Mem p places
  pub parted : (p : ℕ) → Mem p seen → Mem p places → ⊥
  pub below : All (λ (p : ℕ). p < 680) places
  pub apart : Apart places

pub midway_start : (places : List ℕ) → each_once places ≡ true → length places ≡ 680 → Midway [] places
midway_start places once size = record {
  whole = λ p inside. inr (every_place places once size p inside);
  parted = λ p m k. mem_none m;
  below = once_below places once;
  apart = once_apart places once;
}

module _ {seen : List ℕ} {p : ℕ} {places : List ℕ} (m : Midway seen (p ∷ places)) where
  -- The next place does not come again.
  not_again : Mem p places → ⊥
  not_again k = all_at (λ (q : ℕ). p ≡ q → ⊥) k m.apart.0 refl

  pub midway_next : Midway (p ∷ seen) places
  midway_next = record {
    whole = λ q inside. elim (m.whole q inside) [
      | inl k ↦ inl (there k)
      | inr k ↦ elim (mem_cases k) [
        | inl e ↦ inl (subst (λ (x : ℕ). Mem x (p ∷ seen)) (sym e) here)
        | inr n ↦ inr n
      ]
    ];
    parted = λ q k n. elim (mem_cases k) [
      | inl e ↦ not_again (subst (λ (x : ℕ). Mem x places) e n)
      | inr l ↦ m.parted q l (there n)
    ];
    below = m.below.1;
    apart = m.apart.1;
  }

  -- A place that has a parent has it seen exactly if it is not still to come.
  pub parent_seen : (parent_at p ≡ 680 → ⊥) → (Mem (parent_at p) places → ⊥) → Mem (parent_at p) seen
  parent_seen has gone =
      let earlier = parent_before p has in
      let inside = m.below.0 in
      elim (m.whole (parent_at p) (omega arith)) [
        | inl k ↦ k
        | inr k ↦ elim (mem_cases k) [ inl e ↦ absurd (omega arith) | inr n ↦ absurd (gone n) ]
      ]

-- With each place all places at or above it were seen.
abbrev Closed : List ℕ → Type 0
Closed seen = (p r : ℕ) → Mem p seen → r < 680 → T (at_or_below r p) → Mem r seen

module _ {seen : List ℕ} {p : ℕ} {places : List ℕ} (m : Midway seen (p ∷ places)) (closed : Closed seen)
    (gone : Mem (parent_at p) places → ⊥) where
  -- The places above the next one were seen,
  above_seen : (r : ℕ) → r < 680 → Above p r → Mem r seen
  above_seen r inside above =
      let at-parent = (below_parent r p inside).0 (above.0, true_is (at_or_below r p) above.1) in
      let has = not_above_end r (parent_at p) inside at-parent in
      closed (parent_at p) r (parent_seen m has gone) inside (is_true at-parent)

  -- and so with the next one too all places at or above it.
  closed_next : Closed (p ∷ seen)
  closed_next q r k inside above =
      elim (mem_cases k) [
        | inl e ↦
            let above-p = subst (λ (x : ℕ). T (at_or_below r x)) e above in
            let range = (at_or_below_range r p).0 (true_is (at_or_below r p) above-p) in
            by_cases (ℕ_discrete r p)
            (λ (same : r ≡ p). subst (λ (x : ℕ). Mem x (p ∷ seen)) (sym same) here)
            (λ (other : r ≡ p → ⊥). there (above_seen r inside (omega arith, above-p)))
        | inr l ↦ there (closed q r l inside above)
      ]

from_here
    : (seen places : List ℕ) → Midway seen places → Closed seen → parents_first places ≡ true → AboveFirst places
from_here seen [] m closed e = tt
from_here seen (p ∷ places) m closed e =
    let both = and_both (not (any_of (eqb (parent_at p)) places)) (parents_first places) e in
    let gone : Mem (parent_at p) places → ⊥ =
    λ k. T_not (any_of (eqb (parent_at p)) places) (is_true both.0) (mem_found (parent_at p) k) in (
      all_from (λ (r : ℕ). Above p r → ⊥) places
          (λ r k above. m.parted r (above_seen m closed gone r (all_at (λ (x : ℕ). x < 680) k m.below.1) above) (there k)),
      from_here (p ∷ seen) places (midway_next m) (closed_next m closed gone) both.1,
    )

pub above_first
    : (places : List ℕ) → each_once places ≡ true → length places ≡ 680 → parents_first places ≡ true → AboveFirst places
above_first places once size first =
    from_here [] places (midway_start places once size) (λ p r m. absurd (mem_none m)) first
