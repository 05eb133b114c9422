-- The pending test that is asked first, off the plane of those asked before each test, is the first of the order that is pending.
use Prim.Native.Nat.{ℕ, zero, suc, ◌-◌, ◌^◌, ◌≤◌, ◌<◌}
use mathlib.Core.Path.{◌≡◌, refl, sym, ap, ◌∙◌}
use mathlib.Core.Bool.{Bool, true, false, cond, true≢false}
use mathlib.Core.List.{List, [], ◌∷◌}
use mathlib.Core.Logic.{◌⊎◌, inl, inr, by_cases}
use mathlib.Core.Option.{some}
use native.Mathlib.Decide.{ℕ_discrete}
use native.Mathlib.Omega.{arith}
use lib.Bits.{bit_and, and_le_l}
use lib.Count.{count_trailing_zeros}
use borrow.Author.Tests.{ne_eqb}
use Rattle.basics.specs.Lists.{Mem}
use Rattle.basics.proofs.Booleans.{by_test, and_both}
use Rattle.basics.proofs.ListLaws.{mem_cases, mem_none, all_at, all_map}
use Rattle.basics.proofs.Sorted.{AscendingBy}
use Rattle.masks.specs.Mask.{has}
use Rattle.masks.proofs.Membership.{has_and, has_pos}
use Rattle.masks.proofs.Operations.{and_fits}
use Rattle.masks.proofs.LowestMember.{has_rest, trailing_in}
use Rattle.decision.specs.Edges.{first_in}
use Rattle.tables.specs.views.Planes.{before_in, first_from, first_asked_in}
use Rattle.tables.specs.views.Turns.{Asks, Turns}
use Rattle.tables.proofs.AskedFrom.{fewer, from_end, from_next}

-- Of a set, test f is asked before all others.
pub record FirstOf (s : List ℕ) (set f : ℕ) : Type 0 where
  pub pending : has set f ≡ true
  pub none : (u : ℕ) → has set u ≡ true → has (before_in s f) u ≡ false
  pub others : (u : ℕ) → has set u ≡ true → (u ≡ f → ⊥) → has (before_in s u) f ≡ true

-- A set without members is empty.
no_member : (m : ℕ) → m < 2 ^ 64 → ((u : ℕ) → has m u ≡ true → ⊥) → m ≡ 0
no_member m small none =
    by_cases (ℕ_discrete m 0) (λ (e : m ≡ 0). e)
    (λ (d : m ≡ 0 → ⊥). absurd (none (count_trailing_zeros 64 m) (trailing_in 64 m small (omega arith))))

module _ (s : List ℕ) (set f : ℕ) (first : FirstOf s set f) where
  -- From test t on: it is the first and nothing is asked before it, or the first is among those asked before it.
  abbrev Near : ℕ → ℕ → Type 0
  Near t earlier = ((t ≡ f) × (earlier ≡ 0)) ⊎ (has earlier f ≡ true)

  abbrev Within : ℕ → Type 0
  Within earlier = (u : ℕ) → has earlier u ≡ true → has set u ≡ true

  -- With what is pending and asked before a pending test it is so.
  Near-by
      : (t earlier : ℕ) → has set t ≡ true → earlier < 2 ^ 64 → Within earlier → ((t ≡ f → ⊥) → has earlier f ≡ true)
      → Near t (bit_and earlier (before_in s t))
  Near-by t earlier there small within later =
      by_cases (ℕ_discrete t f)
      (λ (e : t ≡ f). inl (
        e,
        no_member (bit_and earlier (before_in s t)) (and_fits 64 earlier (before_in s t) small)
            (λ u h.
            let both = and_both (has earlier u) (has (before_in s t) u) (sym (has_and earlier (before_in s t) u) ∙ h) in
            true≢false (sym both.1 ∙ ap (λ (x : ℕ). has (before_in s x) u) e ∙ first.none u (within u both.0))),
      ))
      (λ (d : t ≡ f → ⊥).
      inr (has_and earlier (before_in s t) f ∙ rw (later d) (first.others t there d)))

  chase
      : (steps t earlier : ℕ) → earlier ≤ steps → earlier < 2 ^ 64 → Within earlier → Near t earlier
      → first_from s steps t earlier ≡ f
  chase zero t earlier few small within near =
      elim near [
        | inl p ↦ from_end s zero t earlier p.1 ∙ p.0
        | inr there ↦ absurd (omega (arith, has_pos earlier f there))
      ]
  chase (suc steps) t earlier few small within near =
      elim near [
        | inl p ↦ from_end s (suc steps) t earlier p.1 ∙ p.0
        | inr there ↦
            let some : 0 < earlier = has_pos earlier f there in
            let v = count_trailing_zeros 64 earlier in
            let rest = bit_and earlier (earlier - 1) in
            let fits = and_fits 64 earlier (earlier - 1) small in
            let inside : Within rest = λ u h.
            within u (and_both (has earlier u) (has (earlier - 1) u) (sym (has_and earlier (earlier - 1) u) ∙ h)).0 in
            from_next s steps t earlier some
            ∙ chase steps v (bit_and rest (before_in s v)) (omega (arith, fewer s earlier (before_in s v) some))
            (and_fits 64 rest (before_in s v) fits)
            (λ u h. inside u (and_both (has rest u) (has (before_in s v) u) (sym (has_and rest (before_in s v) u) ∙ h)).0)
            (Near-by v rest (within v (trailing_in 64 earlier small some)) fits inside
            (λ d. has_rest 64 earlier f small some ∙ rw (there, ne_eqb v f d) refl))
      ]

  pub first_is : set < 2 ^ 64 → first_asked_in s set ≡ f
  first_is small =
      let t = count_trailing_zeros 64 set in
      let some = has_pos set f first.pending in
      chase set t (bit_and set (before_in s t)) (and_le_l set (before_in s t)) (and_fits 64 set (before_in s t) small)
      (λ u h. (and_both (has set u) (has (before_in s t) u) (sym (has_and set (before_in s t) u) ∙ h)).0)
      (Near-by t set (trailing_in 64 set small some) small (λ u h. h) (λ d. first.pending))

-- Of an order in which each is asked before those that follow it, the first that is in a set is asked before all others of it.
order_first
    : (s : List ℕ) (set : ℕ) (order : List ℕ) → Turns s order → (t : ℕ) → has set t ≡ true
    → ((u : ℕ) → has set u ≡ true → Mem u order) → (f : ℕ) × (first_in set order ≡ some f) × FirstOf s set f
order_first s set [] turns t there whole = absurd (mem_none (whole t there))
order_first s set (x ∷ order) turns t there whole =
    by_test (has set x)
    (λ (yes : has set x ≡ true). (
      x,
      ap (λ (b : Bool). cond b (some x) (first_in set order)) yes,
      record {
        pending = yes;
        none = λ u h. elim (mem_cases (whole u h)) [
          | inl e ↦ ap (has (before_in s x)) e ∙ turns.apart.0
          | inr m ↦ (all_at (Asks s x) m turns.ascends.0).1
        ];
        others = λ u h d. elim (mem_cases (whole u h)) [
          | inl e ↦ absurd (d e)
          | inr m ↦ (all_at (Asks s x) m turns.ascends.0).0
        ];
      },
    ))
    (λ (no : has set x ≡ false).
    let (f, is, first) =
    order_first s set order (record { apart = turns.apart.1; ascends = turns.ascends.1 }) t there
    (λ u h. elim (mem_cases (whole u h)) [
      | inl e ↦ absurd (true≢false (sym h ∙ ap (has set) e ∙ no))
      | inr m ↦ m
    ]) in
    (f, ap (λ (b : Bool). cond b (some x) (first_in set order)) no ∙ is, first))

-- "Otherwise it asks the lowest pending test", or the first by a table: the pending test that is asked first.
pub first_asked
    : (s order : List ℕ) (set : ℕ) → Turns s order → set < 2 ^ 64 → (set ≡ 0 → ⊥)
    → ((u : ℕ) → has set u ≡ true → Mem u order) → first_in set order ≡ some (first_asked_in s set)
first_asked s order set turns small pending whole =
    let (f, is, first) =
    order_first s set order turns (count_trailing_zeros 64 set) (trailing_in 64 set small (omega arith)) whole in
    is ∙ ap some (sym (first_is s set f first small))

-- Tables with the same plane ask in the same order.
pub same_turns
    : {s u order : List ℕ} → ((t : ℕ) → before_in u t ≡ before_in s t) → Turns s order → Turns u order
same_turns {s} {u} {order} same turns = record {
  apart = all_map (λ (t : ℕ). has (before_in s t) t ≡ false) (λ (t : ℕ). has (before_in u t) t ≡ false)
      (λ t h. ap (λ (m : ℕ). has m t) (same t) ∙ h) order turns.apart;
  ascends = go order turns.ascends;
}
  where
    go : (l : List ℕ) → AscendingBy (Asks s) l → AscendingBy (Asks u) l
    go [] up = tt
    go (t ∷ l) up = (
      all_map (Asks s t) (Asks u t)
          (λ v h. (ap (λ (m : ℕ). has m t) (same v) ∙ h.0, ap (λ (m : ℕ). has m v) (same t) ∙ h.1)) l up.0,
      go l up.1,
    )
