-- The children of a place, and the arguments, are a row of places as many apart; the turns of the loops over such a row.
use Prim.Native.Nat.{ℕ, min, suc, pred, ◌+◌, ◌*◌, ◌-◌, ◌≤◌, ◌<◌}
use mathlib.Core.Path.{◌≡◌, refl, sym, ap, subst, ◌∙◌}
use mathlib.Core.Logic.{inl, inr, by_cases}
use mathlib.Core.List.{List}
use native.Mathlib.Decide.{ℕ_discrete}
use native.Mathlib.Omega.{arith}
use lib.ListN.{length, get_or, set, length-set}
use lib.Seq.{get_or-set_same, get_or-set_other}
use Rattle.places.specs.Numbering.{parent_at, depth_at, levels_at, stride, child_place}
use Rattle.places.proofs.Below.{at_or_below_parent, at_or_below_range}
use Rattle.places.proofs.Levels.{levels_range, levels_fit_row}
use Rattle.places.proofs.Parents.{parent_first_of, parent_before, parent_of_child_place, child_of_parent, argument_without_parent}
use Rattle.track.specs.views.Front.{position_key, Opened, LeastOf, LeastBelow}

-- The lesser of the least so far and of the next key is the least then.
pub least_next
    : (keys : List ℕ) (from step i best m : ℕ) → LeastOf keys from step i best → m ≡ min best (get_or keys (from + i * step) 0)
    → LeastOf keys from step (i + 1) m
least_next keys from step i best m l is = record {
  low = λ k h.
      by_cases (ℕ_discrete k i) (λ (e : k ≡ i). omega (arith, is, ap (λ (x : ℕ). get_or keys (from + x * step) 0) e))
      (λ (d : k ≡ i → ⊥). omega (arith, is, l.low k (omega arith)));
  met = by_cases (ℕ_discrete m best)
      (λ (e : m ≡ best). elim l.met [
        | inl none ↦ inl (e ∙ none)
        | inr at ↦ inr (at.0, omega (arith, at.1), e ∙ at.2)
      ])
      (λ (d : m ≡ best → ⊥). inr (i, omega arith, omega (arith, is)));
}

-- The places that have p as their parent, 680 for the arguments, are a row.
pub record Row (p from step n : ℕ) : Type 0 where
  pub inside : (i : ℕ) → i < n → from + i * step < 680
  pub parent : (i : ℕ) → i < n → parent_at (from + i * step) ≡ p
  pub found : (q : ℕ) → q < 680 → parent_at q ≡ p → (i : ℕ) × (i < n) × (q ≡ from + i * step)

pub arguments : Row 680 0 85 8
arguments = record {
  inside = λ i h. omega arith;
  parent = λ i h. let place : 0 + i * 85 ≡ i * 85 = omega arith in ap parent_at place ∙ parent_first_of 4 680 0 i;
  found = λ q h e. let a = argument_without_parent q h e in (a.0 - 1, omega (arith, a.1, a.2), omega (arith, a.1, a.3));
}

-- A child stands within the places that its parent has, and is one deeper.
pub child_within : (p q : ℕ) → p < 680 → parent_at q ≡ p → (p < q) × (q < p + stride (levels_at p)) × (depth_at q ≡ depth_at p + 1)
child_within p q inside e =
    let has : parent_at q ≡ 680 → ⊥ = λ t. omega (arith, t, e, inside) in
    let range = (at_or_below_range (parent_at q) q).0 (at_or_below_parent q has) in
    let levels = (child_of_parent q has).levels ∙ refl in (
      omega (arith, parent_before q has, e),
      subst (λ (x : ℕ). q < x + stride (levels_at x)) e range.1,
      omega (arith, levels, ap levels_at e, levels_range 4 q (omega arith), levels_range 4 p (omega arith)),
    )

pub children : (p depth step : ℕ) → p < 680 → depth ≡ depth_at p → depth ≤ 3 → step ≡ stride (4 - depth) → Row p (p + 1) step 4
children p depth step inside is some size = record {
  inside = λ i h. omega (arith, (child_within p (p + 1 + i * step) inside (parent i h)).1, levels_fit_row 4 p 8 inside);
  parent = parent;
  found = λ q h e.
      let has : parent_at q ≡ 680 → ⊥ = λ t. omega (arith, t, e, inside) in
      let c = child_of_parent q has in (
        c.j - 1,
        omega (arith, c.from, c.to),
        c.place
            ∙ ap (λ (x : ℕ). child_place (levels_at x) x c.j) e
            ∙ ap (λ (s : ℕ). p + 1 + (c.j - 1) * s) (sym step_is),
      );
}
  where
    levels : levels_at p ≡ suc (4 - depth)
    levels = omega (arith, is, levels_range 4 p (omega arith))

    step_is : step ≡ stride (pred (levels_at p))
    step_is = size ∙ ap (λ (r : ℕ). stride (pred r)) (sym levels)

    parent : (i : ℕ) → i < 4 → parent_at (p + 1 + i * step) ≡ p
    parent i h =
        let less : i ≡ i + 1 - 1 = omega arith in
        ap parent_at ((λ j. p + 1 + less j * size j))
        ∙ parent_of_child_place (4 - depth) p (i + 1) levels (omega arith) (omega arith) (omega arith)

-- A place at the deepest depth has no children.
pub no_children : (p : ℕ) → p < 680 → depth_at p ≡ 4 → (q : ℕ) → parent_at q ≡ p → ⊥
no_children p inside deep q e =
    omega (arith, (child_within p q inside e).2, deep, levels_range 4 q (omega arith))

pub below_none : (keys : List ℕ) (p : ℕ) → ((q : ℕ) → parent_at q ≡ p → ⊥) → LeastBelow keys p 67108864
below_none keys p none = record { low = λ q h e. absurd (none q e); met = inl refl }

-- The least of a row is the least of those places,
pub least_below
    : {keys : List ℕ} {p from step n m : ℕ} → Row p from step n → LeastOf keys from step n m → LeastBelow keys p m
least_below {keys} {p} {from} {step} r l = record {
  low = λ q h e. let i = r.found q h e in omega (arith, l.low i.0 i.1, ap (λ (x : ℕ). get_or keys x 0) i.2);
  met = elim l.met [
    | inl m ↦ inl m
    | inr m ↦ inr (from + m.0 * step, r.inside m.0 m.1, r.parent m.0 m.1, m.2)
  ];
}

-- they get their keys where the row does,
pub opened_children
    : {positions keys after : List ℕ} {p from step n : ℕ} → Row p from step n → Opened positions from step n keys after
    → (q : ℕ) → q < 680 → parent_at q ≡ p → get_or after q 0 ≡ position_key positions q
opened_children {positions} {keys} {after} r o q h e =
    let i = r.found q h e in
    ap (λ (x : ℕ). get_or after x 0) i.2 ∙ o.row i.0 i.1 ∙ ap (position_key positions) (sym i.2)

-- and any other place keeps its own.
pub opened_others
    : {positions keys after : List ℕ} {p from step n : ℕ} → Row p from step n → Opened positions from step n keys after
    → (q : ℕ) → (parent_at q ≡ p → ⊥) → get_or after q 0 ≡ get_or keys q 0
opened_others r o q d = o.others q (λ i h e. d (ap parent_at e ∙ r.parent i h))
