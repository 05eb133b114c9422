-- Laws of looking at a place: the steps of the climb from place to parent up to the nearest cell, and what that hides.
use Prim.Native.Nat.{ℕ, zero, suc, ◌-◌, ◌≤◌, ◌<◌}
use mathlib.Core.Path.{◌≡◌, refl, ap, sym, ◌∙◌}
use mathlib.Core.Bool.{Bool, true, false, cond}
use mathlib.Core.List.{List}
use mathlib.Core.Logic.{◌⊎◌, inl, inr, ⊎_elim}
use native.Mathlib.Omega.{arith}
use lib.ListN.{get_or}
use lib.Dec.{eqb}
use borrow.Author.Tests.{eq-eqb, ne_eqb, eqb-true, eqb-false}
use Rattle.places.specs.Numbering.{parent_at}
use Rattle.places.proofs.Parents.{parent_before}
use Rattle.codes.specs.views.Codes.{unknown_run, never_code}
use Rattle.outcomes.specs.views.Look.{nearest_cell, hidden_below, look}
use Rattle.outcomes.proofs.TwoTests.{one_of}

-- No place is looked at.
pub none_left : (k : ℕ) (cells : List ℕ) (p : ℕ) → k ≡ 0 → nearest_cell k cells p ≡ 0
none_left k cells p none = rw none

-- There is no place above an argument.
pub no_parent : (k : ℕ) (cells : List ℕ) (p : ℕ) → p ≡ 680 → nearest_cell k cells p ≡ 0
no_parent zero cells p top = refl
no_parent (suc k) cells p top = rw (eq-eqb p 680 top)

module _ (k : ℕ) (cells : List ℕ) (p : ℕ) (some : 0 < k) (place : p ≡ 680 → ⊥) where
  -- One more place is looked at.
  climb : nearest_cell k cells p ≡ nearest_cell (suc (k - 1)) cells p
  climb = let counted : k ≡ suc (k - 1) = omega arith in ap (λ (j : ℕ). nearest_cell j cells p) counted

  -- The place has a cell.
  pub has_cell : (get_or cells p 0 ≡ 0 → ⊥) → nearest_cell k cells p ≡ get_or cells p 0
  has_cell full = climb ∙ (rw (ne_eqb p 680 place, ne_eqb (get_or cells p 0) 0 full))

  -- It has none, so the places above it are looked at.
  pub has_none : get_or cells p 0 ≡ 0 → nearest_cell k cells p ≡ nearest_cell (k - 1) cells (parent_at p)
  has_none empty = climb ∙ (rw (ne_eqb p 680 place, eq-eqb (get_or cells p 0) 0 empty))

-- A place's parent is a place or 680.
pub parent_most : (p : ℕ) → p ≤ 680 → parent_at p ≤ 680
parent_most p h = go (eqb (parent_at p) 680) (eqb-true (parent_at p) 680) (eqb-false (parent_at p) 680)
  where
    go : (b : Bool) → (b ≡ true → parent_at p ≡ 680) → (b ≡ false → parent_at p ≡ 680 → ⊥) → parent_at p ≤ 680
    go true top below = omega (arith, top refl)
    go false top below = omega (arith, parent_before p (below refl))

module _ (run : ℕ) where
  -- An unknown's run and record 35's hide what is below them,
  pub hides_itself : (run ≡ unknown_run) ⊎ (eqb run never_code ≡ true) → hidden_below run ≡ run
  hides_itself h =
      ap (λ b. cond b run 0)
      (one_of (eqb run unknown_run) (eqb run never_code) (⊎_elim (λ e. inl (eq-eqb run unknown_run e)) (λ e. inr e) h))

  -- and no other run does.
  pub hides_nothing : (run ≡ unknown_run → ⊥) → eqb run never_code ≡ false → hidden_below run ≡ 0
  hides_nothing other n = rw (ne_eqb run unknown_run other, n)

-- Where a place has no cell, what the nearest cell above hides stands there.
pub looked_above
    : (cells : List ℕ) (p : ℕ) {up above : ℕ} → get_or cells p 0 ≡ 0 → up ≡ parent_at p → above ≡ nearest_cell 3 cells up
    → look cells p ≡ hidden_below above
looked_above cells p none parent nearest =
    (rw (eq-eqb (get_or cells p 0) 0 none)) ∙ ap (λ q. hidden_below (nearest_cell 3 cells q)) (sym parent)
    ∙ ap hidden_below (sym nearest)
