-- Laws of the equality test at two places, by their runs.
use Prim.Native.Nat.{ℕ, zero, suc, pred, ◌-◌, ◌≤◌, ◌<◌}
use mathlib.Core.Path.{◌≡◌, ap}
use mathlib.Core.Bool.{true, false, ◌||◌}
use mathlib.Core.List.{List}
use mathlib.Core.Logic.{◌⊎◌}
use native.Mathlib.Omega.{arith}
use lib.Dec.{eqb}
use lib.ListN.{get_or}
use Rattle.places.specs.Numbering.{stride, levels_at, depth_at, parent_at}
use Rattle.places.proofs.Levels.{levels_range, levels_fit_row}
use Rattle.terms.specs.Outcome.{Outcome, contradicted}
use Rattle.basics.proofs.Booleans.{cond_holds}
use Rattle.codes.specs.views.Codes.{unknown_run, never_code}
use Rattle.outcomes.specs.views.Look.{nearest_cell, hidden_below, look}
use Rattle.outcomes.specs.views.CompareCells.{NarrowRun, Narrow, Inside}
use Rattle.outcomes.specs.views.CellOutcome.{runs_outcome}
use Rattle.outcomes.proofs.TwoTests.{one_is, none_is}

module _ (a b : ℕ) (compared : Outcome) where
  -- A test at a place that the piece lacks is contradicted.
  pub one_lacking : (a ≡ 0) ⊎ (eqb b 0 ≡ true) → contradicted ≡ runs_outcome a b compared
  one_lacking h = rw (one_is a b 0 h)

  -- Else the terms are compared.
  pub both_there : (a ≡ 0 → ⊥) → eqb b 0 ≡ false → runs_outcome a b compared ≡ compared
  both_there there there-b = rw (none_is a b 0 there there-b)

-- No compound has more than 4 arguments in the nearest cell,
nearest_narrow : (k : ℕ) (cells : List ℕ) (p : ℕ) → Narrow cells → NarrowRun (nearest_cell k cells p)
nearest_narrow zero cells p narrow = λ h. absurd h
nearest_narrow (suc k) cells p narrow =
    cond_holds NarrowRun (eqb p 680) 0 _ (λ h. absurd h)
    (cond_holds NarrowRun (eqb (get_or cells p 0) 0) (nearest_cell k cells (parent_at p)) (get_or cells p 0)
    (nearest_narrow k cells (parent_at p) narrow) (narrow p))

-- and so where a cell is looked at, or what is hidden there.
pub look_narrow : (cells : List ℕ) (p : ℕ) → Narrow cells → NarrowRun (look cells p)
look_narrow cells p narrow =
    cond_holds NarrowRun (eqb (get_or cells p 0) 0) (hidden_below above) (get_or cells p 0)
    (cond_holds NarrowRun (eqb above unknown_run || eqb above never_code) above 0 (nearest_narrow 3 cells (parent_at p) narrow)
    (λ h. absurd h))
    (narrow p)
  where
    above : ℕ
    above = nearest_cell 3 cells (parent_at p)

module _ (p d : ℕ) (depth : d ≡ depth_at p) where
  -- A place at depth d has 4 - d levels below it.
  pub levels_below : (d ≤ 4) × (4 - d < 4) × (4 - d ≡ pred (levels_at p))
  levels_below = let range = levels_range 4 p (omega arith) in (omega arith, omega arith, omega arith)

  -- It and the places below it are among the 680.
  pub place_inside : p < 680 → Inside (4 - d) 1 p
  place_inside inside =
      let range = levels_range 4 p (omega arith) in
      let levels : suc (4 - d) ≡ levels_at p = omega arith in
      record { levels = omega arith; places = omega (arith, levels_fit_row 4 p 8 inside, ap stride levels) }
