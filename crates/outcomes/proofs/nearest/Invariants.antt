-- `nearest` meets its contract: what is left of the climb gives the same answer.
use Prim.Native.Nat.{◌-◌, ◌≤◌}
use mathlib.Core.Path.{◌≡◌}
use Rattle.outcomes.specs.views.Look.{nearest_cell}
use Rattle.outcomes.proofs.nearest.Given as goal

abbrev pub invariant-loop : goal.invariant-loop
invariant-loop l = (l.place ≤ 680) × (nearest_cell 3 l.cells l.p ≡ nearest_cell (3 - l.counter) l.cells l.place)
