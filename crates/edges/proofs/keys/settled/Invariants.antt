-- `edges::keys::settled` meets its contract. The loop's invariant: of the live rules, those are kept that have none of the tests
-- passed.
use Prim.Native.Nat.{ℕ}
use mathlib.Core.Bool.{Bool}
use mathlib.Core.List.{List}
use Rattle.masks.specs.Mask.{has}
use Rattle.tables.specs.views.Planes.{column_in}
use Rattle.edges.proofs.Dropping.{Dropping}
use Rattle.edges.proofs.keys.settled.Given as goal

-- rule i has test t
abbrev pub in_column : List ℕ → ℕ → ℕ → Bool
in_column s t i = has (column_in s t) i

abbrev pub invariant-loop-to_come : goal.invariant-loop-to_come
invariant-loop-to_come l = Dropping 64 (in_column l.s) l.live l.left l.all l.to_come

abbrev pub decreases-loop-to_come : goal.decreases-loop-to_come
decreases-loop-to_come l = l.to_come
