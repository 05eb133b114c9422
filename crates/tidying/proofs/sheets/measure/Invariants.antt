-- A loop over the rules: what is measured, with those left, is the whole.
use mathlib.Core.Path.{◌≡◌}
use Prim.Native.Nat.{◌+◌, ◌*◌, ◌≤◌}
use lib.ListN.{length, drop}
use Rattle.tidying.proofs.RuleTurns.{rows_from}
use Rattle.tidying.specs.views.TidyRows.{tidy_rows}
use Rattle.tidying.proofs.sheets.measure.Given as goal

abbrev pub invariant-loop : goal.invariant-loop
invariant-loop l =
    (l.at ≤ length l.s) × (l.size ≤ 3 + 4080 * l.counter)
    × (l.size + length (rows_from l.arity l.rules l.s l.counter l.at) ≡ 3 + length (tidy_rows l.arity l.rules (drop 3 l.s)))
