-- A loop over the rules: those left, written behind what was written, make the whole.
use Prim.Native.Nat.{◌+◌, ◌≤◌}
use mathlib.Core.Path.{◌≡◌}
use lib.ListN.{length, drop}
use Rattle.records.specs.Writing.{splice}
use Rattle.tidying.specs.views.TidyRows.{tidy_rows}
use Rattle.tidying.proofs.RuleTurns.{rows_from}
use Rattle.tidying.proofs.sheets.put_rules.Given as goal

abbrev pub invariant-loop : goal.invariant-loop
invariant-loop l =
    (l.at ≤ length l.s) × (length l.buf ≡ length l.initial.buf)
    × (l.end + length (rows_from l.arity l.rules l.s l.counter l.at) ≡ l.start + length (tidy_rows l.arity l.rules (drop 3 l.s)))
    × (splice l.buf l.end (rows_from l.arity l.rules l.s l.counter l.at)
    ≡ splice l.initial.buf l.start (tidy_rows l.arity l.rules (drop 3 l.s)))
