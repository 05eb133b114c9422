-- A loop over the rules: those passed are in the tables and the cuts.
use Prim.Native.Nat.{◌≤◌}
use mathlib.Core.Path.{◌≡◌}
use lib.ListN.{length}
use Rattle.tables.specs.views.Planes.{rules_in}
use Rattle.compiled.proofs.RulesTabled.{Tabling}
use Rattle.compiled.proofs.rules.table_rules.Given as goal

abbrev pub invariant-loop-i : goal.invariant-loop-i
invariant-loop-i l =
    (l.i ≤ rules_in l.initial.s) × (l.at ≤ length l.b) × (length l.notes ≡ 680) × Tabling l.arity l.b l.numbers l.initial.s l.initial.c l.i l.at l.s l.c
