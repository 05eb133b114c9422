-- A loop over the records: what is measured, with what is left, is the whole.
use mathlib.Core.Path.{◌≡◌}
use Prim.Native.Nat.{◌+◌, ◌*◌, ◌≤◌}
use Rattle.tidy_rows.proofs.RowSteps.{end_from, size_from}
use Rattle.rule_rows.specs.views.Row.{Going}
use Rattle.tidy_rows.proofs.rules.measure_rule.Given as goal

abbrev pub invariant-loop-next : goal.invariant-loop-next
invariant-loop-next l =
    Going l.s l.row × (l.size + 6 * l.row.most ≤ 4080) × (end_from l.s l.row ≡ end_from l.s l.initial.row)
    × (l.size + size_from l.words l.s l.row ≡ size_from l.words l.s l.initial.row)

abbrev pub decreases-loop-next : goal.decreases-loop-next
decreases-loop-next l =
    l.row.most
