-- A loop over the records: what is left, written behind what was written, makes the whole.
use mathlib.Core.Path.{◌≡◌}
use Prim.Native.Nat.{◌+◌, ◌≤◌}
use lib.ListN.{length}
use Rattle.records.specs.Writing.{splice}
use Rattle.rule_rows.specs.views.Row.{records_from, Going}
use Rattle.tidy_rows.specs.views.TidyRow.{tidy_onward}
use Rattle.tidy_rows.proofs.RowSteps.{end_from}
use Rattle.tidy_rows.proofs.rules.put_rule.Given as goal

abbrev pub invariant-loop-next : goal.invariant-loop-next
invariant-loop-next l =
    Going l.s l.row × (l.count + l.row.most ≤ 680) × (length l.words ≡ 16) × (length l.buf ≡ length l.initial.buf)
    × (end_from l.s l.row ≡ end_from l.s l.initial.row)
    × (l.end + length (tidy_onward (record { words = l.words; count = l.count }) (records_from l.s l.row))
    ≡ l.to + length (tidy_onward (record { words = l.initial.words; count = 0 }) (records_from l.s l.initial.row)))
    × (splice l.buf l.end (tidy_onward (record { words = l.words; count = l.count }) (records_from l.s l.row))
    ≡ splice l.initial.buf l.to (tidy_onward (record { words = l.initial.words; count = 0 }) (records_from l.s l.initial.row)))

abbrev pub decreases-loop-next : goal.decreases-loop-next
decreases-loop-next l =
    l.row.most
