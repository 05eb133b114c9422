-- A loop over the records: what is known, with the records left, is what is known at the end.
use mathlib.Core.Path.{◌≡◌}
use lib.ListN.{length}
use Rattle.rule_rows.specs.views.Row.{records_from, Going}
use Rattle.rule_rows.specs.views.Words.{met_records}
use Rattle.rule_rows.proofs.words.meet_row.Given as goal

abbrev pub invariant-loop-next : goal.invariant-loop-next
invariant-loop-next l =
    Going l.s l.row × (length l.words ≡ 16) × (met_records l.words (records_from l.s l.row) ≡ met_records l.initial.words (records_from l.s l.initial.row))

abbrev pub decreases-loop-next : goal.decreases-loop-next
decreases-loop-next l =
    l.row.most
