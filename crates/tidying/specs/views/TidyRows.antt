-- The tidy forms of rules one behind another.
use Rattle.std.specs.Prelude.{ℕ, zero, suc, List, [], ◌++◌, length, drop}
use Rattle.patterns.specs.views.PatternRecord.{records_spelling}
use Rattle.rule_rows.specs.views.Row.{rule_records}
use Rattle.tidy_rows.specs.views.TidyRow.{tidy_row}

-- Those of so many rules that bytes begin with.
unfoldable pub tidy_rows : ℕ → ℕ → List ℕ → List ℕ
tidy_rows arity zero s = []
tidy_rows arity (suc rules) s =
    tidy_row (rule_records arity s) ++ tidy_rows arity rules (drop (length (records_spelling (rule_records arity s))) s)
