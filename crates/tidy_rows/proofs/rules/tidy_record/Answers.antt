-- Only a series' record, that of a range on a gauge and a variable's change.
use mathlib.Core.Path.{sym, ap, ◌∙◌}
use Rattle.tidy_rows.specs.views.TidyRow.{tidy_in}
use Rattle.tidy_rows.proofs.rules.tidy_record.Goals as goal

pub returns-in-Series : goal.returns-in-Series
returns-in-Series c =
    let words = c.args.words.now in
    c.tidy_series.ensures ∙ ap (tidy_in words) (sym c.in-Series.is)

pub returns-in-Gauged : goal.returns-in-Gauged
returns-in-Gauged c =
    let words = c.args.words.now in
    c.tidy_gauged.ensures ∙ ap (tidy_in words) (sym c.in-Gauged.is)

pub returns-in-Variable : goal.returns-in-Variable
returns-in-Variable c =
    let words = c.args.words.now in
    c.tidy_variable.ensures ∙ ap (tidy_in words) (sym c.in-Variable.is)

pub returns-in-Ranged : goal.returns-in-Ranged
returns-in-Ranged c =
    let words = c.args.words.now in
    c.tidy_variable-in-Ranged.ensures ∙ ap (tidy_in words) (sym c.in-Ranged.is)
