-- A test where the high end is a number of a wide field.
use mathlib.Core.Path.{sym, ap, ◌∙◌}
use mathlib.Core.Bool.{Bool}
use borrow.Author.Tests.{le-leb, lt-leb}
use Rattle.codes.specs.views.Codes.{number_code}
use Rattle.outcomes.specs.views.CellOutcome.{place_cells}
use Rattle.plain.specs.views.NotesOutcome.{tested_if}
use Rattle.plain.proofs.rule.range_outcome.Goals as goal

pub returns-then-high-gt65535 : goal.returns-then-high-gt65535
returns-then-high-gt65535 c =
    let a = c.args in
    let test = place_cells a.cells.now a.place (number_code a.low) (number_code a.high) in
    sym (ap (λ (b : Bool). tested_if b test) (lt-leb a.high 65535 c.if-high-gt65535.true))

pub returns : goal.returns
returns c =
    let a = c.args in
    let test = place_cells a.cells.now a.place (number_code a.low) (number_code a.high) in
    c.place_outcome.ensures
    ∙ (λ j. place_cells a.cells.now a.place (c.number_code.ensures j) (c.number_code-2.ensures j))
    ∙ sym (ap (λ (b : Bool). tested_if b test) (le-leb a.high 65535 c.if-high-gt65535.false))
