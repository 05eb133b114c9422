-- The test of a symbol, a series, a range or a compound, by the kind of the record.
use mathlib.Core.Path.{sym, ap, ◌∙◌}
use Rattle.outcomes.specs.views.CellOutcome.{place_cells}
use Rattle.plain.specs.views.NotesOutcome.{fixed_outcome}
use Rattle.plain.proofs.rule.fixed_outcome.Goals as goal

pub returns-in-Symbol : goal.returns-in-Symbol
returns-in-Symbol c =
    let a = c.args in
    let cells = c.args.cells.now in
    c.place_outcome.ensures
    ∙ (λ j. place_cells cells a.place (c.symbol_code-code.ensures j) (c.symbol_code-code.ensures j))
    ∙ ap (fixed_outcome cells a.place) (sym c.in-Symbol.is)

pub returns-in-Range : goal.returns-in-Range
returns-in-Range c =
    let a = c.args in
    let cells = c.args.cells.now in
    c.place_outcome-in-Range.ensures
    ∙ (λ j. place_cells cells a.place (c.number_code.ensures j) (c.number_code-in-Range.ensures j))
    ∙ ap (fixed_outcome cells a.place) (sym c.in-Range.is)

pub returns-in-Compound : goal.returns-in-Compound
returns-in-Compound c =
    let a = c.args in
    let cells = c.args.cells.now in
    c.place_outcome-in-Compound.ensures
    ∙ (λ j. place_cells cells a.place (c.compound_code-code.ensures j) (c.compound_code-code.ensures j))
    ∙ ap (fixed_outcome cells a.place) (sym c.in-Compound.is)

pub returns-in-Series : goal.returns-in-Series
returns-in-Series c =
    let a = c.args in
    let cells = c.args.cells.now in
    c.place_outcome-in-Series.ensures
    ∙ (λ j. place_cells cells a.place (c.symbol_code.ensures j) (c.symbol_code-in-Series.ensures j))
    ∙ ap (fixed_outcome cells a.place) (sym c.in-Series.is)

pub returns-in-Gauged : goal.returns-in-Gauged
returns-in-Gauged c =
    let a = c.args in
    let cells = c.args.cells.now in
    c.place_outcome-in-Gauged.ensures
    ∙ (λ j. place_cells cells a.place (c.gauged_code.ensures j) (c.gauged_code-in-Gauged.ensures j))
    ∙ ap (fixed_outcome cells a.place) (sym c.in-Gauged.is)
