-- Where there is no note, nothing is gathered.
use Rattle.std.proofs.Common.{List, sym, ap, ◌∙◌}
use Rattle.patterns.specs.views.Note.{Note}
use Rattle.sheet.specs.views.NoteArray.{notes_in}
use Rattle.sheet.proofs.NoteArrays.{notes_none}
use Rattle.sheet_tests.specs.views.Gathered.{gather_notes, held}
use Rattle.sheet_tests.proofs.sheets.gather_rule.Goals as goal

pub returns-then-n-eq0-clause-result_after : goal.returns-then-n-eq0-clause-result_after
returns-then-n-eq0-clause-result_after c =
    let notes = c.args.notes.now in
    sym (ap (λ (ns : List Note). gather_notes ns (held c.args.words.now c.args.codes.now c.args.count))
    (ap (notes_in notes) c.if-n-eq0.true ∙ notes_none notes))
