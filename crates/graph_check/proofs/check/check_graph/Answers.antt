-- The values of the header are those of the check.
use mathlib.Core.Path.{sym, ap, ◌∙◌}
use lib.ListN.{length}
use Rattle.std.proofs.lemmas.Result.{err_from_is_err_and}
use Rattle.graph_check.proofs.Headers.{fields_values, values_same}
use Rattle.graph_check.specs.views.Header.{fields_read}
use Rattle.graph_check.proofs.check.check_graph.Goals as goal

pub returns-in_err-header : goal.returns-in_err-header
returns-in_err-header c =
    let s = c.args.sheet.now in
    let g = c.args.graph.now in
    let p = err_from_is_err_and c.from_residual.result c.from_residual.ensures.1 in
    rw (p.1, p.2)
    (ap fields_values (sym (ap (fields_read (length g)) c.in_err-header.was) ∙ c.graph_header.ensures) ∙ values_same s g)

pub returns : goal.returns
returns c =
    let s = c.args.sheet.now in
    let g = c.args.graph.now in
    ap fields_values (sym (ap (fields_read (length g)) c.in_ok-header.was) ∙ c.graph_header.ensures) ∙ values_same s g
