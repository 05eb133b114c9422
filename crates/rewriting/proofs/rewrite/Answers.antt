-- The questions of the check, then 19; then the graph is written.
use mathlib.Core.Path.{◌≡◌, sym, ap, ◌∙◌}
use native.Mathlib.Omega.{arith}
use lib.ListN.{length}
use Rattle.records.proofs.ByteLists.{bytes_all}
use Rattle.std.proofs.lemmas.Result.{err_from_is_err_and}
use Rattle.graph_check.proofs.Headers.{header_of}
use Rattle.graph_check.proofs.WrittenAgain.{rewrite_refused, rewrite_large, rewrite_written, graph_whole, graph_small, records_there, again, again_size}
use Rattle.graph_check.specs.views.Header.{fields_read}
use Rattle.rewriting.proofs.rewrite.Goals as goal

pub returns-then-buffer-graph : goal.returns-then-buffer-graph
returns-then-buffer-graph c =
    let a = c.args in
    let s = c.args.sheet.now in
    let g = c.args.graph.now in
    let s-bytes = bytes_all s (λ i. omega (arith, c.type_inv.sheet i)) in
    let g-bytes = bytes_all g (λ i. omega (arith, c.type_inv.graph i)) in
    let h = header_of s g (sym (ap (fields_read (length g)) c.in_ok-header.was) ∙ c.graph_header.ensures) in
    rewrite_large s g s-bytes g-bytes h a.buffer.now c.if-buffer-graph.true

pub write_graph-requires : goal.write_graph-requires
write_graph-requires c =
    let a = c.args in
    let s = c.args.sheet.now in
    let g = c.args.graph.now in
    let s-bytes = bytes_all s (λ i. omega (arith, c.type_inv.sheet i)) in
    let g-bytes = bytes_all g (λ i. omega (arith, c.type_inv.graph i)) in
    let h = header_of s g (sym (ap (fields_read (length g)) c.in_ok-header.was) ∙ c.graph_header.ensures) in
    (graph_whole s g s-bytes g-bytes h, c.if-buffer-graph.false, records_there s g s-bytes g-bytes h)

pub overflow_cast-result : goal.overflow_cast-result
overflow_cast-result c =
    let a = c.args in
    let s = c.args.sheet.now in
    let g = c.args.graph.now in
    let s-bytes = bytes_all s (λ i. omega (arith, c.type_inv.sheet i)) in
    let g-bytes = bytes_all g (λ i. omega (arith, c.type_inv.graph i)) in
    let h = header_of s g (sym (ap (fields_read (length g)) c.in_ok-header.was) ∙ c.graph_header.ensures) in
    let size : c.in_ok-end.end ≡ length (again s g s-bytes g-bytes h) = cc (c.in_ok-end.was, c.write_graph.ensures.0) in
    omega (arith, size, again_size s g s-bytes g-bytes h, graph_small s g s-bytes g-bytes h)

pub returns-in_err-header : goal.returns-in_err-header
returns-in_err-header c =
    let s = c.args.sheet.now in
    let g = c.args.graph.now in
    let p = err_from_is_err_and c.from_residual.result c.from_residual.ensures.1 in
    rw (p.1, p.2) (rewrite_refused s g c.args.buffer.now (sym (ap (fields_read (length g)) c.in_err-header.was) ∙ c.graph_header.ensures))

pub returns-in_err-end : goal.returns-in_err-end
returns-in_err-end c = absurd (cc (c.write_graph.ensures.0, c.in_err-end.was))

pub returns : goal.returns
returns c =
    let a = c.args in
    let s = c.args.sheet.now in
    let g = c.args.graph.now in
    let s-bytes = bytes_all s (λ i. omega (arith, c.type_inv.sheet i)) in
    let g-bytes = bytes_all g (λ i. omega (arith, c.type_inv.graph i)) in
    let h = header_of s g (sym (ap (fields_read (length g)) c.in_ok-header.was) ∙ c.graph_header.ensures) in
    rewrite_written s g s-bytes g-bytes h a.buffer.now c.if-buffer-graph.false (cc (c.in_ok-end.was, c.write_graph.ensures.0)) c.write_graph.ensures.1
