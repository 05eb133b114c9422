-- `walk::call::walk_piece` meets its contract: the piece is refused, or the graph is asked about.
use mathlib.Core.Path.{sym, subst, ◌∙◌}
use native.Mathlib.Omega.{arith}
use Rattle.records.proofs.ByteLists.{bytes_all}
use Rattle.plain.specs.views.ReadAs.{ReadAs}
use Rattle.plain.proofs.PiecesRead.{reader_refused, reader_accepted}
use Rattle.std.proofs.lemmas.Result.{err_from_is_err_and}
use Rattle.walk.proofs.Replies.{piece_refuses, arities_differ, piece_accepts}
use Rattle.walk.proofs.call.walk_piece.Goals as goal

pub returns-then-arity-sizes : goal.returns-then-arity-sizes
returns-then-arity-sizes c =
    let a = c.args in
    let p = c.args.piece.now in
    let g = c.args.graph.now in
    let cells = c.read_piece.new.cells in
    let bytes = bytes_all p (λ i. omega (arith, c.type_inv.piece i)) in
    let k = reader_accepted p cells c.read_piece.result c.read_piece.ensures c.in_ok-arity.was bytes in
    λ t. arities_differ t.read.sheet g p k.read (λ e. c.if-arity-sizes.true (sym k.arity_is ∙ e ∙ t.read.arity_is))

pub walk_graph-requires : goal.walk_graph-requires
walk_graph-requires c =
    let a = c.args in
    let p = c.args.piece.now in
    let g = c.args.graph.now in
    let cells = c.read_piece.new.cells in
    let bytes = bytes_all p (λ i. omega (arith, c.type_inv.piece i)) in
    let k = reader_accepted p cells c.read_piece.result c.read_piece.ensures c.in_ok-arity.was bytes in
    let pre = c.requires in record {
      arrays = (pre.arrays, record { bytes = p; read_as = subst (ReadAs p cells) c.if-arity-sizes.false k });
      accepted_tests = pre.accepted_tests;
    }

pub returns-in_err-arity : goal.returns-in_err-arity
returns-in_err-arity c = λ t.
    let a = c.args in
    let call = c.read_piece in
    let no = err_from_is_err_and c.from_residual.result c.from_residual.ensures.1 in
    rw (no.1, no.2)
    (piece_refuses t.read.sheet a.graph.now a.piece.now
    (reader_refused a.piece.now call.new.cells call.result call.ensures c.in_err-arity.was))

pub returns : goal.returns
returns c =
    let a = c.args in
    let p = c.args.piece.now in
    let g = c.args.graph.now in
    let cells = c.read_piece.new.cells in
    let bytes = bytes_all p (λ i. omega (arith, c.type_inv.piece i)) in
    let k = reader_accepted p cells c.read_piece.result c.read_piece.ensures c.in_ok-arity.was bytes in
    λ t.
    c.walk_graph.ensures t p (subst (ReadAs p cells) c.if-arity-sizes.false k)
    ∙ piece_accepts t.read.sheet g p k.read (k.arity_is ∙ c.if-arity-sizes.false ∙ sym t.read.arity_is)
