-- `read_piece` meets its contract: the piece that the input begins with, and whether bytes are left.
use native.Mathlib.Omega.{arith}
use Rattle.std.proofs.lemmas.Result.{err_from_is_err_and}
use Rattle.piece.proofs.Emptying.{none_used}
use Rattle.piece.proofs.PiecesRead.{bytes_left, piece_took_lem, piece_refused}
use Rattle.piece.proofs.read_piece.Goals as goal

pub read_prefix-requires : goal.read_prefix-requires
read_prefix-requires c = (omega arith, none_used c.requires)

pub returns-in_err-prefix : goal.returns-in_err-prefix
returns-in_err-prefix c =
    let p = err_from_is_err_and c.from_residual.result c.from_residual.ensures.1 in
    rw (p.1, p.2)
    (piece_refused c.args.s.now c.read_prefix.result c.read_prefix.new.cells c.read_prefix.ensures.0 c.in_err-prefix.was)

pub returns-then-prefix-s : goal.returns-then-prefix-s
returns-then-prefix-s c =
    bytes_left c.args.s.now c.read_prefix.result c.read_prefix.new.cells c.read_prefix.ensures.0 c.in_ok-prefix.was
    c.if-prefix-s.true

pub returns : goal.returns
returns c =
    piece_took_lem c.args.s.now c.read_prefix.result c.read_prefix.new.cells c.read_prefix.ensures.0 c.in_ok-prefix.was
    c.if-prefix-s.false
