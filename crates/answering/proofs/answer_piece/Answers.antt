-- The piece is read, then question 20 is asked, then the rules are.
use Prim.Native.Nat.{ℕ}
use mathlib.Core.Path.{sym, ◌∙◌, subst}
use native.Mathlib.Omega.{arith}
use Rattle.std.proofs.lemmas.Result.{err_from_is_err_and}
use Rattle.terms.specs.Accepted.{AcceptedPiece}
use Rattle.plain.proofs.PiecesRead.{reader_refused, reader_accepted, read_narrow}
use Rattle.answering.proofs.PieceAnswers.{piece_refused, arities_differ, cells_answer}
use Rattle.records.proofs.ByteLists.{bytes_all}
use Rattle.answering.proofs.answer_piece.Goals as goal

pub returns-then-n-arity : goal.returns-then-n-arity
returns-then-n-arity c =
    let a = c.args in
    let p = c.args.p.now in
    let cells = c.read_piece.new.cells in
    let bytes = bytes_all p (λ i. omega (arith, c.type_inv.p i)) in
    let r = reader_accepted p cells c.read_piece.result c.read_piece.ensures c.in_ok-n.was bytes in
    λ k. arities_differ a.arity k.rules p r.read (λ e. c.if-n-arity.true (sym r.arity_is ∙ e))

pub answer_rules-requires : goal.answer_rules-requires
answer_rules-requires c =
    let p = c.args.p.now in
    let bytes = bytes_all p (λ i. omega (arith, c.type_inv.p i)) in
    let read-piece = c.read_piece in
    let r =
    reader_accepted p read-piece.new.cells read-piece.result read-piece.ensures
    c.in_ok-n.was bytes in
    (c.requires.0, c.requires.1, read_narrow r, c.requires.2, c.requires.3)

pub returns-in_err-n : goal.returns-in_err-n
returns-in_err-n c =
    let a = c.args in
    let p = c.args.p.now in
    let out = err_from_is_err_and c.from_residual.result c.from_residual.ensures.1 in
    λ k.
    rw (out.1, out.2)
    (piece_refused a.arity k.rules p
    (reader_refused p c.read_piece.new.cells c.read_piece.result c.read_piece.ensures c.in_err-n.was))

pub returns : goal.returns
returns c =
    let a = c.args in
    let p = c.args.p.now in
    let cells = c.read_piece.new.cells in
    let bytes = bytes_all p (λ i. omega (arith, c.type_inv.p i)) in
    let r = reader_accepted p cells c.read_piece.result c.read_piece.ensures c.in_ok-n.was bytes in
    let same = c.if-n-arity.false in
    let ok = subst (λ (n : ℕ). AcceptedPiece n r.piece.terms) same r.accepted in
    λ k.
    cells_answer a.arity k.rules p r.read (r.arity_is ∙ same) c.requires.0.few ok k.accepted k.read r.laid c.answer_rules.ensures
