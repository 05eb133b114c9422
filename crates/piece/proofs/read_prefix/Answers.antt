-- `read_prefix` meets its contract: the record that the piece begins with, then its terms read into empty cells.
use Prim.Native.Nat.{ℕ, ◌+◌, ◌≤◌}
use mathlib.Core.Path.{◌≡◌, ap, ap₂, sym, ◌∙◌}
use mathlib.Core.List.{List}
use native.Mathlib.Omega.{arith}
use lib.ListN.{length}
use Rattle.std.specs.Prelude.{Result, Ok}
use Rattle.std.proofs.lemmas.Result.{err_from_is_err_and}
use Rattle.records.specs.Reading.{Reading, map_reading, after}
use Rattle.records.specs.declared.refusal.Refusal.{Refusal}
use Rattle.records.proofs.Parts.{rest, rest_length}
use Rattle.piece.specs.ReadPiece.{read_prefix}
use Rattle.piece.specs.views.LaidOut.{LaidOut, took_cells, terms_cells, lay_out}
use Rattle.piece.proofs.TermCells.{terms_fit}
use Rattle.piece.proofs.PiecesRead.{ArityRead, arity_known, arity_refused, terms_laid}
use Rattle.piece.proofs.read_prefix.Goals as goal
use Rattle.piece.proofs.read_prefix.Goals.{In_ok-arity, After-terms}

-- Where the arity is known.
known : (c : In_ok-arity) → ArityRead c.args.s.now 2 c.in_ok-arity.arity
known c = arity_known c.args.s.now c.piece_head.result c.piece_head.ensures c.in_ok-arity.was

-- Where the terms were read or refused.
module _ (c : After-terms) where
  abbrev bytes : List ℕ
  bytes = c.args.s.now

  abbrev laid : Result ℕ Refusal → Reading LaidOut
  laid r =
      after 2 (λ cells. record { arity = c.in_ok-arity.arity; cells = cells }) (took_cells c.terms.new.cells r)

  laid_out : laid c.terms.result ≡ map_reading lay_out (read_prefix bytes)
  laid_out =
      terms_laid bytes c.piece_head.result c.piece_head.ensures c.in_ok-arity.was
      (c.terms.ensures ∙ ap₂ (terms_cells 3 c.in_ok-arity.arity 0) c.empty.ensures (rest bytes 2))

  within : {b : ℕ} → c.terms.result ≡ Ok b → 2 + b ≤ length bytes
  within told =
      let fits = terms_fit 3 _ _ 0 _ _ c.terms.result c.terms.ensures told in
      let there = (arity_known bytes c.piece_head.result c.piece_head.ensures c.in_ok-arity.was).there in
      omega (arith, fits, rest_length bytes 2, there)

pub returns-in_err-arity : goal.returns-in_err-arity
returns-in_err-arity c =
    let p = err_from_is_err_and c.from_residual.result c.from_residual.ensures.1 in
    rw (p.1, p.2) (arity_refused c.args.s.now c.piece_head.result c.piece_head.ensures c.in_err-arity.was, omega arith)

pub slice_bounds-terms-count : goal.slice_bounds-terms-count
slice_bounds-terms-count c = omega (arith, (known (goal.at.slice_bounds-terms-count c).In_ok-arity).there)

pub slice_bounds-terms-start : goal.slice_bounds-terms-start
slice_bounds-terms-start c = omega (arith, (known (goal.at.slice_bounds-terms-start c).In_ok-arity).there)

pub terms-requires : goal.terms-requires
terms-requires c = omega (arith, (known (goal.at.terms-requires c).In_ok-arity).most)

pub overflow_add-result : goal.overflow_add-result
overflow_add-result c =
    omega (arith, within (goal.at.overflow_add-result c).After-terms c.in_ok-bytes.was, c.well_formed)

pub returns-in_err-bytes : goal.returns-in_err-bytes
returns-in_err-bytes c =
    let out = c.from_residual-in_err-bytes in
    let p = err_from_is_err_and out.result out.ensures.1 in
    let read = (goal.at.returns-in_err-bytes c).After-terms in
    rw (p.1, p.2) (ap (laid read) (sym c.in_err-bytes.was) ∙ laid_out read, omega arith)

pub returns : goal.returns
returns c =
    let told = c.in_ok-bytes.was in
    let read = (goal.at.returns c).After-terms in
    (ap (laid read) (sym told) ∙ laid_out read, within read told)
