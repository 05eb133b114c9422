-- `term` and `terms` meet their contracts: each return by a law of reading terms into cells.
use Rattle.std.proofs.Common.{◌≡◌, ℕ, ◌+◌, ◌-◌, ◌*◌, ◌≤◌, ◌<◌, suc, drop, sym, ap, ◌∙◌, arith, inl, inr, ⊎_elim}
use Rattle.std.proofs.lemmas.Result.{err_from_is_err_and}
use lib.ListN.{set}
use Rattle.places.specs.Numbering.{stride}
use Rattle.records.specs.Reading.{took}
use Rattle.codes.specs.views.Codes.{run_of}
use Rattle.records.proofs.Parts.{rest, rest_length}
use Rattle.records.proofs.RowSoFar.{later, one_to_come, row_ended}
use Rattle.std.specs.Prelude.{Ok}
use Rattle.piece.specs.declared.TermRecord.TheVariants.{Compound}
use Rattle.piece.specs.views.TermRecord.{term_head}
use Rattle.piece.specs.views.LaidOut.{took_cells, term_cells}
use Rattle.piece.proofs.Rooms.{arguments_room, step_of, row_room}
use Rattle.piece.proofs.Heads.{record_within}
use Rattle.piece.proofs.TermCells.{went_on, stopped, by_record, span_refused, span_stored, deep_refused, arity_refused}
use Rattle.piece.proofs.TermCells.{arguments_read_lem, terms_fit}
use Rattle.piece.proofs.RowCells.{term_row, term_stops, term_goes_on, term_there}
use Rattle.piece.proofs.+term_terms.Goals as goal
use Rattle.piece.proofs.+term_terms.Goals.{term-After-terms, terms-After-term}

pub term-returns-in_err-record : goal.term-returns-in_err-record
term-returns-in_err-record t c =
    let a = c.args in
    let p = err_from_is_err_and c.from_residual.result c.from_residual.ensures.1 in
    rw (p.1, p.2) (by_record a.below a.s.now a.p a.cells.now (sym c.in_err-record.ensures))

pub term-returns-in-Unknown : goal.term-returns-in-Unknown
term-returns-in-Unknown t c =
    let a = c.args in by_record a.below a.s.now a.p a.cells.now (sym c.in_ok-record.ensures ∙ ap Ok c.in-Unknown.is)

pub term-returns-in-Symbol : goal.term-returns-in-Symbol
term-returns-in-Symbol t c =
    let a = c.args in
    ap (λ x. took 3 (set a.cells.now a.p x)) (c.run_of.ensures ∙ ap (λ k. run_of k k) c.symbol_code-code.ensures)
    ∙ by_record a.below a.s.now a.p a.cells.now (sym c.in_ok-record.ensures ∙ ap Ok c.in-Symbol.is)

pub term-returns-in-Number : goal.term-returns-in-Number
term-returns-in-Number t c =
    let a = c.args in
    ap (λ x. took 3 (set a.cells.now a.p x)) (c.run_of-in-Number.ensures ∙ ap (λ k. run_of k k) c.number_code-code.ensures)
    ∙ by_record a.below a.s.now a.p a.cells.now (sym c.in_ok-record.ensures ∙ ap Ok c.in-Number.is)

pub term-returns-then-below-eq0 : goal.term-returns-then-below-eq0
term-returns-then-below-eq0 t c =
    let a = c.args in
    let head = sym c.in_ok-record.ensures ∙ ap Ok c.in-Compound.is in
    deep_refused a.below a.s.now a.p a.cells.now c.in-Compound.id c.in-Compound.arity head c.if-below-eq0.true

pub term-returns-then-arity-lt1 : goal.term-returns-then-arity-lt1
term-returns-then-arity-lt1 t c =
    let a = c.args in
    let head = sym c.in_ok-record.ensures ∙ ap Ok c.in-Compound.is in
    arity_refused a.below a.s.now a.p a.cells.now c.in-Compound.id c.in-Compound.arity head c.if-below-eq0.false
    (⊎_elim (λ w. inl w) (λ w. inr w.1) c.then-arity-lt1.either)

pub term-terms-requires : goal.term-terms-requires
term-terms-requires t c =
    omega (arith, arguments_room c.args.below c.in-Compound.arity c.if-below-eq0.false c.if-arity-gt4.false)

-- What the arguments' reading says of the compound's.
compound_read
    : (t : ℕ) (c : term-After-terms t)
    → let a = c.args in
    later 4 (took_cells c.terms.new.cells c.terms.result) ≡ term_cells a.below a.p a.cells.now a.s.now
compound_read t c =
    let a = c.args in
    let s = a.s.now in
    let head = sym c.in_ok-record.ensures ∙ ap Ok c.in-Compound.is in
    arguments_read_lem a.below s a.p a.cells.now c.in-Compound.id c.in-Compound.arity head c.if-below-eq0.false
    c.if-arity-lt1.false c.if-arity-gt4.false
    (c.terms.ensures ∙ (simp (rest s 4, c.run_of-in-Compound.ensures, c.compound_code-code.ensures)))

pub term-returns-in_err-bytes-in-Compound : goal.term-returns-in_err-bytes-in-Compound
term-returns-in_err-bytes-in-Compound t c =
    let out = c.from_residual-in_err-bytes-in-Compound in
    let p = err_from_is_err_and out.result out.ensures.1 in
    rw (p.1, p.2)
    (stopped 4 _ _ (compound_read t (goal.at.term-returns-in_err-bytes-in-Compound t c).After-terms) c.in_err-bytes-in-Compound.was)

pub term-overflow_add-result : goal.term-overflow_add-result
term-overflow_add-result t c =
    let s = c.args.s.now in
    let head : term_head s ≡ Ok (Compound c.in-Compound.id c.in-Compound.arity) =
    sym c.in_ok-record.ensures ∙ ap Ok c.in-Compound.is in
    let cells = c.terms.new.cells in
    omega (
      arith,
      terms_fit _ _ _ _ _ cells c.terms.result c.terms.ensures c.in_ok-bytes-in-Compound.was,
      rest_length s 4,
      record_within s head,
      c.well_formed,
    )

pub term-returns-in_ok-bytes-in-Compound : goal.term-returns-in_ok-bytes-in-Compound
term-returns-in_ok-bytes-in-Compound t c =
    went_on 4 _ _ (compound_read t (goal.at.term-returns-in_ok-bytes-in-Compound t c).After-terms) c.in_ok-bytes-in-Compound.was

pub term-returns-then-high-low : goal.term-returns-then-high-low
term-returns-then-high-low t c =
    let a = c.args in
    let head = sym c.in_ok-record.ensures ∙ ap Ok c.in-Span.is in
    span_refused a.below a.s.now a.p a.cells.now c.in-Span.low c.in-Span.high head c.if-high-low.true

pub term-returns-else-high-low : goal.term-returns-else-high-low
term-returns-else-high-low t c =
    let a = c.args in
    let head = sym c.in_ok-record.ensures ∙ ap Ok c.in-Span.is in
    ap (λ x. took 5 (set a.cells.now a.p x)) c.run_of-in-Span.ensures
    ∙ span_stored a.below a.s.now a.p a.cells.now c.in-Span.low c.in-Span.high head c.if-high-low.false
    c.number_code.ensures c.number_code-in-Span.ensures

pub term-returns-in-Never : goal.term-returns-in-Never
term-returns-in-Never t c =
    let a = c.args in by_record a.below a.s.now a.p a.cells.now (sym c.in_ok-record.ensures ∙ ap Ok c.in-Never.is)

pub term-returns-in-Gauged : goal.term-returns-in-Gauged
term-returns-in-Gauged t c =
    let a = c.args in
    ap (λ x. took 4 (set a.cells.now a.p x)) (c.run_of-in-Gauged.ensures ∙ ap (λ k. run_of k k) c.gauged_code-code.ensures)
    ∙ by_record a.below a.s.now a.p a.cells.now (sym c.in_ok-record.ensures ∙ ap Ok c.in-Gauged.is)

-- A row of terms: each has room.
pub terms-term-requires : goal.terms-term-requires
terms-term-requires t c =
    let a = c.args in
    omega (
      arith,
      row_room a.n c.loop-i.i a.p (step_of a.below c.requires.0 c.step-step.ensures) c.loop-i-test.true c.requires.1,
    )

-- One term a turn. Read or refused, it is the one that the rest of the bytes begins with.
term_tried
    : (t : ℕ) (c : terms-After-term t)
    → took_cells c.term.new.cells c.term.result
    ≡ term_cells c.args.below (c.args.p + c.loop-i.i * c.step-step.result) c.loop-i.cells (drop c.loop-i.at c.args.s.now)
term_tried t c = c.term.ensures ∙ (rw (rest c.args.s.now c.loop-i.at))

-- Where it was refused, so is the row;
pub terms-returns-in_err-at : goal.terms-returns-in_err-at
terms-returns-in_err-at t c =
    let a = c.args in
    let own = c.loop-i in
    let comes = one_to_come a.n own.i c.loop-i-test.true in
    let tried = term_tried t (goal.at.terms-returns-in_err-at t c).After-term in
    let p = err_from_is_err_and c.from_residual.result c.from_residual.ensures.1 in
    rw (p.1, p.2)
    (term_stops a.below a.s.now own.at _ _ own.cells _ comes c.term.result c.term.new.cells tried c.in_err-at.was
    ∙ own.invariant.1)

-- where it was read, its bytes are there,
pub terms-overflow_add-at : goal.terms-overflow_add-at
terms-overflow_add-at t c =
    let a = c.args in
    let own = c.loop-i in
    let comes = one_to_come a.n own.i c.loop-i-test.true in
    let tried = term_tried t (goal.at.terms-overflow_add-at t c).After-term in
    omega (
      arith,
      term_there a.below a.s.now own.at _ _ own.cells _ comes c.term.result c.term.new.cells tried c.in_ok-at.was own.invariant.0,
    )

-- and the others are to come after it.
pub terms-loop-i-preserved : goal.terms-loop-i-preserved
terms-loop-i-preserved t c =
    let a = c.args in
    let own = c.loop-i in
    let comes = one_to_come a.n own.i c.loop-i-test.true in
    let tried = term_tried t (goal.at.terms-loop-i-preserved t c).After-term in
    let then = c.term.new.cells in
    let step_is = step_of a.below c.requires.0 c.step-step.ensures in
    let step = c.step-step.result in
    let next : a.p + (own.i + 1) * step ≡ a.p + own.i * step + step = omega arith in (
      term_there a.below a.s.now own.at _ _ own.cells _ comes c.term.result then tried c.in_ok-at.was own.invariant.0,
      rw next
          (term_goes_on a.below a.s.now own.at _ _ own.cells _ comes c.term.result then tried c.in_ok-at.was step_is
          ∙ own.invariant.1),
    )

pub terms-returns : goal.terms-returns
terms-returns t c =
    let a = c.args in
    let own = c.loop-i in
    row_ended (term_row a.below) a.s.now own.at (a.n - own.i) _ own.cells (omega arith) ∙ own.invariant.1
