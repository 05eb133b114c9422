-- `compare` and `compare_args` meet their contracts: each return by a law of comparing.
use Prim.Native.Nat.{ℕ, suc}
use mathlib.Core.Path.{◌≡◌, sym, subst, ◌∙◌}
use mathlib.Core.List.{List}
use mathlib.Core.Logic.{inl, inr, ⊎_elim}
use native.Mathlib.Omega.{arith}
use borrow.Author.Rules.{rules}
use borrow.Author.Tests.{le-ltb, lt-leb, eq-eqb, ne_eqb}
use Rattle.places.specs.Numbering.{stride}
use Rattle.codes.specs.views.Codes.{low_of, high_of}
use Rattle.piece.proofs.Rooms.{arguments_room, step_of}
use Rattle.outcomes.specs.views.CompareCells.{arity_of, NarrowCode, compare_runs, left_open, compare_at, compare_cells}
use Rattle.outcomes.proofs.Comparing.{several_codes, same_compound, compare_below, by_runs_lem, some_level, first_pair}
use Rattle.outcomes.proofs.FoundRuns.{a_compound_lem}
use Rattle.outcomes.proofs.+compare_compare_args.Goals as goal

-- Where the ends of both runs are known, they decide, with what the arguments say.
ends_decide
    : (cells : List ℕ) (below other p q a b : ℕ) {low high low' high' : ℕ}
    → low ≡ low_of a → high ≡ high_of a → low' ≡ low_of b → high' ≡ high_of b
    → compare_at cells below other p q a b
    ≡ compare_runs low high low' high' (compare_below cells (arity_of low) below other p q)
    (left_open cells below other p q low low')
ends_decide cells below other p q a b low-is high-is low'-is high'-is =
    by_runs_lem cells below other p q a b
    ∙ (λ i. compare_runs (sym low-is i) (sym high-is i) (sym low'-is i) (sym high'-is i)
    (compare_below cells (arity_of (sym low-is i)) below other p q)
    (left_open cells below other p q (sym low-is i) (sym low'-is i)))

pub compare-returns-then-low-high : goal.compare-returns-then-low-high
compare-returns-then-low-high t c =
    let a = c.args in
    let low = c.low_of-low in
    let high = c.high_of-high in
    let low_other = c.low_of-low_other in
    let high_other = c.high_of-high_other in
    c.left_open.ensures
    ∙ sym
    (ends_decide a.cells.now a.below a.other a.p a.q a.a a.b low.ensures high.ensures low_other.ensures high_other.ensures
    ∙ several_codes low.result high.result low_other.result high_other.result _ _ c.if-high-low_other.false
    (le-ltb _ _ c.if-high_other-low.false)
    (⊎_elim (λ w. inl w) (λ w. inr (ne_eqb _ _ w.1)) c.then-low-high.either))

pub compare-compare_args-requires : goal.compare-compare_args-requires
compare-compare_args-requires t c =
    let a = c.args in
    let low = c.low_of-low in
    let inner = a_compound_lem low.result c.if-low-lt-COMPOUNDS.false (lt-leb _ _ c.if-low-ge-NUMBERS.false) in
    let most = subst NarrowCode (sym low.ensures) c.requires.3 inner in
    let room = arguments_room a.below _ c.if-below-eq0.false most in
    let room-other = arguments_room a.other _ c.if-other-eq0.false most in (
      omega arith,
      (
        record { levels = omega arith; places = omega arith },
        record { levels = omega arith; places = omega arith },
        c.requires.2,
      ),
    )

pub compare-returns : goal.compare-returns
compare-returns t c =
    let a = c.args in
    let low = c.low_of-low in
    let high = c.high_of-high in
    let low_other = c.low_of-low_other in
    let high_other = c.high_of-high_other in
    c.compare_args.ensures
    ∙ sym
    (ends_decide a.cells.now a.below a.other a.p a.q a.a a.b low.ensures high.ensures low_other.ensures high_other.ensures
    ∙ same_compound low.result high.result low_other.result high_other.result _ _ c.if-high-low_other.false
    (le-ltb _ _ c.if-high_other-low.false) c.if-low-high.false (eq-eqb _ _ c.if-low_other-high_other.false)
    c.if-low-lt-COMPOUNDS.false (lt-leb _ _ c.if-low-ge-NUMBERS.false)
    ∙ some_level a.cells.now (arity_of low.result) a.below a.other a.p a.q c.if-below-eq0.false
    (ne_eqb _ _ c.if-other-eq0.false))

pub compare_args-returns : goal.compare_args-returns
compare_args-returns t c =
    let a = c.args in
    first_pair (compare_cells a.cells.now a.below a.other) (stride (suc a.below)) (stride (suc a.other)) a.n a.p a.q
    c.if-n-eq0.false c.both.ensures c.compare-first.ensures
    (step_of a.below (search rules) c.step.ensures) (step_of a.other (search rules) c.step-2.ensures)
    c.compare_args-others.ensures
