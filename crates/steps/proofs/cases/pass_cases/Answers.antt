-- `steps::cases::pass_cases` meets its contract: with the best so far, the cases that are left lead where all do.
use mathlib.Core.Path.{sym, ap, ◌∙◌}
use mathlib.Core.Logic.{inl, inr}
use native.Mathlib.Omega.{arith}
use borrow.Author.Tests.{lt-ltb, le-ltb, le-leb, lt-leb}
use Rattle.records.proofs.Parts.{rest}
use Rattle.graph.specs.views.NodeRecord.{case_head}
use Rattle.std.specs.Prelude.{Ok}
use Rattle.steps.proofs.CasesLeft.{passed_starts, passed_ends, passed_whole}
use Rattle.steps.proofs.CasesLeft.{passed_inside, passed_above, passed_better, passed_still}
use Rattle.steps.proofs.cases.pass_cases.Goals as goal
use Rattle.steps.proofs.cases.pass_cases.Goals.{then-begun-range+then-high-range, else-begun-range}

pub loop-init : goal.loop-init
loop-init c =
    let a = c.args in
    passed_starts a.graph.now a.neither a.low a.high a.start a.count c.requires.begins
    c.requires.whole

pub slice_bounds-case_head-count : goal.slice_bounds-case_head-count
slice_bounds-case_head-count c = c.loop.invariant.there

pub slice_bounds-case_head-start : goal.slice_bounds-case_head-start
slice_bounds-case_head-start c = c.loop.invariant.there

pub returns-in_err-c : goal.returns-in_err-c
returns-in_err-c c =
    let a = c.args in
    let s = c.args.graph.now in
    absurd
    (passed_whole s a.neither a.low a.high c.loop.invariant c.requires.ordered.ascend
    (omega arith)
    (ap case_head (sym (rest s c.loop.at)) ∙ sym c.in_err-c.ensures))

pub returns-then-low-range : goal.returns-then-low-range
returns-then-low-range c =
    let a = c.args in
    let s = c.args.graph.now in
    let whole = ap case_head (sym (rest s c.loop.at)) ∙ sym c.in_ok-c.ensures in
    ap Ok
    (passed_above s a.neither a.low a.high c.loop.invariant c.requires.ordered.ascend
    (omega arith)
    c.in_ok-c.c whole c.case_range-range.ensures c.if-low-range.true)

pub overflow_add-at : goal.overflow_add-at
overflow_add-at c =
    let a = c.args in
    let s = c.args.graph.now in
    let whole = ap case_head (sym (rest s c.loop.at)) ∙ sym c.in_ok-c.ensures in
    omega (
      arith,
      passed_inside s a.neither a.low a.high c.loop.invariant c.requires.ordered.ascend
          (omega arith)
          c.in_ok-c.c whole c.case_range-range.ensures,
    )

pub loop-preserved : goal.loop-preserved
loop-preserved c =
    let a = c.args in
    let s = c.args.graph.now in
    let first = c.in_ok-c.c in
    let whole = ap case_head (sym (rest s c.loop.at)) ∙ sym c.in_ok-c.ensures in
    let low_enough = c.if-low-range.false in
    elim c.if-begun-range.branch [
      | then-begun-range+then-high-range w ↦
          passed_better s a.neither a.low a.high c.loop.invariant c.requires.ordered.ascend (omega arith) first whole
          c.case_range-range.ensures
          low_enough (simp (lt-ltb _ _ w.if-begun-range.true, le-leb _ _ w.if-high-range.true)) w.begun-is w.node-is
      | else-begun-range w ↦
          passed_still s a.neither a.low a.high c.loop.invariant c.requires.ordered.ascend (omega arith) first whole
          c.case_range-range.ensures low_enough
          (elim w.else-begun-range.either [ inl h ↦ simp (lt-ltb _ _ h.0, lt-leb _ _ h.1) | inr h ↦ simp (le-ltb _ _ h) ])
          w.begun-is w.node-is
    ]

pub returns : goal.returns
returns c =
    let a = c.args in
    ap Ok
    (passed_ends a.graph.now a.neither a.low a.high c.loop.invariant c.requires.ordered.ascend
    (omega arith))
