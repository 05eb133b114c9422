-- `number_search::names::find_number` meets its contract: the cases that are left lead where all do.
use mathlib.Core.Path.{sym, ap, ◌∙◌}
use native.Mathlib.Omega.{arith}
use Rattle.records.proofs.Parts.{rest}
use Rattle.graph.specs.views.NodeRecord.{case_head}
use Rattle.number_search.proofs.NamesPassed.{passed_starts, passed_ends, passed_sought}
use Rattle.number_search.proofs.NamesPassed.{passed_whole, passed_inside, passed_numbers, passed_on}
use Rattle.number_search.proofs.names.find_number.Goals as goal

pub loop-i-init : goal.loop-i-init
loop-i-init c =
    let a = c.args in
    passed_starts a.graph.now a.low a.high a.neither a.start a.count c.requires.0

pub slice_bounds-case_head-count : goal.slice_bounds-case_head-count
slice_bounds-case_head-count c = c.loop-i.invariant.stand.begins

pub slice_bounds-case_head-start : goal.slice_bounds-case_head-start
slice_bounds-case_head-start c = c.loop-i.invariant.stand.begins

pub returns-in_default : goal.returns-in_default
returns-in_default c =
    let a = c.args in
    let s = c.args.graph.now in
    absurd
    (passed_whole s a.low a.high a.neither c.loop-i.invariant (omega arith)
    (ap case_head (sym (rest s c.loop-i.at)) ∙ sym c.case_head.ensures ∙ c.in_default.is))

pub narrowest-requires : goal.narrowest-requires
narrowest-requires c =
    let a = c.args in
    let s = c.args.graph.now in
    let whole = ap case_head (sym (rest s c.loop-i.at)) ∙ sym c.case_head.ensures ∙ c.in-Ok.is in
    passed_numbers s a.low a.high a.neither c.loop-i.invariant (omega arith) c.in-Ok.c whole
    c.case_range-range.ensures c.if-range-ge-NUMBERS.true

pub returns-then-range-ge-NUMBERS : goal.returns-then-range-ge-NUMBERS
returns-then-range-ge-NUMBERS c =
    let a = c.args in
    passed_sought a.graph.now a.low a.high a.neither c.loop-i.invariant c.narrowest.result
    c.narrowest.ensures

pub overflow_add-at : goal.overflow_add-at
overflow_add-at c =
    let a = c.args in
    let s = c.args.graph.now in
    let whole = ap case_head (sym (rest s c.loop-i.at)) ∙ sym c.case_head.ensures ∙ c.in-Ok.is in
    omega (
      arith,
      passed_inside s a.low a.high a.neither c.loop-i.invariant (omega arith) c.in-Ok.c whole
          c.case_range-range.ensures,
    )

pub loop-i-preserved : goal.loop-i-preserved
loop-i-preserved c =
    let a = c.args in
    let s = c.args.graph.now in
    let whole = ap case_head (sym (rest s c.loop-i.at)) ∙ sym c.case_head.ensures ∙ c.in-Ok.is in
    passed_on s a.low a.high a.neither c.loop-i.invariant (omega arith) c.in-Ok.c whole
    c.case_range-range.ensures c.requires.1 c.if-range-ge-NUMBERS.false

pub returns : goal.returns
returns c =
    let a = c.args in
    passed_ends a.graph.now a.low a.high a.neither c.loop-i.invariant (omega arith)
