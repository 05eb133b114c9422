-- A loop over the records: what is measured, with what is left, is the whole.
use mathlib.Core.Path.{◌≡◌, refl, ap, ◌∙◌}
use lib.ListN.{length}
use native.Mathlib.Omega.{arith}
use Rattle.rule_rows.proofs.NextRecords.{goes, ends, behind_it}
use Rattle.tidy_rows.proofs.RowSteps.{few_bytes, size_from, ends_here, nothing_left, ends_same, size_next}
use Rattle.tidy_rows.specs.views.TidyRow.{tidy_in}
use Rattle.patterns.specs.views.PatternRecord.{record_bytes}
use Rattle.tidy_rows.proofs.rules.measure_rule.Goals as goal

pub loop-next-init : goal.loop-next-init
loop-next-init c = (c.requires.0, omega (arith, c.requires.1), refl, omega arith)

pub next_record-requires : goal.next_record-requires
next_record-requires c = c.loop-next.invariant.0

pub returns : goal.returns
returns c =
    let s = c.args.s.now in
    let words = c.args.words.now in
    let row = c.loop-next.row in
    let inv = c.loop-next.invariant in
    let read = c.next_record.ensures in
    let none = ends s row read.row_value c.in_default.is in
    let from = ends_here s row none ∙ inv.2 in
    let to : c.loop-next.size ≡ size_from words s c.args.start =
    omega (arith, inv.3, ap length (nothing_left s row none words)) in record {
      value = (λ j. record { from = from j; to = to j });
      from_in_bounds = (inv.0.inside, omega (arith, inv.1));
    }

pub tidy_record-requires : goal.tidy_record-requires
tidy_record-requires c = c.requires.2

pub overflow_add-size : goal.overflow_add-size
overflow_add-size c =
    let s = c.args.s.now in
    let words = c.args.words.now in
    let row = c.loop-next.row in
    let inv = c.loop-next.invariant in
    let read = c.next_record.ensures in
    let whole = goes s row read.row_value c.in-Some.is in
    let on = behind_it s row read.row_value read.goes_on c.in-Some.is in
    let what = c.in-Some.next.what in
    let more = c.in-Some.next.rest in
    let size = c.record_length-size.ensures ∙ ap record_bytes c.tidy_record.ensures in
    omega (arith, size, few_bytes (tidy_in words what), inv.1)

pub loop-next-smaller : goal.loop-next-smaller
loop-next-smaller c =
    let s = c.args.s.now in
    let words = c.args.words.now in
    let row = c.loop-next.row in
    let inv = c.loop-next.invariant in
    let read = c.next_record.ensures in
    omega (arith, (behind_it s row read.row_value read.goes_on c.in-Some.is).1)

pub loop-next-preserved : goal.loop-next-preserved
loop-next-preserved c =
    let s = c.args.s.now in
    let words = c.args.words.now in
    let row = c.loop-next.row in
    let inv = c.loop-next.invariant in
    let read = c.next_record.ensures in
    let whole = goes s row read.row_value c.in-Some.is in
    let on = behind_it s row read.row_value read.goes_on c.in-Some.is in
    let what = c.in-Some.next.what in
    let more = c.in-Some.next.rest in
    let size = c.record_length-size.ensures ∙ ap record_bytes c.tidy_record.ensures in
    (on.0, omega (arith, on.1, inv.1, size, few_bytes (tidy_in words what)), ends_same s row more whole on.2 ∙ inv.2, omega (arith, size, size_next s row more whole words, inv.3))
