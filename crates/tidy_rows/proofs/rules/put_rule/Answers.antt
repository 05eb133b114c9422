-- A loop over the records: what is left, written behind what was written, makes the whole.
use mathlib.Core.Path.{◌≡◌, refl, sym, ap, ◌∙◌}
use Prim.Native.Nat.{◌+◌, ◌≤◌}
use lib.ListN.{length, length-append}
use native.Mathlib.Omega.{arith}
use Rattle.records.specs.Writing.{splice}
use Rattle.records.proofs.Writing.{splice_none}
use Rattle.patterns.specs.declared.PatternRecord.{PatternRecord}
use Rattle.patterns.specs.views.PatternRecord.{record_spelling}
use Rattle.rule_rows.specs.views.Row.{records_from}
use Rattle.rule_rows.specs.views.Words.{Numbering}
use Rattle.tidy_rows.specs.views.TidyRow.{tidy_in, tidy_onward}
use Rattle.rule_rows.proofs.NextRecords.{goes, ends, behind_it}
use Rattle.tidy_rows.proofs.RowSteps.{ends_here, nothing_onward, ends_same, onward_next, Written-next}
use Rattle.tidy_rows.proofs.rules.put_rule.Goals as goal

pub loop-next-init : goal.loop-next-init
loop-next-init c = (c.requires.0, omega (arith, c.requires.1), c.requires.2, refl, refl, refl, refl)

pub next_record-requires : goal.next_record-requires
next_record-requires c = c.loop-next.invariant.0

pub shape_of-buf : goal.shape_of-buf
shape_of-buf c = c.loop-next.invariant.3

pub returns : goal.returns
returns c =
    let turn = c.loop-next in
    let s = c.args.s.now in
    let row = c.loop-next.row in
    let inv = c.loop-next.invariant in
    let read = c.next_record.ensures in
    let x : Numbering = record { words = turn.words; count = turn.count } in
    let buf = c.loop-next.buf in
    let end = c.loop-next.end in
    let x₀ : Numbering = record { words = c.args.words.now; count = 0 } in
    let none = ends s row read.row_value c.in_default.is in
    let from = ends_here s row none ∙ inv.4 in
    let left = nothing_onward s row none x in
    let to : end ≡ c.args.to + length (tidy_onward x₀ (records_from s c.args.start)) = omega (arith, inv.5, ap length left) in
    record {
      value = (λ j. record { from = from j; to = to j });
      buf_after = splice_none buf end ∙ ap (splice buf end) (sym left) ∙ inv.6;
      from_in_bounds = inv.0.inside;
    }

pub number_record-count-requires : goal.number_record-count-requires
number_record-count-requires c = (c.loop-next.invariant.2, omega (arith, c.loop-next.invariant.1))

pub tidy_record-requires : goal.tidy_record-requires
tidy_record-requires c = c.number_record-count.ensures.words_len.0

pub put_record-end-requires : goal.put_record-end-requires
put_record-end-requires c =
    let turn = c.loop-next in
    let s = c.args.s.now in
    let row = c.loop-next.row in
    let inv = c.loop-next.invariant in
    let read = c.next_record.ensures in
    let x : Numbering = record { words = turn.words; count = turn.count } in
    let buf = c.loop-next.buf in
    let end = c.loop-next.end in
    let what = c.in-Some.next.what in
    let more = c.in-Some.next.rest in
    let whole = goes s row read.row_value c.in-Some.is in
    let on = behind_it s row read.row_value read.goes_on c.in-Some.is in
    let numbered = c.number_record-count.ensures in
    let y : Numbering = record { words = c.number_record-count.new.words; count = c.number_record-count.result } in
    let part = record_spelling (tidy_in y.words what) in
    let rest = tidy_onward y (records_from s more) in
    let next = onward_next s row more whole x {y = y} numbered.result_value in
    let size = ap length next ∙ length-append part rest in
    let room : end + length part ≤ length buf = omega (arith, size, inv.3, inv.5, c.requires.3) in
    omega (arith, room, ap (λ (r : PatternRecord). length (record_spelling r)) c.tidy_record.ensures)

pub loop-next-smaller : goal.loop-next-smaller
loop-next-smaller c =
    let turn = c.loop-next in
    let s = c.args.s.now in
    let row = c.loop-next.row in
    let inv = c.loop-next.invariant in
    let read = c.next_record.ensures in
    omega (arith, (behind_it s row read.row_value read.goes_on c.in-Some.is).1)

pub loop-next-preserved : goal.loop-next-preserved
loop-next-preserved c =
    let turn = c.loop-next in
    let s = c.args.s.now in
    let row = c.loop-next.row in
    let inv = c.loop-next.invariant in
    let read = c.next_record.ensures in
    let x : Numbering = record { words = turn.words; count = turn.count } in
    let buf = c.loop-next.buf in
    let end = c.loop-next.end in
    let what = c.in-Some.next.what in
    let more = c.in-Some.next.rest in
    let whole = goes s row read.row_value c.in-Some.is in
    let on = behind_it s row read.row_value read.goes_on c.in-Some.is in
    let numbered = c.number_record-count.ensures in
    let y : Numbering = record { words = c.number_record-count.new.words; count = c.number_record-count.result } in
    let part = record_spelling (tidy_in y.words what) in
    let rest = tidy_onward y (records_from s more) in
    let next = onward_next s row more whole x {y = y} numbered.result_value in
    let size = ap length next ∙ length-append part rest in
    let room : end + length part ≤ length buf = omega (arith, size, inv.3, inv.5, c.requires.3) in
    let put = c.put_record-end.ensures in
    let tidy = c.tidy_record.ensures in
    let to = put.0 ∙ ap (λ (r : PatternRecord). end + length (record_spelling r)) tidy in
    let left = put.1 ∙ ap (λ (r : PatternRecord). splice buf end (record_spelling r)) tidy in
    (on.0, omega (arith, on.1, inv.1, numbered.words_len.1), numbered.words_len.0, c.put_record-end.auto.buf ∙ inv.3, ends_same s row more whole on.2 ∙ inv.4, omega (arith, to, size, inv.5), Written-next (tidy_onward x (records_from s row)) part rest buf end next room left to ∙ inv.6)
