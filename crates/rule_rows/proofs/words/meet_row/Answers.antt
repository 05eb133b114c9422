-- A loop over the records: what is known, with the records left, is what is known at the end.
use mathlib.Core.Path.{refl, sym, ap, ◌∙◌}
use Prim.Native.Nat.{ℕ}
use mathlib.Core.List.{List}
use native.Mathlib.Omega.{arith}
use Rattle.rule_rows.proofs.NextRecords.{goes, ends, behind_it}
use Rattle.rule_rows.specs.views.Row.{records_from}
use Rattle.rule_rows.specs.views.Words.{met_records}
use Rattle.rule_rows.proofs.words.meet_row.Goals as goal

pub loop-next-init : goal.loop-next-init
loop-next-init c = (c.requires.0, c.requires.1, refl)

pub next_record-requires : goal.next_record-requires
next_record-requires c = c.loop-next.invariant.0

pub returns : goal.returns
returns c =
    let s = c.args.s.now in
    let row = c.loop-next.row in
    let words = c.loop-next.words in
    let inv = c.loop-next.invariant in
    let read = c.next_record.ensures in record {
      words_after = sym (ap (met_records words) (ends s row read.row_value c.in_default.is)) ∙ inv.2;
      words_len = inv.1;
    }

pub meet_record-requires : goal.meet_record-requires
meet_record-requires c = c.loop-next.invariant.1

pub loop-next-smaller : goal.loop-next-smaller
loop-next-smaller c =
    let s = c.args.s.now in
    let row = c.loop-next.row in
    let words = c.loop-next.words in
    let inv = c.loop-next.invariant in
    let read = c.next_record.ensures in
    omega (arith, (behind_it s row read.row_value read.goes_on c.in-Some.is).1)

pub loop-next-preserved : goal.loop-next-preserved
loop-next-preserved c =
    let s = c.args.s.now in
    let row = c.loop-next.row in
    let words = c.loop-next.words in
    let inv = c.loop-next.invariant in
    let read = c.next_record.ensures in
    let more = c.in-Some.next.rest in
    let met = c.meet_record.ensures in (
      (behind_it s row read.row_value read.goes_on c.in-Some.is).0,
      met.words_len,
      ap (λ (l : List ℕ). met_records l (records_from s more)) met.words_after
          ∙ sym (ap (met_records words) (goes s row read.row_value c.in-Some.is))
          ∙ inv.2,
    )
