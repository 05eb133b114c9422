-- The head of what is left, and what follows it.
use Prim.Native.Nat.{◌≤◌}
use native.Mathlib.Omega.{arith}
use Rattle.rule_rows.proofs.NextRecords.{ends_last, ends_cut, record_there, goes_next, goes_on}
use Rattle.rule_rows.proofs.rows.next_record.Goals as goal

pub returns-then-row-eq0 : goal.returns-then-row-eq0
returns-then-row-eq0 c = record {
  row_value = ends_last c.args.s.now c.args.row (omega (arith, c.then-row-eq0.either));
  goes_on = tt;
}

pub returns-in_default : goal.returns-in_default
returns-in_default c = record {
  row_value = ends_cut c.args.s.now c.args.row c.pattern_head.ensures c.in_default.is;
  goes_on = tt;
}

pub overflow_add-rest : goal.overflow_add-rest
overflow_add-rest c =
    omega (
      arith,
      record_there c.args.s.now c.args.row c.pattern_head.ensures c.in-Ok.is c.record_length.ensures c.requires,
    )

pub returns : goal.returns
returns c =
    let s = c.args.s.now in
    let row = c.args.row in
    let is = c.pattern_head.ensures in
    let e = c.in-Ok.is in
    let size = c.record_length.ensures in
    let more = c.arguments.ensures.0 in
    let most : 1 ≤ row.most = omega arith in
    let patterns : 1 ≤ row.patterns = omega arith in record {
      row_value = goes_next s row is e size more most patterns;
      goes_on = goes_on s row is e size more most patterns c.requires c.arguments.ensures.1;
    }
