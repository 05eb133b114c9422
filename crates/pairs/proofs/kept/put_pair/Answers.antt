-- A pair more: too many stay too many, one that is there stays once, and any other is put where it belongs.
use Rattle.std.proofs.Common.{arith}
use Rattle.pairs.proofs.KeptLists.{keep_many, keep_there, keep_here, slot_low}
use Rattle.pairs.proofs.PutPairs.{start_passed, put_there, put_here}
use Rattle.pairs.proofs.kept.put_pair.Goals as goal
use Rattle.pairs.proofs.kept.put_pair.Goals.{else-at-n-via-then-at-n+else-codes-at, else-at-n-via-else-at-n}

pub returns-then-put-gt64-clause-count_after : goal.returns-then-put-gt64-clause-count_after
returns-then-put-gt64-clause-count_after c =
    keep_many c.args.codes.now c.args.put.count c.args.code c.if-put-gt64.true

pub position-at-requires : goal.position-at-requires
position-at-requires c =
    let from = start_passed c.args.codes.now c.args.put c.args.code c.requires c.passed_by.ensures in
    (from.0, omega arith, c.requires.all_codes, from.1)

pub returns-then-codes-at : goal.returns-then-codes-at
returns-then-codes-at c =
    let a = c.args in
    let position = c.position-at in record {
      count_after = keep_there a.codes.now a.put.count a.code (omega arith) (omega (arith, c.requires.all_codes))
          position.result position.ensures c.if-at-n.true c.if-codes-at.true;
      put_at = put_there a.codes.now a.put.count a.code (omega arith) c.requires.all_codes position.result
          position.ensures c.if-at-n.true c.if-codes-at.true;
    }

pub insert_at-requires : goal.insert_at-requires
insert_at-requires c =
    let a = c.args in
    let position = c.position-at in (
      slot_low a.codes.now a.put.count a.code (omega arith) (omega (arith, c.requires.all_codes)) position.result
          position.ensures,
      omega arith,
      c.requires.all_codes,
    )

pub returns : goal.returns
returns c =
    let a = c.args in
    let position = c.position-at in record {
      count_after = keep_here a.codes.now a.put.count a.code (omega arith) (omega (arith, c.requires.all_codes)) position.result
          position.ensures c.insert_at.new.codes (omega (arith, c.insert_at.ensures.codes_len))
          (elim c.else-at-n.branch [
            | else-at-n-via-then-at-n+else-codes-at w ↦ λ l. w.if-codes-at.false
            | else-at-n-via-else-at-n w ↦ λ l. absurd (omega (arith, w.if-at-n.false))
          ])
          c.insert_at.ensures.codes_after;
      put_at = put_here a.codes.now a.put.count a.code (omega arith) c.requires.all_codes position.result
          position.ensures c.insert_at.new.codes c.insert_at.ensures.codes_len c.insert_at.ensures.codes_after;
    }
