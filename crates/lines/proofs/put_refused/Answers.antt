-- `lines::put_refused` meets its contract: the word, then the number.
use Prim.Native.Nat.{◌+◌, ◌≤◌}
use mathlib.Core.Path.{sym}
use mathlib.Core.List.{◌++◌}
use lib.ListN.{length}
use borrow.Author.Rules.{rules}
use Rattle.digits.specs.Decimal.{decimal}
use Rattle.lines.specs.Lines.{refused_word}
use Rattle.lines.proofs.Wrote.{wrote_as, room_as, rest_fits, wrote_more}
use Rattle.lines.proofs.LineParts.{spaced, ended, refused_parts}
use Rattle.lines.proofs.LineSizes.{refused_size, line_fits, line_ends}
use Rattle.lines.proofs.put_refused.Goals as goal
use Rattle.lines.proofs.put_refused.Goals.{Start}

room
    : (c : goal.Start)
    → c.args.at + length (spaced refused_word ++ ended (decimal c.args.question)) ≤ length c.args.buf.now
room c =
    room_as c.args.buf.now c.args.at (refused_parts c.args.question)
    (line_fits c.args.at _ 12 _ (refused_size c.args.question (search rules)) c.requires)

pub put_number-requires : goal.put_number-requires
put_number-requires c =
    let a = c.args in
    rest_fits a.buf.now a.at (spaced refused_word) (ended (decimal a.question)) (room (goal.at.put_number-requires c).Start) c.put-word.ensures

pub returns : goal.returns
returns c =
    let a = c.args in
    let all =
    wrote_as a.buf.now a.at (sym (refused_parts a.question))
    (wrote_more a.buf.now a.at (spaced refused_word) (ended (decimal a.question)) (room (goal.at.returns c).Start)
    c.put-word.ensures c.put_number.ensures) in record {
      value = all;
      upper_bound = line_ends a.at _ 12 (refused_size a.question (search rules)) all.0;
    }
