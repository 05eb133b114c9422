-- `lines::put_sheet_line` meets its contract: the word, then four numbers, one behind another.
use Prim.Native.Nat.{◌+◌, ◌≤◌}
use mathlib.Core.Path.{sym}
use lib.ListN.{length}
use borrow.Author.Rules.{rules}
use Rattle.lines.specs.Lines.{sheet_line}
use Rattle.lines.proofs.Wrote.{Five, joined, wrote_as, room_as, fits_2, fits_3, fits_4, fits_5, wrote_five}
use Rattle.lines.proofs.LineParts.{sheet_parts, sheet_parts_lem}
use Rattle.lines.proofs.LineSizes.{sheet_size, line_fits, line_ends}
use Rattle.lines.proofs.put_sheet_line.Goals as goal
use Rattle.lines.proofs.put_sheet_line.Goals.{Start}

module _ (c : goal.Start) where
  abbrev parts : Five
  parts = sheet_parts c.args.arity c.args.rules c.args.tests c.args.nodes

  size : length (sheet_line c.args.arity c.args.rules c.args.tests c.args.nodes) ≤ 24
  size =
      sheet_size c.args.arity c.args.rules c.args.tests c.args.nodes
      (search rules) (search rules) (search rules) (search rules)

  room : c.args.at + length (joined parts) ≤ length c.args.buf.now
  room =
      room_as c.args.buf.now c.args.at
      (sheet_parts_lem c.args.arity c.args.rules c.args.tests c.args.nodes)
      (line_fits c.args.at _ 24 _ size c.requires)

pub put_number-first-requires : goal.put_number-first-requires
put_number-first-requires c =
    fits_2 c.args.buf.now c.args.at (parts (goal.at.put_number-first-requires c).Start) (room (goal.at.put_number-first-requires c).Start)
    c.put-word.ensures

pub put_number-second-requires : goal.put_number-second-requires
put_number-second-requires c =
    fits_3 c.args.buf.now c.args.at (parts (goal.at.put_number-second-requires c).Start) (room (goal.at.put_number-second-requires c).Start)
    c.put-word.ensures c.put_number-first.ensures

pub put_number-third-requires : goal.put_number-third-requires
put_number-third-requires c =
    fits_4 c.args.buf.now c.args.at (parts (goal.at.put_number-third-requires c).Start) (room (goal.at.put_number-third-requires c).Start)
    c.put-word.ensures c.put_number-first.ensures c.put_number-second.ensures

pub put_number-requires : goal.put_number-requires
put_number-requires c =
    fits_5 c.args.buf.now c.args.at (parts (goal.at.put_number-requires c).Start) (room (goal.at.put_number-requires c).Start)
    c.put-word.ensures c.put_number-first.ensures c.put_number-second.ensures
    c.put_number-third.ensures

pub returns : goal.returns
returns c =
    let a = c.args in
    let all =
    wrote_as a.buf.now a.at (sym (sheet_parts_lem a.arity a.rules a.tests a.nodes))
    (wrote_five a.buf.now a.at (parts (goal.at.returns c).Start) (room (goal.at.returns c).Start)
    c.put-word.ensures c.put_number-first.ensures c.put_number-second.ensures
    c.put_number-third.ensures c.put_number.ensures) in record {
      value = all;
      upper_bound = line_ends a.at _ 24 (size (goal.at.returns c).Start) all.0;
    }
