-- `lines::put_piece_line` meets its contract: number, word, rule, edges and wait list, one behind another.
use Prim.Native.Nat.{ℕ, ◌+◌, ◌≤◌, ◌<◌}
use mathlib.Core.Path.{◌≡◌, sym, ap, subst, ◌∙◌}
use lib.ListN.{length}
use borrow.Author.Rules.{rules}
use Rattle.plain.specs.Plain.{answer_of}
use Rattle.digits.specs.Decimal.{decimal}
use Rattle.lines.specs.Lines.{hex16, answer_word, piece_line}
use Rattle.lines.proofs.Wrote.{Five, joined, wrote_as, room_as, fits_1, fits_2, fits_3, fits_4, fits_5, wrote_five}
use Rattle.lines.proofs.LineParts.{five_parts, piece_parts_lem}
use Rattle.lines.proofs.LineSizes.{piece_size, line_fits, line_ends}
use Rattle.lines.proofs.put_piece_line.Goals as goal
use Rattle.lines.proofs.put_piece_line.Goals.{After-rule_of-rule}

module _ (c : goal.After-rule_of-rule) where
  -- The line's parts where its rule is r, and where it is the rule that was handed back.
  abbrev parts_with : ℕ → Five
  parts_with r =
      five_parts (decimal c.args.number) (answer_word (answer_of c.args.answer)) (decimal r)
      (decimal c.args.edges) (hex16 c.args.waits)

  abbrev parts : Five
  parts = parts_with c.rule_of-rule.result

  apart
      : piece_line c.args.number (answer_of c.args.answer) c.args.edges
      c.args.waits
      ≡ joined parts
  apart =
      piece_parts_lem c.args.number (answer_of c.args.answer) c.args.edges
      c.args.waits
      ∙ ap (λ (r : ℕ). joined (parts_with r)) (sym c.rule_of-rule.ensures)

  size
      : length
      (piece_line c.args.number (answer_of c.args.answer) c.args.edges
      c.args.waits)
      ≤ 44
  size =
      let small : c.rule_of-rule.result < 256 = search rules in
      piece_size c.args.number (answer_of c.args.answer) c.args.edges
      c.args.waits (search rules)
      (subst (λ (r : ℕ). r < 256) c.rule_of-rule.ensures small) (search rules)

  room : c.args.at + length (joined parts) ≤ length c.args.buf.now
  room =
      room_as c.args.buf.now c.args.at apart
      (line_fits c.args.at _ 44 _ size c.requires)

pub put_number-first-requires : goal.put_number-first-requires
put_number-first-requires c =
    let a = c.args in
    fits_1 a.buf.now a.at (parts (goal.at.put_number-first-requires c).After-rule_of-rule) (room (goal.at.put_number-first-requires c).After-rule_of-rule)

pub put_word-second-requires : goal.put_word-second-requires
put_word-second-requires c =
    let a = c.args in
    fits_2 a.buf.now a.at (parts (goal.at.put_word-second-requires c).After-rule_of-rule) (room (goal.at.put_word-second-requires c).After-rule_of-rule)
    c.put_number-first.ensures

pub put_number-third-requires : goal.put_number-third-requires
put_number-third-requires c =
    let a = c.args in
    fits_3 a.buf.now a.at (parts (goal.at.put_number-third-requires c).After-rule_of-rule) (room (goal.at.put_number-third-requires c).After-rule_of-rule)
    c.put_number-first.ensures c.put_word-second.ensures

pub put_number-fourth-requires : goal.put_number-fourth-requires
put_number-fourth-requires c =
    let a = c.args in
    fits_4 a.buf.now a.at (parts (goal.at.put_number-fourth-requires c).After-rule_of-rule) (room (goal.at.put_number-fourth-requires c).After-rule_of-rule)
    c.put_number-first.ensures c.put_word-second.ensures c.put_number-third.ensures

pub put_waits-requires : goal.put_waits-requires
put_waits-requires c =
    let a = c.args in
    fits_5 a.buf.now a.at (parts (goal.at.put_waits-requires c).After-rule_of-rule) (room (goal.at.put_waits-requires c).After-rule_of-rule)
    c.put_number-first.ensures c.put_word-second.ensures c.put_number-third.ensures
    c.put_number-fourth.ensures

pub returns : goal.returns
returns c =
    let a = c.args in
    let all =
    wrote_as a.buf.now a.at (sym (apart (goal.at.returns c).After-rule_of-rule))
    (wrote_five a.buf.now a.at (parts (goal.at.returns c).After-rule_of-rule) (room (goal.at.returns c).After-rule_of-rule)
    c.put_number-first.ensures c.put_word-second.ensures c.put_number-third.ensures
    c.put_number-fourth.ensures c.put_waits.ensures) in record {
      value = all;
      upper_bound = line_ends a.at _ 44 (size (goal.at.returns c).After-rule_of-rule) all.0;
    }
