-- A repeated variable without a number gets the next one.
use Prim.Native.Nat.{◌%◌}
use mathlib.Core.Path.{◌∙◌}
use lib.ListN.{get_or, length-set}
use native.Mathlib.Omega.{arith}
use Rattle.rule_rows.proofs.WordLaws.{number_none, number_given}
use Rattle.rule_rows.proofs.words.number_variable.Goals as goal

pub returns-then-word-ne2 : goal.returns-then-word-ne2
returns-then-word-ne2 c =
    let words = c.args.words.now in
    let v = c.args.v in
    let w = get_or words (v % 16) 0 in
    let count = c.args.count in record {
      result_value = number_none v w words count c.if-word-ne2.true;
      words_len = (c.requires.0, omega arith);
    }

pub returns : goal.returns
returns c =
    let words = c.args.words.now in
    let v = c.args.v in
    let w = get_or words (v % 16) 0 in
    let count = c.args.count in record {
      result_value = number_given v w words count c.if-word-ne2.false;
      words_len = (length-set words (v % 16) _ ∙ c.requires.0, omega arith);
    }
