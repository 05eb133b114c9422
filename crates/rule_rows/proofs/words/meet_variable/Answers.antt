-- The variable's word is met.
use Prim.Native.Nat.{◌%◌}
use mathlib.Core.Path.{ap, ◌∙◌}
use lib.ListN.{length-set, set}
use Rattle.rule_rows.proofs.words.meet_variable.Goals as goal

pub returns : goal.returns
returns c =
    let words = c.args.words.now in record {
      words_after = ap (set words (c.args.v % 16)) c.met.ensures;
      words_len = length-set words (c.args.v % 16) _ ∙ c.requires;
    }
