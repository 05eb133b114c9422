-- The parts are taken out, met, and put together again.
use Rattle.rule_rows.proofs.WordLaws.{met_is}
use Rattle.rule_rows.proofs.words.met.Goals as goal

pub returns : goal.returns
returns c = met_is c.args.word c.args.low c.args.high c.min-uses.ensures c.min-most.ensures c.max-least.ensures
