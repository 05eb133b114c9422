-- `masks::has` meets its contract: the shifted word's lowest bit is the digit that `has` reads. Assumes nothing.
use Rattle.masks.proofs.Membership.{test_is}
use Rattle.masks.proofs.has.Goals as goal

pub returns : goal.returns
returns c = test_is c.args.m c.args.i
