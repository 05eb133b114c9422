-- `masks::size` meets its contract: `count_ones` counts the members. Assumes nothing.
use mathlib.Core.Path.{sym}
use native.Mathlib.Omega.{arith}
use lib.Count.{ones-le}
use borrow.Author.Rules.{rules}
use Rattle.masks.proofs.Members.{members_ones}
use Rattle.masks.proofs.size.Goals as goal

pub overflow_cast-result : goal.overflow_cast-result
overflow_cast-result c = omega (arith, ones-le 64 c.args.m (search rules))

pub returns : goal.returns
returns c = sym (members_ones 64 c.args.m (search rules))
