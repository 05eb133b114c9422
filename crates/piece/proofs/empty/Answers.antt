-- `empty` meets its contract: the cells of one argument after another are emptied, and from there on they were empty.
use mathlib.Core.Path.{◌∙◌}
use native.Mathlib.Omega.{arith}
use Rattle.std.proofs.lemmas.Grind.{div_ceil_times}
use Rattle.piece.proofs.Emptying.{emptied_more, emptied_to, emptied_all, argument_still}
use Rattle.piece.proofs.empty.Goals as goal

pub empty_argument-requires : goal.empty_argument-requires
empty_argument-requires c =
    let used = c.requires.1 in
    let so_far = c.loop-a.invariant in
    (omega arith, so_far.size ∙ used.size, argument_still so_far (omega arith) (used.arguments c.loop-a.a))

pub loop-a-preserved : goal.loop-a-preserved
loop-a-preserved c =
    emptied_to (emptied_more c.loop-a.invariant (omega arith) c.empty_argument.ensures (omega arith)) (omega arith)

pub returns : goal.returns
returns c =
    let ceiling = c.div_ceil-a-end.ensures in
    emptied_all c.requires.1 (omega (arith, div_ceil_times c.args.used 85 (omega arith))) c.loop-a.invariant
