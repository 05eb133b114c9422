-- The levels below fall from a term to its arguments, and the number of pairs along a row: a compound has at most 4 arguments, so 6
-- for each level and 1 for each pair still to come are enough.
use Prim.Native.Nat.{◌+◌, ◌*◌}
use Rattle.outcomes.proofs.+compare_compare_args.Given as goal

abbrev pub decreases-compare : goal.decreases-compare
decreases-compare l = 6 * l.below

abbrev pub decreases-compare_args : goal.decreases-compare_args
decreases-compare_args l = 6 * l.below + l.n + 1
