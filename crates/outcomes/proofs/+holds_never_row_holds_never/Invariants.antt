-- The levels below fall from a term to its arguments, and the number of terms along a row: a compound has at most 4 arguments, so 6
-- for each level and 1 for each term still to come are enough.
use Prim.Native.Nat.{◌+◌, ◌*◌}
use Rattle.outcomes.proofs.+holds_never_row_holds_never.Given as goal

abbrev pub decreases-holds_never : goal.decreases-holds_never
decreases-holds_never l = 6 * l.below

abbrev pub decreases-row_holds_never : goal.decreases-row_holds_never
decreases-row_holds_never l = 6 * l.below + l.n + 1
