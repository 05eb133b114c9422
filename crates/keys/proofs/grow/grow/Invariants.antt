-- `grow::grow` meets its contract. The loop's invariant: what is left to look at from the keys met gives all.
use Prim.Native.Nat.{◌-◌, ◌*◌, ◌≤◌}
use mathlib.Core.Path.{◌≡◌}
use lib.ListN.{length}
use Rattle.met.specs.views.KeysMet.{count_in, keys_in, Chained}
use Rattle.keys.specs.views.Expanded.{most_length}
use Rattle.keys.proofs.GrowingKeys.{Growing}
use Rattle.keys.proofs.grow.grow.Given as goal

abbrev pub invariant-loop-k : goal.invariant-loop-k
invariant-loop-k l =
    Chained l.keys × (length l.runs ≡ 579) × (l.k ≤ count_in l.keys) × (l.bytes ≤ most_length * l.k) × Growing l.s l.c (keys_in l.keys) l.k l.bytes

abbrev pub decreases-loop-k : goal.decreases-loop-k
decreases-loop-k l = 1024 - l.k
