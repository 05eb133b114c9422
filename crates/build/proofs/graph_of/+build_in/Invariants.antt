-- It calls itself for the next room, of three.
use Prim.Native.Nat.{◌-◌}
use Rattle.build.proofs.graph_of.+build_in.Given as goal

abbrev pub decreases-build_in : goal.decreases-build_in
decreases-build_in l = 2 - l.room
