-- `met::find` meets its contract. The loop's invariant: the keys passed are others.
use Rattle.edges.specs.views.VertexKey.{key_with}
use Rattle.met.proofs.Chains.{Searching}
use Rattle.met.proofs.find.Given as goal

abbrev pub invariant-search : goal.invariant-search
invariant-search l = Searching l.t (key_with l.live l.pending) l.after

abbrev pub decreases-search : goal.decreases-search
decreases-search l = l.after
