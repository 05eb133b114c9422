-- `node::node_of` meets its contract: the number is at most 1,024.
use native.Mathlib.Omega.{arith}
use Rattle.edges.specs.views.VertexKey.{key_in}
use Rattle.met.proofs.Meeting.{number_few}
use Rattle.emit.proofs.node.node_of.Goals as goal

pub overflow_cast-result : goal.overflow_cast-result
overflow_cast-result c =
    let find = c.find in
    omega (arith, find.ensures, number_few c.args.keys.now c.requires (key_in c.args.key))
