-- `node_writing::put_node` meets its contract, for each node.
use borrow.Author.Rules.{rules}
use Rattle.node_writing.proofs.put_node.Goals as goal

pub put_leaf-requires : goal.put_leaf-requires
put_leaf-requires c = rw c.in-End.is at c.requires

pub put_switch-requires : goal.put_switch-requires
put_switch-requires c = rw c.in-Switch.is at c.requires

pub put_pair-requires : goal.put_pair-requires
put_pair-requires c = rw c.in-Pair.is at c.requires

pub returns-in-End : goal.returns-in-End
returns-in-End c = rw c.in-End.is c.put_leaf.ensures

pub returns-in-Switch : goal.returns-in-Switch
returns-in-Switch c = rw c.in-Switch.is c.put_switch.ensures

pub returns-in-Pair : goal.returns-in-Pair
returns-in-Pair c = rw c.in-Pair.is c.put_pair.ensures
