-- `put_node` meets its contract. Assumes nothing.
use Rattle.unwind.proofs.TrieStore.{node_put}
use Rattle.unwind.proofs.tries.store.put_node.Goals as goal

pub returns : goal.returns
returns c = node_put c.args.nodes.now _ _ c.args.i c.args.x c.put_three.ensures c.put_three-2.ensures
