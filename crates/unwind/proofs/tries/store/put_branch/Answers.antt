-- `put_branch` meets its contract. Assumes nothing.
use Rattle.unwind.proofs.TrieStore.{branch_put}
use Rattle.unwind.proofs.tries.store.put_branch.Goals as goal

pub returns : goal.returns
returns c = branch_put c.args.list.now _ c.args.k c.args.b c.put_three.ensures
