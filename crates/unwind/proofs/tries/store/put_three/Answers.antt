-- `put_three` meets its contract. Assumes nothing.
use lib.ListN.{length-set}
use Rattle.unwind.proofs.TrieStore.{three_put}
use native.Mathlib.Omega.{arith}
use Rattle.unwind.proofs.tries.store.put_three.Goals as goal

pub bounds-list-at-2 : goal.bounds-list-at-2
bounds-list-at-2 c = simp length-set (omega arith)

pub bounds-list-at-3 : goal.bounds-list-at-3
bounds-list-at-3 c = simp length-set (omega arith)

pub returns : goal.returns
returns c = three_put c.args.list.now c.args.at c.args.a c.args.b c.args.c (omega arith)

pub shape_of-list : goal.shape_of-list
shape_of-list c = simp length-set
