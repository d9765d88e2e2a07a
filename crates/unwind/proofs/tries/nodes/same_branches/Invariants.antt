-- `same_branches` meets its contract. The invariant: the branches passed are the same, so that those left decide. Assumes
-- nothing.
use Rattle.image.specs.Image.{routes_in}
use Rattle.unwind.proofs.TrieNodes.{Alike}
use Rattle.unwind.proofs.tries.nodes.same_branches.Given as goal

abbrev pub invariant-loop-i : goal.invariant-loop-i
invariant-loop-i l = Alike (routes_in l.s l.y) l.kind l.list l.a l.b l.n l.i
