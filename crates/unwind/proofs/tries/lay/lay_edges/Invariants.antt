-- `lay_edges` meets its contract. The invariant: the edges passed are laid. Assumes nothing.
use Prim.Native.Nat.{◌≤◌}
use Rattle.image.specs.Image.{routes_in}
use Rattle.unwind.proofs.TrieLaid.{EdgesBelow}
use Rattle.unwind.proofs.tries.lay.lay_edges.Given as goal

abbrev pub invariant-loop-k : goal.invariant-loop-k
invariant-loop-k l = (l.k ≤ l.n) × EdgesBelow (routes_in l.s l.y) l.stack l.top l.initial.edges l.at l.edges l.count l.k
