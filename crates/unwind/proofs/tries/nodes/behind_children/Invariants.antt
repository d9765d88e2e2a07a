-- `behind_children` meets its contract. The invariant: that of the edges passed. Assumes nothing.
use Prim.Native.Nat.{◌≤◌}
use Rattle.unwind.specs.Lower.{BehindChildren}
use Rattle.unwind.proofs.tries.nodes.behind_children.Given as goal

abbrev pub invariant-loop-k : goal.invariant-loop-k
invariant-loop-k l = (l.k ≤ l.n) × BehindChildren l.edges l.first l.k l.low
