-- `walk` meets its contract. The loop's invariant is `Works`; what is left to do falls at each turn. Assumes nothing.
use lib.ListN.{length}
use Rattle.graph.specs.Lent.{held_of}
use Rattle.graph.specs.Search.{Works, left}
use Rattle.graph.proofs.reach.walk.Given as goal

abbrev pub invariant-loop-b : goal.invariant-loop-b
invariant-loop-b l = Works (held_of l.g).graph 0 (length (held_of l.g).graph.edges) l.seen l.pending

abbrev pub decreases-loop-b : goal.decreases-loop-b
decreases-loop-b l = left l.seen l.pending
