-- `edges_out` meets its contract. The loop's invariant: what is counted and the edges out of the blocks left are all. Assumes nothing.
use mathlib.Core.Path.{◌≡◌}
use Prim.Native.Nat.{◌+◌}
use lib.ListN.{length}
use Rattle.graph.specs.Lent.{held_of}
use Rattle.graph.specs.BlockSet.{size_of}
use Rattle.graph.proofs.NextLaws.{left_from}
use Rattle.addition.specs.Lists.{joined}
use Rattle.addition.specs.Part.{outgoing}
use Rattle.unwind.specs.Clones.{list_of}
use Rattle.unwind.proofs.clones.edges_out.Given as goal

abbrev pub invariant-loop-b : goal.invariant-loop-b
invariant-loop-b l = l.count + length (joined (outgoing (held_of l.g).graph) (list_of (left_from l.set l.from))) ≡ length (joined (outgoing (held_of l.g).graph) (list_of l.set))

abbrev pub decreases-loop-b : goal.decreases-loop-b
decreases-loop-b l = size_of (left_from l.set l.from)
