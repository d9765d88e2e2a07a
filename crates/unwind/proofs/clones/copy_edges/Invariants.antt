-- `copy_edges` meets its contract. The loop's invariant: the copies of the edges out of the blocks before `from` are added. Assumes nothing.
use Rattle.graph.specs.BlockSet.{size_of}
use Rattle.graph.proofs.NextLaws.{left_from}
use Rattle.unwind.proofs.StoodLaws.{SetGoing}
use Rattle.unwind.proofs.clones.copy_edges.Given as goal

abbrev pub invariant-loop-b : goal.invariant-loop-b
invariant-loop-b l = SetGoing l.m l.base l.set l.initial.g l.g (left_from l.set l.from)

abbrev pub decreases-loop-b : goal.decreases-loop-b
decreases-loop-b l = size_of (left_from l.set l.from)
