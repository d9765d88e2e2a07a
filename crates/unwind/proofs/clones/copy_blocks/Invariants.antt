-- `copy_blocks` meets its contract. The loop's invariant: the blocks before `from` are added. Assumes nothing.
use Rattle.graph.specs.BlockSet.{size_of}
use Rattle.graph.proofs.NextLaws.{left_from}
use Rattle.unwind.proofs.StoodLaws.{BlocksGoing}
use Rattle.unwind.proofs.clones.copy_blocks.Given as goal

abbrev pub invariant-loop-b : goal.invariant-loop-b
invariant-loop-b l = BlocksGoing l.initial.g l.g l.set (left_from l.set l.from)

abbrev pub decreases-loop-b : goal.decreases-loop-b
decreases-loop-b l = size_of (left_from l.set l.from)
