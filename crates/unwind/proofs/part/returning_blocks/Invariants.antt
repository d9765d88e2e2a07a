-- `returning_blocks` meets its contract. The loop's invariant: the set has the blocks passed that return. Assumes nothing.
use Rattle.graph.specs.Lent.{held_of}
use Rattle.unwind.proofs.PartLaws.{ReturnersTo}
use Rattle.unwind.proofs.part.returning_blocks.Given as goal

abbrev pub invariant-loop-b : goal.invariant-loop-b
invariant-loop-b l = ReturnersTo (held_of l.g).graph l.b l.set
