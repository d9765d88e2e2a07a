-- `add_clone_blocks` meets its contract. The loop's invariant: the copies of the blocks of the nodes before i are added. Assumes nothing.
use Rattle.graph.specs.Lent.{held_of}
use Rattle.graph.specs.Stored.{Stored}
use Rattle.graph.specs.Adding.{with_blocks}
use Rattle.unwind.specs.Clones.{block_copies}
use Rattle.unwind.proofs.clones.add_clone_blocks.Given as goal

abbrev pub invariant-loop-i : goal.invariant-loop-i
invariant-loop-i l = Stored l.initial.g l.g (with_blocks (held_of l.initial.g) (block_copies (held_of l.initial.g).graph l.bases l.parts l.i))
