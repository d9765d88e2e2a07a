-- `copy_from` meets its contract. The loop's invariant: the copies of the edges before the one at hand are added. Assumes nothing.
use lib.ListN.{length}
use Rattle.graph.specs.Lent.{held_of}
use Rattle.unwind.specs.Clones.{first_edges}
use Rattle.unwind.proofs.ChainLaws.{chain}
use Rattle.unwind.proofs.StoodLaws.{EdgesGoing}
use Rattle.unwind.proofs.clones.copy_from.Given as goal

abbrev pub invariant-loop-at : goal.invariant-loop-at
invariant-loop-at l = EdgesGoing l.m l.base l.set l.b l.initial.g l.g l.at

abbrev pub decreases-loop-at : goal.decreases-loop-at
decreases-loop-at l = length (chain (first_edges (held_of l.initial.g).graph l.m) l.b l.at)
