-- `leads_on` meets its contract. The loop's invariant: no ordinary edge out of b stands before the link at hand. Assumes nothing.
use lib.ListN.{length}
use Rattle.graph.specs.Lent.{held_of}
use Rattle.unwind.proofs.ChainLaws.{chain}
use Rattle.unwind.proofs.PartLaws.{Seeking}
use Rattle.unwind.proofs.part.leads_on.Given as goal

abbrev pub invariant-loop-at : goal.invariant-loop-at
invariant-loop-at l = Seeking (held_of l.g).graph l.b l.at

abbrev pub decreases-loop-at : goal.decreases-loop-at
decreases-loop-at l = length (chain (held_of l.g).graph l.b l.at)
