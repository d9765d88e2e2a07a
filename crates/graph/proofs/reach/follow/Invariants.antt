-- `follow` meets its contract. The loop's invariant: the links of b are followed up to `at`. Assumes nothing.
use Rattle.graph.specs.Lent.{held_of}
use Rattle.graph.proofs.SearchLaws.{Going, togo}
use Rattle.graph.proofs.reach.follow.Given as goal

abbrev pub invariant-loop-at : goal.invariant-loop-at
invariant-loop-at l = Going (held_of l.g).graph l.b l.at l.initial.seen l.initial.pending l.seen l.pending

abbrev pub decreases-loop-at : goal.decreases-loop-at
decreases-loop-at l = togo (held_of l.g).graph l.at
