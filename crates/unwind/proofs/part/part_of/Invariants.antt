-- `part_of` meets its contract: in the bounded graph the worklist finds what is reached. The loop's invariant is `Works` with set i
-- as what is seen, and no other set changed; what is left to do falls at each turn. Assumes nothing.
use lib.ListN.{length}
use Rattle.graph.specs.Lent.{held_of}
use Rattle.graph.specs.Search.{Works, left}
use Rattle.unwind.specs.PartSearch.{bounded}
use Rattle.unwind.specs.Placed.{set_at, SetChanged}
use Rattle.unwind.proofs.part.part_of.Given as goal

abbrev pub invariant-loop-b : goal.invariant-loop-b
invariant-loop-b l = Works (bounded (held_of l.g).graph l.barriers l.start) 0 (length (bounded (held_of l.g).graph l.barriers l.start).edges) (set_at l.parts l.i) l.pending × SetChanged l.initial.parts l.i l.parts

abbrev pub decreases-loop-b : goal.decreases-loop-b
decreases-loop-b l = left (set_at l.parts l.i) l.pending
