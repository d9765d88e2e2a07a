-- `guard_blocks` meets its contract. The loop's invariant: the blocks passed start below `end`, set r has those that keep their
-- exception edge, and no other set changed. Assumes nothing.
use Rattle.graph.specs.Lent.{held_of}
use Rattle.unwind.specs.Placed.{set_at, SetChanged}
use Rattle.unwind.proofs.GuardLaws.{Guarding}
use Rattle.unwind.proofs.blocks.guard_blocks.Given as goal

abbrev pub invariant-loop-b : goal.invariant-loop-b
invariant-loop-b l = Guarding (held_of l.g).graph l.end l.first l.b (set_at l.guards l.r) × SetChanged l.initial.guards l.r l.guards
