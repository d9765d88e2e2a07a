-- Nothing, or what the instruction gives. Assumes nothing.
use Rattle.graph.proofs.AddingLaws.{added_none}
use Rattle.builder.proofs.edges.emit_if.Goals as goal

pub returns-else-ends : goal.returns-else-ends
returns-else-ends c = rw c.if-ends.false (added_none _)
