-- `count_hops` meets its contract. Assumes nothing.
use Rattle.unwind.proofs.SizeLaws.{sizes_start}
use Rattle.unwind.proofs.emit.all.count_hops.Goals as goal

pub emit_hops-requires-clause-start : goal.emit_hops-requires-clause-start
emit_hops-requires-clause-start c = sizes_start

pub returns : goal.returns
returns c = c.emit_hops.ensures.1.of
