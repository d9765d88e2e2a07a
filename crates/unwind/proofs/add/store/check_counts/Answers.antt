-- `check_counts` meets its contract: the edges, then the hops, then the lists. Assumes nothing.
use native.Mathlib.Omega.{arith}
use Rattle.graph.proofs.RecordLaws.{edge_most}
use Rattle.unwind.proofs.add.store.check_counts.Goals as goal

pub overflow_sub-left : goal.overflow_sub-left
overflow_sub-left c = let w = c.args.g.now in omega (arith, c.edge_count-left.ensures, edge_most w)
