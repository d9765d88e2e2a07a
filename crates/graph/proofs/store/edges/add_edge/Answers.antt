-- `add_edge` meets its contract. Assumes nothing.
use native.Mathlib.Omega.{arith}
use borrow.Author.Rules.{rules}
use Rattle.graph.proofs.RecordLaws.{edge_added, step_more, step_full}
use Rattle.graph.proofs.store.edges.add_edge.Goals as goal

pub returns-then-n-lt-MOST_EDGES : goal.returns-then-n-lt-MOST_EDGES
returns-then-n-lt-MOST_EDGES c = edge_added (step_more (search rules) (omega arith))

pub returns-else-n-lt-MOST_EDGES : goal.returns-else-n-lt-MOST_EDGES
returns-else-n-lt-MOST_EDGES c = edge_added (step_full (omega arith))
