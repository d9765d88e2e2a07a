-- `add_unresolved` meets its contract. Assumes nothing.
use native.Mathlib.Omega.{arith}
use borrow.Author.Rules.{rules}
use Rattle.graph.proofs.RecordLaws.{unresolved_added, step_more, step_full}
use Rattle.graph.proofs.store.unresolved.add_unresolved.Goals as goal

pub returns-then-n-lt-MOST_UNRESOLVED : goal.returns-then-n-lt-MOST_UNRESOLVED
returns-then-n-lt-MOST_UNRESOLVED c = unresolved_added (step_more (search rules) (omega arith))

pub returns-else-n-lt-MOST_UNRESOLVED : goal.returns-else-n-lt-MOST_UNRESOLVED
returns-else-n-lt-MOST_UNRESOLVED c = unresolved_added (step_full (omega arith))
