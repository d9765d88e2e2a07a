-- `add_handler` meets its contract. Assumes nothing.
use native.Mathlib.Omega.{arith}
use borrow.Author.Rules.{rules}
use Rattle.graph.proofs.RecordLaws.{handler_added, step_more, step_full}
use Rattle.graph.proofs.store.handlers.add_handler.Goals as goal

pub returns-then-n-lt-MOST_HANDLERS : goal.returns-then-n-lt-MOST_HANDLERS
returns-then-n-lt-MOST_HANDLERS c = handler_added (step_more (search rules) (omega arith))

pub returns-else-n-lt-MOST_HANDLERS : goal.returns-else-n-lt-MOST_HANDLERS
returns-else-n-lt-MOST_HANDLERS c = handler_added (step_full (omega arith))
