-- `add_call` meets its contract. Assumes nothing.
use native.Mathlib.Omega.{arith}
use borrow.Author.Rules.{rules}
use Rattle.graph.proofs.RecordLaws.{call_added, step_more, step_full}
use Rattle.graph.proofs.store.calls.add_call.Goals as goal

pub returns-then-n-lt-MOST_CALLS : goal.returns-then-n-lt-MOST_CALLS
returns-then-n-lt-MOST_CALLS c = call_added (step_more (search rules) (omega arith))

pub returns-else-n-lt-MOST_CALLS : goal.returns-else-n-lt-MOST_CALLS
returns-else-n-lt-MOST_CALLS c = call_added (step_full (omega arith))
