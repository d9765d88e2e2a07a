-- `add_entry` meets its contract. Assumes nothing.
use native.Mathlib.Omega.{arith}
use borrow.Author.Rules.{rules}
use Rattle.graph.proofs.RecordLaws.{entry_added, step_more, step_full}
use Rattle.graph.proofs.store.table.add_entry.Goals as goal

pub returns-then-n-lt-MOST_ENTRIES : goal.returns-then-n-lt-MOST_ENTRIES
returns-then-n-lt-MOST_ENTRIES c = entry_added (step_more (search rules) (omega arith))

pub returns-else-n-lt-MOST_ENTRIES : goal.returns-else-n-lt-MOST_ENTRIES
returns-else-n-lt-MOST_ENTRIES c = entry_added (step_full (omega arith))
