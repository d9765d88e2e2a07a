-- `add_block` meets its contract. Assumes nothing.
use native.Mathlib.Omega.{arith}
use borrow.Author.Rules.{rules}
use Rattle.graph.proofs.RecordLaws.{block_added, step_more, step_full}
use Rattle.graph.proofs.store.blocks.add_block.Goals as goal

pub returns-then-n-lt-MOST_BLOCKS : goal.returns-then-n-lt-MOST_BLOCKS
returns-then-n-lt-MOST_BLOCKS c = block_added (step_more (search rules) (omega arith))

pub returns-else-n-lt-MOST_BLOCKS : goal.returns-else-n-lt-MOST_BLOCKS
returns-else-n-lt-MOST_BLOCKS c = block_added (step_full (omega arith))
