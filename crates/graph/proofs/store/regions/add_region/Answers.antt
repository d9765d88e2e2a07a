-- `add_region` meets its contract. Assumes nothing.
use native.Mathlib.Omega.{arith}
use borrow.Author.Rules.{rules}
use Rattle.graph.proofs.RecordLaws.{region_added, step_more, step_full}
use Rattle.graph.proofs.store.regions.add_region.Goals as goal

pub returns-then-n-lt-MOST_REGIONS : goal.returns-then-n-lt-MOST_REGIONS
returns-then-n-lt-MOST_REGIONS c = region_added (step_more (search rules) (omega arith))

pub returns-else-n-lt-MOST_REGIONS : goal.returns-else-n-lt-MOST_REGIONS
returns-else-n-lt-MOST_REGIONS c = region_added (step_full (omega arith))
