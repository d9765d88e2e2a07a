-- Nothing stands before position 0. Assumes nothing.
use mathlib.Core.Path.{refl}
use Rattle.image.specs.Deal.{total}
use Rattle.graph.specs.Fold.{count}
use Rattle.builder.specs.Cursor.{cases_before, sources_before, edges_before}
use Rattle.builder.proofs.cursor.cursor_start.Goals as goal

pub returns : goal.returns
unfolding cases_before sources_before edges_before total count
returns c m = refl
