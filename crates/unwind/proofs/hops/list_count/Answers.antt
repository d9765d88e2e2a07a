-- `list_count` meets its contract. Assumes nothing.
use mathlib.Core.Path.{sym, ◌∙◌}
use native.Mathlib.Omega.{arith}
use Rattle.graph.specs.Section.{size}
use Rattle.unwind.proofs.HopLaws.{lists_long}
use Rattle.unwind.proofs.hops.list_count.Goals as goal

pub returns : goal.returns
unfolding size
returns c = (c.rows_in.ensures ∙ sym (lists_long c.args.h.now), omega (arith, c.rows_in.ensures))
