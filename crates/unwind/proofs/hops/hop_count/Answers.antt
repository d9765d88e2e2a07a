-- `hop_count` meets its contract. Assumes nothing.
use mathlib.Core.Path.{sym, ◌∙◌}
use native.Mathlib.Omega.{arith}
use Rattle.graph.specs.Section.{size}
use Rattle.unwind.proofs.HopLaws.{hops_number}
use Rattle.unwind.proofs.hops.hop_count.Goals as goal

pub returns : goal.returns
unfolding size
returns c = (c.rows_in.ensures ∙ sym (hops_number c.args.h.now), omega (arith, c.rows_in.ensures))
