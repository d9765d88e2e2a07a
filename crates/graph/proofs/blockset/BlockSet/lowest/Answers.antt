-- `lowest` meets its contract. Assumes nothing.
use native.Mathlib.Omega.{arith}
use Rattle.graph.proofs.BlockLaws.{member_below}
use Rattle.graph.proofs.blockset.BlockSet.lowest.Goals as goal

pub lowest_below-requires : goal.lowest_below-requires
lowest_below-requires c = (omega arith, λ b there. member_below _ b c.sixteen.ensures there)
