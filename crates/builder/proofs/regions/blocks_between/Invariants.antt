-- The invariant: the set has the blocks of the positions passed. Assumes nothing.
use mathlib.Core.Path.{◌≡◌}
use Prim.Native.Nat.{◌+◌}
use lib.ListN.{get_or}
use Rattle.graph.specs.Regions.{set_below}
use Rattle.builder.proofs.regions.blocks_between.Given as goal

abbrev pub invariant-loop-block : goal.invariant-loop-block
invariant-loop-block l = l.set ≡ set_below (λ i. get_or l.blocks (l.first + i) 0) l.block-index
