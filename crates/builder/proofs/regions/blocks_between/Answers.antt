-- One block more. Assumes nothing.
use mathlib.Core.Path.{ap₂, ◌∙◌}
use Prim.Native.Nat.{◌+◌, ◌-◌}
use native.Mathlib.Omega.{arith}
use lib.ListN.{get_or, drop}
use Rattle.std.proofs.lemmas.List.{get_or-take, get_or-drop}
use Rattle.graph.specs.BlockSet.{including}
use Rattle.builder.proofs.RegionLaws.{set-none, set_more}
use Rattle.builder.proofs.regions.blocks_between.Goals as goal

pub loop-block-init : goal.loop-block-init
loop-block-init c = set-none (λ i. get_or c.args.blocks.now (c.args.first + i) 0)

pub loop-block-preserved : goal.loop-block-preserved
loop-block-preserved c = let k = c.loop-block.block-index in
    let first = c.args.first in
    let blocks = c.args.blocks.now in
    c.put_in.ensures
    ∙ ap₂ including c.loop-block.invariant (c.from.ensures ∙ get_or-take (c.args.past - first) (drop first blocks) k 0 (omega arith) ∙ get_or-drop first blocks k 0)
    ∙ set_more (λ i. get_or blocks (first + i) 0) k
