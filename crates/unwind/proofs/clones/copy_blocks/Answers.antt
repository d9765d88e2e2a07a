use native.Mathlib.Omega.{arith}
use Rattle.graph.proofs.RecordLaws.{block_most}
use Rattle.graph.proofs.NextLaws.{left-all, left_lowest, left-none, left_next, left_less}
use Rattle.unwind.proofs.StoodLaws.{blocks_grow, blocks_start, blocks_next, blocks_end}
use Rattle.unwind.proofs.clones.copy_blocks.Goals as goal

pub loop-b-init : goal.loop-b-init
loop-b-init c = rw (left-all c.args.set.now) (blocks_start c.args.g.now c.args.set.now (omega arith) c.requires)

pub returns : goal.returns
returns c = blocks_end c.args.g.now c.loop-b.g c.args.set.now _ c.loop-b.invariant (left-none c.args.set.now (omega arith) c.loop-b.from c.in_default.ensures)

pub block_in-copy-requires : goal.block_in-copy-requires
block_in-copy-requires c = omega (arith, c.requires _ c.in-Some.ensures.1, blocks_grow c.loop-b.invariant.done c.loop-b.invariant.stored)

pub loop-b-smaller : goal.loop-b-smaller
loop-b-smaller c = left_less c.args.set.now (omega arith) c.loop-b.from _ c.in-Some.ensures

pub loop-b-preserved : goal.loop-b-preserved
loop-b-preserved c = let low = c.in-Some.ensures in
    let at = left_lowest c.args.set.now (omega arith) c.loop-b.from _ low in
    rw (left_next c.args.set.now (omega arith) c.loop-b.from _ low) (blocks_next c.args.g.now c.loop-b.g c.args.set.now _ c.loop-b.invariant _ at.0 at.1 at.2 _ _ c.block_in-copy.ensures c.add_block.ensures)

pub next_in-requires : goal.next_in-requires
next_in-requires c = let all = c.block_count-blocks.ensures in
    (omega (arith, all, block_most c.args.g.now), λ b m. omega (arith, all, c.requires b m))
