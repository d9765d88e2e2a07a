use native.Mathlib.Omega.{arith}
use Rattle.graph.proofs.RecordLaws.{block_most}
use Rattle.graph.proofs.NextLaws.{left-all, left_lowest, left-none, left_next, left_less}
use Rattle.unwind.specs.Clones.{first_edges}
use Rattle.unwind.proofs.StoodLaws.{linked_kept, set_start, set_next, set_end}
use Rattle.unwind.proofs.clones.copy_edges.Goals as goal

pub loop-b-init : goal.loop-b-init
loop-b-init c = rw (left-all c.args.set.now) (set_start c.args.m c.args.base c.args.set.now c.args.g.now (omega arith))

pub returns : goal.returns
returns c = set_end c.args.m c.args.base c.args.set.now c.args.g.now c.loop-b.g _ c.loop-b.invariant (left-none c.args.set.now (omega arith) c.loop-b.from c.in_default.ensures)

pub copy_from-requires-clause-linked : goal.copy_from-requires-clause-linked
unfolding first_edges
copy_from-requires-clause-linked c = linked_kept c.loop-b.invariant.added c.args.m c.args.head.now c.args.next.now c.requires.linked

pub loop-b-smaller : goal.loop-b-smaller
loop-b-smaller c = left_less c.args.set.now (omega arith) c.loop-b.from _ c.in-Some.ensures

pub loop-b-preserved : goal.loop-b-preserved
loop-b-preserved c = let low = c.in-Some.ensures in
    let at = left_lowest c.args.set.now (omega arith) c.loop-b.from _ low in
    rw (left_next c.args.set.now (omega arith) c.loop-b.from _ low) (set_next c.args.m c.args.base c.args.set.now c.args.g.now c.loop-b.g _ c.loop-b.invariant c.requires.linked.stood _ at.0 at.1 at.2 _ c.copy_from.ensures)

pub next_in-requires : goal.next_in-requires
next_in-requires c = let all = c.block_count-blocks.ensures in
    (omega (arith, all, block_most c.args.g.now), λ b m. omega (arith, all, c.requires.blocks b m))

pub copy_from-requires-clause-block : goal.copy_from-requires-clause-block
unfolding first_edges
copy_from-requires-clause-block c = omega (arith, c.requires.blocks _ c.in-Some.ensures.1, c.requires.linked.roomy.blocks)
